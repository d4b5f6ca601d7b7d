-- What an instruction does with its arguments and with what is outside the registers. It knows no virtual
-- register: reading the arguments and writing the results is the step's.
use Rattle.std.specs.Prelude.{◌≡◌, ℕ, ◌+◌, ◌*◌, ◌/◌, ◌%◌, ◌^◌, ◌<◌, List, [], ◌∷◌, ◌++◌, length, map, Option, Some, None, Bool, cond, ◌&&◌, ◌||◌, not, nat_lt, nat_le, ◌==◌, if◌then◌else◌, ◌⊎◌, slice_get}
use Rattle.std.specs.Option.{is_some}
use Rattle.gi_llt.specs.Bits.{wrapped, unsigned, sign_extended}
use Rattle.gi_llt.specs.Llt.{width_of}
use Rattle.gi_mir.specs.declared.operand.MemOp.{MemOp}
use Rattle.gi_mir.specs.declared.operand.SymbolFlag.TheVariants.{Call}
use Rattle.gi_meaning.specs.Given.{Given, LowBits, IsGiven, one, in_low_bits}
use Rattle.gi_meaning.specs.Given as a_given
use Rattle.gi_meaning.specs.Argument.{Argument, Value, Implicit, Defined, Number, Symbol, Called, To}
use Rattle.gi_meaning.specs.Machine.{is_immediate}
use Rattle.gi_meaning.specs.Memory.{Memory, loaded, stored, is_aligned}
use Rattle.gi_meaning.specs.Routine.{computation_at, has_routine, InTwoWords}
use Rattle.gi_meaning.specs.State.{Event, World, Outside, AreWords}
use Rattle.gi_meaning.specs.Meaning.{Meaning, Copying, Generic, Machine, Loading, Storing, MachineLoading, MachineStoring, Jumping, Branching, MachineBranching, Calling, Returning, Nothing, Joining, Extension, Anything, Zeros, Signs}

pub data Answer : Type 0 where
  -- results to be written, and what is outside then
  Results : (results : List ℕ) → (outside : Outside) → Answer
  -- the block is left for another
  Leaves : (block : ℕ) → Answer
  -- the function returns these words
  Returns : (words : List ℕ) → Answer
  -- a call that no event answers
  Asks : (callee : List ℕ) → (words : List ℕ) → Answer
  -- nothing is promised
  Undefined : Answer

-- ══ Results ══

-- results as an operation gives them
abbrev pub Answers : Given → Outside → Answer → Type 0
Answers a_given.Undefined outside answer = answer ≡ Undefined
Answers given outside answer = (results : List ℕ) × IsGiven given results × (answer ≡ Results results outside)

-- a word in a place of width bits: its low bits
abbrev pub fitted : (x width word : ℕ) → ℕ
fitted x width word = if nat_lt width x then wrapped width word else word

abbrev pub all_fitted : (x : ℕ) → (widths words : List ℕ) → List ℕ
all_fitted x (width ∷ widths) (word ∷ words) = fitted x width word ∷ all_fitted x widths words
all_fitted x _ words = words

-- words as a machine instruction gives them, each in its place
abbrev pub AnswersWords : (x : ℕ) → (widths : List ℕ) → Given → Outside → Answer → Type 0
AnswersWords x widths a_given.Undefined outside answer = answer ≡ Undefined
AnswersWords x widths given outside answer =
    (words : List ℕ) × IsGiven given words × (answer ≡ Results (all_fitted x widths words) outside)

-- ══ Reading words: a register of fewer than x bits stands for any word with its value's low bits ══

abbrev pub IsWordOf : (x width value : ℕ) → Argument → Type 0
IsWordOf x width value argument =
    cond (nat_lt width x)
    ((word : ℕ) × (word < 2 ^ x) × (word % 2 ^ width ≡ value % 2 ^ width) × (argument ≡ Value x word))
    (argument ≡ Value width value)

abbrev pub ReadsAs : (x : ℕ) → Argument → Argument → Type 0
ReadsAs x (Value width value) argument = IsWordOf x width value argument
ReadsAs x other argument = argument ≡ other

abbrev pub AllReadAs : (x : ℕ) → List Argument → List Argument → Type 0
AllReadAs x [] words = words ≡ []
AllReadAs x (argument ∷ arguments) words =
    (word : Argument) × (rest : List Argument) × ReadsAs x argument word × AllReadAs x arguments rest × (words ≡ word ∷ rest)

-- ══ Copies ══

-- from a register of m bits to one of n: the same value, or its low bits, or any value with these low bits
abbrev pub copied : (m n value : ℕ) → Given
copied m n value = if nat_lt m n then LowBits m n value else if m == n then one value else one (wrapped n value)

abbrev pub copy : List ℕ → List Argument → Given
copy (n ∷ []) (Value m value ∷ []) = copied m n value
copy _ _ = a_given.Undefined

-- ══ Loads and stores ══

-- the alignment that a memory operand demands, in bytes; one of 0 is that of a word
abbrev pub alignment : (x : ℕ) → MemOp → ℕ
alignment x mem = if mem.align == 0 then x / 8 else mem.align

abbrev pub extended : Extension → (m n value : ℕ) → Given
extended Anything m n value = in_low_bits m n value
extended Zeros m n value = one value
extended Signs m n value = one (sign_extended m n value)

abbrev pub from_loaded : Option ℕ → Extension → (m n : ℕ) → Given
from_loaded None extension m n = a_given.Undefined
from_loaded (Some value) extension m n = extended extension m n value

-- a load of m bits into n
abbrev pub load : (x align m n : ℕ) → Extension → Memory → (address : ℕ) → Given
load x align m n extension memory address =
    if is_aligned align address then from_loaded (loaded x (m / 8) memory address) extension m n else a_given.Undefined

abbrev pub generic_load : (x : ℕ) → Extension → Option MemOp → List ℕ → List Argument → Memory → Given
generic_load x extension (Some mem) (n ∷ []) (Value l address ∷ []) memory =
    if mem.load then load x (alignment x mem) (width_of x mem.ty) n extension memory address else a_given.Undefined
generic_load x extension _ _ _ memory = a_given.Undefined

-- where each byte is there, the memory after the store
abbrev pub StoresThere : Option ℕ → (x bytes : ℕ) → (address value : ℕ) → Outside → Answer → Type 0
StoresThere None x bytes address value outside answer = answer ≡ Undefined
StoresThere (Some old) x bytes address value outside answer =
    answer ≡ Results [] (record outside { memory = stored x bytes outside.memory address value })

abbrev pub Stores : (x align bytes address value : ℕ) → Outside → Answer → Type 0
Stores x align bytes address value outside answer =
    cond (is_aligned align address) (StoresThere (loaded x bytes outside.memory address) x bytes address value outside answer) (answer ≡ Undefined)

abbrev pub GenericStores : (x : ℕ) → Option MemOp → List Argument → Outside → Answer → Type 0
GenericStores x (Some mem) (Value n value ∷ Value l address ∷ []) outside answer =
    cond mem.load (answer ≡ Undefined) (Stores x (alignment x mem) (width_of x mem.ty / 8) address value outside answer)
GenericStores x _ _ outside answer = answer ≡ Undefined

-- a base and an offset; a machine's access is aligned to its size
abbrev pub machine_load : (x : ℕ) → (ℕ → Bool) → (bytes : ℕ) → Extension → List Argument → Memory → Given
machine_load x exists bytes extension (Value l base ∷ Number offset ∷ []) memory =
    if exists x && is_immediate offset
    then load x bytes (bytes * 8) x extension memory (wrapped x (base + unsigned x offset)) else a_given.Undefined
machine_load x exists bytes extension _ memory = a_given.Undefined

abbrev pub MachineStores : (x : ℕ) → (ℕ → Bool) → (bytes : ℕ) → List Argument → Outside → Answer → Type 0
MachineStores x exists bytes (Value n value ∷ Value l base ∷ Number offset ∷ []) outside answer =
    cond (exists x && is_immediate offset) (Stores x bytes bytes (wrapped x (base + unsigned x offset)) value outside answer) (answer ≡ Undefined)
MachineStores x exists bytes _ outside answer = answer ≡ Undefined

-- ══ Branches ══

abbrev pub jump : List Argument → Answer
jump (To block ∷ []) = Leaves block
jump _ = Undefined

abbrev pub branch : List Argument → Outside → Answer
branch (Value n condition ∷ To block ∷ []) outside = if condition == 0 then Results [] outside else Leaves block
branch _ outside = Undefined

abbrev pub machine_branch : (x : ℕ) → (ℕ → ℕ → ℕ → Bool) → List Argument → Outside → Answer
machine_branch x test (Value l a ∷ Value m b ∷ To block ∷ []) outside = if test x a b then Leaves block else Results [] outside
machine_branch x test _ outside = Undefined

-- ══ Calls ══

-- the registers that a call leaves free words in, its results aside
-- (RISC-V ELF psABI, "Integer Register Convention": the return address, temporaries and arguments)
abbrev pub clobbered : List ℕ
clobbered = 1 ∷ 5 ∷ 6 ∷ 7 ∷ 10 ∷ 11 ∷ 12 ∷ 13 ∷ 14 ∷ 15 ∷ 16 ∷ 17 ∷ 28 ∷ 29 ∷ 30 ∷ 31 ∷ []

abbrev pub is_argument_register : ℕ → Bool
is_argument_register register = nat_le 10 register && nat_le register 17

abbrev pub is_result_register : ℕ → Bool
is_result_register register = (register == 10) || (register == 11)

-- the words that are passed, in operand order, with their registers
abbrev pub passed : List Argument → List (ℕ × ℕ)
passed [] = []
passed (Implicit register word ∷ rest) = if is_argument_register register then (register, word) ∷ passed rest else passed rest
passed (_ ∷ rest) = passed rest

-- the registers of the results, in operand order
abbrev pub result_registers : List Argument → List ℕ
result_registers [] = []
result_registers (Defined register ∷ rest) = if is_result_register register then register ∷ result_registers rest else result_registers rest
result_registers (_ ∷ rest) = result_registers rest

abbrev pub words_of : List (ℕ × ℕ) → List ℕ
words_of passed = map (λ p. p.1) passed

-- results above free words in the registers that a call leaves free
abbrev pub LeavesFree : (x : ℕ) → (results : List ℕ) → Outside → Answer → Type 0
LeavesFree x results outside answer =
    (others : List ℕ) × AreWords x others × (length others ≡ length clobbered) × (answer ≡ Results (others ++ results) outside)

-- the event answers the call
pub record Fits (event : Event) (name : List ℕ) (words : List ℕ) (memory : Memory) (count : ℕ) : Type 0 where
  pub callee : event.callee ≡ name
  pub arguments : event.arguments ≡ words
  pub before : event.before ≡ memory
  pub results : length event.results ≡ count

-- the next event of the trace answers the call, which takes it; without one that fits, the call asks
abbrev pub CallsGlobal : (x : ℕ) → World → (callee words : List ℕ) → (results : ℕ) → Outside → Answer → Type 0
CallsGlobal x world callee words results outside answer =
    ((event : Event) × (slice_get world.trace outside.taken ≡ Some event) × Fits event callee words outside.memory results
    × LeavesFree x event.results (record { memory = event.after; taken = outside.taken + 1 }) answer)
    ⊎ (((event : Event) → slice_get world.trace outside.taken ≡ Some event → Fits event callee words outside.memory results → ⊥)
    × (answer ≡ Asks callee words))

-- the word that is passed in a register, where there is one
abbrev pub passed_in : ℕ → List (ℕ × ℕ) → Option ℕ
passed_in register [] = None
passed_in register (each ∷ rest) = if each.0 == register then Some each.1 else passed_in register rest

-- the two operands of a routine, each low word first, stand in x10 to x13, in any order and with others beside them
abbrev pub has_operands : List (ℕ × ℕ) → Bool
has_operands inputs =
    is_some (passed_in 10 inputs) && is_some (passed_in 11 inputs) && is_some (passed_in 12 inputs) && is_some (passed_in 13 inputs)

abbrev pub of_four_words : (x place : ℕ) → Option ℕ → Option ℕ → Option ℕ → Option ℕ → Given
of_four_words x place (Some l) (Some h) (Some m) (Some k) = computation_at place (2 * x) (l + 2 ^ x * h) (m + 2 ^ x * k)
of_four_words x place _ _ _ _ = a_given.Undefined

abbrev pub routine_given : (x place : ℕ) → List (ℕ × ℕ) → Given
routine_given x place inputs = of_four_words x place (passed_in 10 inputs) (passed_in 11 inputs) (passed_in 12 inputs) (passed_in 13 inputs)

-- of the two words of a result, the low one is given in x10 and the high one in x11
abbrev pub result_word : (words : List ℕ) → (register : ℕ) → ℕ
result_word (low ∷ high ∷ []) register = if register == 10 then low else high
result_word _ register = 0

abbrev pub result_words : (words registers : List ℕ) → List ℕ
result_words words registers = map (result_word words) registers

-- the result's words in those of the two registers that the call says it defines; the other one is left free as the rest is
abbrev pub CallsRoutine : (x routine : ℕ) → (inputs : List (ℕ × ℕ)) → (results : List ℕ) → Outside → Answer → Type 0
CallsRoutine x routine inputs results outside answer =
    cond (has_operands inputs && has_routine x routine)
    ((words : List ℕ) × InTwoWords x (routine_given x routine inputs) words × LeavesFree x (result_words words results) outside answer)
    (answer ≡ Undefined)

abbrev pub Calls : (x : ℕ) → World → List Argument → Outside → Answer → Type 0
Calls x world (Symbol Call callee address ∷ rest) outside answer =
    CallsGlobal x world callee (words_of (passed rest)) (length (result_registers rest)) outside answer
Calls x world (Called Call routine ∷ rest) outside answer = CallsRoutine x routine (passed rest) (result_registers rest) outside answer
Calls x world _ outside answer = answer ≡ Undefined

-- the words of the implicit registers, in operand order
abbrev pub returned : List Argument → List ℕ
returned [] = []
returned (Implicit register word ∷ rest) = word ∷ returned rest
returned (_ ∷ rest) = returned rest

-- ══ All ══

-- From arguments and what is outside, the answers that an instruction may give. The widths are those of the
-- places that it writes.
abbrev pub Act : (x : ℕ) → World → Meaning → Option MemOp → (widths : List ℕ) → List Argument → Outside → Answer → Type 0
Act x world Copying mem widths arguments outside answer = Answers (copy widths arguments) outside answer
Act x world (Generic gives) mem widths arguments outside answer = Answers (gives widths arguments) outside answer
Act x world (Machine gives) mem widths arguments outside answer =
    (words : List Argument) × AllReadAs x arguments words × AnswersWords x widths (gives x words) outside answer
Act x world (Loading extension) mem widths arguments outside answer =
    Answers (generic_load x extension mem widths arguments outside.memory) outside answer
Act x world Storing mem widths arguments outside answer = GenericStores x mem arguments outside answer
Act x world (MachineLoading exists bytes extension) mem widths arguments outside answer =
    (words : List Argument) × AllReadAs x arguments words
    × AnswersWords x widths (machine_load x exists bytes extension words outside.memory) outside answer
Act x world (MachineStoring exists bytes) mem widths arguments outside answer =
    (words : List Argument) × AllReadAs x arguments words × MachineStores x exists bytes words outside answer
Act x world Jumping mem widths arguments outside answer = answer ≡ jump arguments
Act x world Branching mem widths arguments outside answer = answer ≡ branch arguments outside
Act x world (MachineBranching test) mem widths arguments outside answer =
    (words : List Argument) × AllReadAs x arguments words × (answer ≡ machine_branch x test words outside)
Act x world Calling mem widths arguments outside answer = Calls x world arguments outside answer
Act x world Returning mem widths arguments outside answer = answer ≡ Returns (returned arguments)
Act x world Nothing mem widths arguments outside answer = answer ≡ Results [] outside
-- a phi takes effect as its block is entered, and nowhere else
Act x world Joining mem widths arguments outside answer = answer ≡ Undefined
