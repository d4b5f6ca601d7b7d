-- No run is stuck: from each state an instruction, a block and so a run comes to something. Whether an event answers a call
-- can't be decided, since it compares memories; so it is shown that there can't be nothing.
use Rattle.std.proofs.Common.{◌≡◌, ℕ, zero, suc, ◌+◌, ◌-◌, ◌*◌, ◌/◌, ◌%◌, ◌^◌, ◌<◌, ◌≤◌, Bool, true, false, cond, ◌&&◌, ◌||◌, ◌==◌, nat_lt, nat_le, List, [], ◌∷◌, ◌++◌, map, length, Option, Some, None, slice_get, inl, inr, refl, arith, lit<, ltb-true, pos}
use Rattle.std.proofs.lemmas.Nat.{pow_pos}
use Rattle.std.proofs.Math.Nat.{mod-lt, mod-mod, pow-le-pow_right}
use Rattle.gi_llt.specs.Llt.{width_of}
use Rattle.gi_llt.specs.Bits.{wrapped, unsigned}
use Rattle.gi_mir.specs.Data.{InstrData, BlockData}
use Rattle.gi_mir.specs.declared.opcode.Opcode.{Opcode}
use Rattle.gi_mir.specs.declared.opcode.Opcode.TheVariants as op
use Rattle.gi_mir.specs.declared.operand.Flags.{Flags}
use Rattle.gi_mir.specs.declared.operand.MemOp.{MemOp}
use Rattle.gi_mir.specs.declared.operand.SymbolFlag.TheVariants.{Plain, Call, Hi, Lo}
use Rattle.gi_meaning.specs.Argument.{Argument, Value, Number, Bits, Symbol, Called, Test}
use Rattle.gi_meaning.specs.Given.{Given, Exactly, LowBits, one, free, unless_broken, in_low_bits}
use Rattle.gi_meaning.specs.Given as a_given
use Rattle.gi_meaning.specs.Generic.{overflows_division, nullary, unary, binary, ternary, binary_with_bit, ternary_with_bit, comparison, constant, symbol_address, extension_in_register, merge, unmerge, parts_of}
use Rattle.gi_meaning.specs.Machine.{is_immediate, is_amount, on_words, on_immediate, add_immediate, by_amount, load_upper, on_rv64, on_low_half, sum_word, less_word, less_unsigned_word, and_word, or_word, xor_word, left_word, right_word, arithmetic_right_word}
use Rattle.gi_meaning.specs.Memory.{Memory, loaded, stored, is_aligned}
use Rattle.gi_meaning.specs.Meaning.{Meaning, Copying, Generic, Machine, Loading, Storing, MachineLoading, MachineStoring, Jumping, Branching, MachineBranching, Calling, Returning, Nothing, Joining, Extension, Anything, Zeros, Signs, meaning_of}
use Rattle.gi_meaning.specs.Routine.{InTwoWords, has_routine}
use Rattle.gi_meaning.specs.State.{World, State, Outside, outside_of, AreWords, Outcome, Going}
use Rattle.gi_meaning.specs.State as an_outcome
use Rattle.gi_meaning.specs.Act.{Answer, Results, Returns, Asks, Answers, AnswersWords, all_fitted, ReadsAs, AllReadAs, copied, copy, alignment, extended, from_loaded, load, generic_load, StoresThere, Stores, GenericStores, machine_load, MachineStores, jump, branch, machine_branch, clobbered, passed, result_registers, words_of, LeavesFree, CallsGlobal, has_operands, routine_given, result_words, CallsRoutine, Calls, returned, Act}
use Rattle.gi_meaning.specs.Act as an_answer
use Rattle.gi_meaning.specs.Runs.{Setting, arguments_of, written_places, width_of_place, Progress, On, Left, Over, progress_of, StepsFrom, After, Executes, phis_of, after_phis, joined, is_among, Follows, RunsAfterPhis, RunsBlock, Enters}

-- it can't be that nothing passes
abbrev pub NotNone : (A : Type 0) → (A → Type 0) → Type 0
NotNone A P = ((a : A) → P a → ⊥) → ⊥

found : (A : Type 0) (P : A → Type 0) → ((a : A) × P a) → NotNone A P
found A P there = λ none. none there.0 there.1

-- ══ What is given ══

-- there is something among what is given, or it is undefined
abbrev pub IsOpen : Given → Type 0
IsOpen (LowBits known width value) = known ≤ width
IsOpen _ = Unit {0}

low_part : (known width value : ℕ) → known ≤ width → value % 2 ^ known < 2 ^ width
low_part known width value within =
    let small : value % 2 ^ known < 2 ^ known = mod-lt value (pow_pos known) in
    let room : 2 ^ known ≤ 2 ^ width = pow-le-pow_right (lit< tt) within in
    omega (arith, small, room)

pub answers_there : (g : Given) (outside : Outside) → IsOpen g → (answer : Answer) × Answers g outside answer
answers_there (Exactly results) outside h = (Results results outside, (results, refl, refl))
answers_there (LowBits known width value) outside h =
    (Results (value % 2 ^ known ∷ []) outside, (value % 2 ^ known ∷ [], (value % 2 ^ known, low_part known width value h, mod-mod value (2 ^ known), refl), refl))
answers_there a_given.Undefined outside h = (an_answer.Undefined, refl)

pub words_there : (x : ℕ) (widths : List ℕ) (g : Given) (outside : Outside) → IsOpen g → (answer : Answer) × AnswersWords x widths g outside answer
words_there x widths (Exactly words) outside h = (Results (all_fitted x widths words) outside, (words, refl, refl))
words_there x widths (LowBits known width value) outside h = (
  Results (all_fitted x widths (value % 2 ^ known ∷ [])) outside,
  (value % 2 ^ known ∷ [], (value % 2 ^ known, low_part known width value h, mod-mod value (2 ^ known), refl), refl),
)
words_there x widths a_given.Undefined outside h = (an_answer.Undefined, refl)

free_open : (n : ℕ) → IsOpen (free n)
free_open n = omega arith

unless_open : (b : Bool) (n v : ℕ) → IsOpen (unless_broken b n v)
unless_open true n v = free_open n
unless_open false n v = tt

either_open : (b : Bool) (g h : Given) → IsOpen g → IsOpen h → IsOpen (cond b g h)
either_open true g h first second = first
either_open false g h first second = second

if_open : (b : Bool) (g : Given) → IsOpen g → IsOpen (cond b g a_given.Undefined)
if_open b g h = either_open b g a_given.Undefined h tt

low_open : (less : Bool) (known width value : ℕ) (g : Given) → nat_lt known width ≡ less → IsOpen g → IsOpen (cond less (LowBits known width value) g)
low_open true known width value g is h = let below : known < width = ltb-true known width is in omega (arith, below)
low_open false known width value g is h = h

in_low_bits_open : (known width value : ℕ) → IsOpen (in_low_bits known width value)
in_low_bits_open known width value =
    low_open (nat_lt known width) known width value (cond (known == width) (one value) a_given.Undefined) refl (if_open (known == width) (one value) tt)

copied_open : (m n value : ℕ) → IsOpen (copied m n value)
copied_open m n value =
    low_open (nat_lt m n) m n value (cond (m == n) (one value) (one (wrapped n value))) refl (either_open (m == n) (one value) (one (wrapped n value)) tt tt)

pub copy_open : (widths : List ℕ) (arguments : List Argument) → IsOpen (copy widths arguments)
copy_open (n ∷ []) (Value m value ∷ []) = copied_open m n value
copy_open _ _ = tt

-- ══ Operations ══

nullary_open : (f : ℕ → Given) → ((n : ℕ) → IsOpen (f n)) → (widths : List ℕ) (arguments : List Argument) → IsOpen (nullary f widths arguments)
nullary_open f h (n ∷ []) [] = h n
nullary_open f h _ _ = tt

unary_open : (f : ℕ → ℕ → ℕ → Given) → ((m n a : ℕ) → IsOpen (f m n a)) → (widths : List ℕ) (arguments : List Argument) → IsOpen (unary f widths arguments)
unary_open f h (n ∷ []) (Value m a ∷ []) = h m n a
unary_open f h _ _ = tt

binary_open : (f : ℕ → ℕ → ℕ → Given) → ((n a b : ℕ) → IsOpen (f n a b)) → (widths : List ℕ) (arguments : List Argument) → IsOpen (binary f widths arguments)
binary_open f h (n ∷ []) (Value l a ∷ Value m b ∷ []) = h n a b
binary_open f h _ _ = tt

ternary_open : (f : ℕ → ℕ → ℕ → ℕ → Given) → ((n a b c : ℕ) → IsOpen (f n a b c)) → (widths : List ℕ) (arguments : List Argument) → IsOpen (ternary f widths arguments)
ternary_open f h (n ∷ []) (Value l a ∷ Value m b ∷ Value k c ∷ []) = h n a b c
ternary_open f h _ _ = tt

binary_bit_open : (f : ℕ → ℕ → ℕ → Given) → ((n a b : ℕ) → IsOpen (f n a b)) → (widths : List ℕ) (arguments : List Argument) → IsOpen (binary_with_bit f widths arguments)
binary_bit_open f h (n ∷ one_bit ∷ []) (Value l a ∷ Value m b ∷ []) = h n a b
binary_bit_open f h _ _ = tt

ternary_bit_open : (f : ℕ → ℕ → ℕ → ℕ → Given) → ((n a b c : ℕ) → IsOpen (f n a b c)) → (widths : List ℕ) (arguments : List Argument) → IsOpen (ternary_with_bit f widths arguments)
ternary_bit_open f h (n ∷ one_bit ∷ []) (Value l a ∷ Value m b ∷ Value k c ∷ []) = h n a b c
ternary_bit_open f h _ _ = tt

comparison_open : (widths : List ℕ) (arguments : List Argument) → IsOpen (comparison widths arguments)
comparison_open (n ∷ []) (Test pred ∷ Value l a ∷ Value m b ∷ []) = tt
comparison_open _ _ = tt

constant_open : (widths : List ℕ) (arguments : List Argument) → IsOpen (constant widths arguments)
constant_open (n ∷ []) (Bits width value ∷ []) = tt
constant_open _ _ = tt

symbol_open : (widths : List ℕ) (arguments : List Argument) → IsOpen (symbol_address widths arguments)
symbol_open (n ∷ []) (Symbol flag name address ∷ []) = tt
symbol_open _ _ = tt

in_register_open : (widths : List ℕ) (arguments : List Argument) → IsOpen (extension_in_register widths arguments)
in_register_open (n ∷ []) (Value m a ∷ Number (pos k) ∷ []) = tt
in_register_open _ _ = tt

merge_open : (widths : List ℕ) (arguments : List Argument) → IsOpen (merge widths arguments)
merge_open (n ∷ []) parts = tt
merge_open _ parts = tt

unmerge_open : (widths : List ℕ) (arguments : List Argument) → IsOpen (unmerge widths arguments)
unmerge_open widths (Value m a ∷ []) = tt
unmerge_open widths _ = tt

-- ══ Instructions of the machine ══

on_words_open : (f : ℕ → ℕ → ℕ → ℕ) (x : ℕ) (arguments : List Argument) → IsOpen (on_words f x arguments)
on_words_open f x (Value l a ∷ Value m b ∷ []) = tt
on_words_open f x _ = tt

on_immediate_open : (f : ℕ → ℕ → ℕ → ℕ) (x : ℕ) (arguments : List Argument) → IsOpen (on_immediate f x arguments)
on_immediate_open f x (Value l a ∷ Number i ∷ []) = if_open (is_immediate i) (one (f x a (unsigned x i))) tt
on_immediate_open f x _ = tt

add_immediate_open : (x : ℕ) (arguments : List Argument) → IsOpen (add_immediate x arguments)
add_immediate_open x (Value l a ∷ Symbol Lo name address ∷ []) = tt
add_immediate_open x (Value l a ∷ Number i ∷ []) = on_immediate_open sum_word x (Value l a ∷ Number i ∷ [])
add_immediate_open x _ = tt

by_amount_open : (limit : ℕ → ℕ) (f : ℕ → ℕ → ℕ → ℕ) (x : ℕ) (arguments : List Argument) → IsOpen (by_amount limit f x arguments)
by_amount_open limit f x (Value l a ∷ Number i ∷ []) = if_open (is_amount (limit x) i) (one (f x a (unsigned x i))) tt
by_amount_open limit f x _ = tt

load_upper_open : (x : ℕ) (arguments : List Argument) → IsOpen (load_upper x arguments)
load_upper_open x (Number i ∷ []) = if_open (is_amount (2 ^ 20) i) _ tt
load_upper_open x (Symbol Hi name address ∷ []) = tt
load_upper_open x _ = tt

rv64_open : (f : ℕ → List Argument → Given) → ((x : ℕ) (arguments : List Argument) → IsOpen (f x arguments)) → (x : ℕ) (arguments : List Argument) → IsOpen (on_rv64 f x arguments)
rv64_open f h x arguments = if_open (x == 64) (f x arguments) (h x arguments)

-- ══ Opcodes ══

abbrev pub OpenMeaning : Meaning → Type 0
OpenMeaning (Generic gives) = (widths : List ℕ) (arguments : List Argument) → IsOpen (gives widths arguments)
OpenMeaning (Machine gives) = (x : ℕ) (arguments : List Argument) → IsOpen (gives x arguments)
OpenMeaning _ = Unit {0}

pub open_meaning : (flags : Flags) (o : Opcode) → OpenMeaning (meaning_of flags o)
open_meaning flags op.ImplicitDef = nullary_open free free_open
open_meaning flags op.GenericImplicitDef = nullary_open free free_open
open_meaning flags op.GenericConstant = constant_open
open_meaning flags op.GenericFreeze = unary_open _ (λ m n a. tt)
open_meaning flags op.GenericFrameIndex = unary_open _ (λ m n a. tt)
open_meaning flags op.GenericGlobalValue = symbol_open
open_meaning flags op.GenericPointerAdd = binary_open _ (λ n a b. tt)
open_meaning flags op.GenericPointerToInteger = unary_open _ (λ m n a. tt)
open_meaning flags op.GenericIntegerToPointer = unary_open _ (λ m n a. tt)
open_meaning flags op.GenericTruncate = unary_open _ (λ m n a. tt)
open_meaning flags op.GenericAnyExtend = unary_open _ (λ m n a. in_low_bits_open m n a)
open_meaning flags op.GenericZeroExtend = unary_open _ (λ m n a. either_open (flags.nneg && nat_le (2 ^ (m - 1)) a) (in_low_bits m n a) (one a) (in_low_bits_open m n a) tt)
open_meaning flags op.GenericSignExtend = unary_open _ (λ m n a. tt)
open_meaning flags op.GenericSignExtendInRegister = in_register_open
open_meaning flags op.GenericMergeValues = merge_open
open_meaning flags op.GenericUnmergeValues = unmerge_open
open_meaning flags op.GenericAdd = binary_open _ (λ n a b. unless_open _ n _)
open_meaning flags op.GenericSubtract = binary_open _ (λ n a b. unless_open _ n _)
open_meaning flags op.GenericMultiply = binary_open _ (λ n a b. unless_open _ n _)
open_meaning flags op.GenericAnd = binary_open _ (λ n a b. tt)
open_meaning flags op.GenericOr = binary_open _ (λ n a b. unless_open _ n _)
open_meaning flags op.GenericXor = binary_open _ (λ n a b. tt)
open_meaning flags op.GenericUnsignedDivide = binary_open _ (λ n a b. either_open (b == 0) a_given.Undefined _ tt (unless_open _ n _))
open_meaning flags op.GenericSignedDivide = binary_open _ (λ n a b. either_open ((b == 0) || overflows_division n a b) a_given.Undefined _ tt (unless_open _ n _))
open_meaning flags op.GenericUnsignedRemainder = binary_open _ (λ n a b. either_open (b == 0) a_given.Undefined _ tt tt)
open_meaning flags op.GenericSignedRemainder = binary_open _ (λ n a b. either_open ((b == 0) || overflows_division n a b) a_given.Undefined _ tt tt)
open_meaning flags op.GenericShiftLeft = binary_open _ (λ n a b. either_open (nat_le n b) (free n) _ (free_open n) (unless_open _ n _))
open_meaning flags op.GenericLogicalShiftRight = binary_open _ (λ n a b. either_open (nat_le n b) (free n) _ (free_open n) (unless_open _ n _))
open_meaning flags op.GenericArithmeticShiftRight = binary_open _ (λ n a b. either_open (nat_le n b) (free n) _ (free_open n) (unless_open _ n _))
open_meaning flags op.GenericUnsignedAddOverflow = binary_bit_open _ (λ n a b. tt)
open_meaning flags op.GenericUnsignedSubtractOverflow = binary_bit_open _ (λ n a b. tt)
open_meaning flags op.GenericUnsignedAddCarry = ternary_bit_open _ (λ n a b c. tt)
open_meaning flags op.GenericUnsignedSubtractBorrow = ternary_bit_open _ (λ n a b c. tt)
open_meaning flags op.GenericUnsignedMultiplyHigh = binary_open _ (λ n a b. tt)
open_meaning flags op.GenericSignedMultiplyHigh = binary_open _ (λ n a b. tt)
open_meaning flags op.GenericCompare = comparison_open
open_meaning flags op.GenericSelect = ternary_open _ (λ n a b c. tt)
open_meaning flags op.GenericSignedMinimum = binary_open _ (λ n a b. tt)
open_meaning flags op.GenericSignedMaximum = binary_open _ (λ n a b. tt)
open_meaning flags op.GenericUnsignedMinimum = binary_open _ (λ n a b. tt)
open_meaning flags op.GenericUnsignedMaximum = binary_open _ (λ n a b. tt)
open_meaning flags op.GenericAbsolute = unary_open _ (λ m n a. tt)
open_meaning flags op.GenericCountLeadingZeros = unary_open _ (λ m n a. tt)
open_meaning flags op.GenericCountTrailingZeros = unary_open _ (λ m n a. tt)
open_meaning flags op.GenericPopulationCount = unary_open _ (λ m n a. tt)
open_meaning flags op.GenericCountLeadingZerosNotOfZero = unary_open _ (λ m n a. either_open (a == 0) (free n) _ (free_open n) tt)
open_meaning flags op.GenericCountTrailingZerosNotOfZero = unary_open _ (λ m n a. either_open (a == 0) (free n) _ (free_open n) tt)
open_meaning flags op.GenericByteSwap = unary_open _ (λ m n a. tt)
open_meaning flags op.GenericFunnelShiftLeft = ternary_open _ (λ n a b c. tt)
open_meaning flags op.GenericFunnelShiftRight = ternary_open _ (λ n a b c. tt)
open_meaning flags op.GenericRotateLeft = binary_open _ (λ n a b. tt)
open_meaning flags op.GenericRotateRight = binary_open _ (λ n a b. tt)
open_meaning flags op.Add = on_words_open _
open_meaning flags op.Subtract = on_words_open _
open_meaning flags op.And = on_words_open _
open_meaning flags op.Or = on_words_open _
open_meaning flags op.Xor = on_words_open _
open_meaning flags op.SetLess = on_words_open _
open_meaning flags op.SetLessUnsigned = on_words_open _
open_meaning flags op.ShiftLeftLogical = on_words_open _
open_meaning flags op.ShiftRightLogical = on_words_open _
open_meaning flags op.ShiftRightArithmetic = on_words_open _
open_meaning flags op.Multiply = on_words_open _
open_meaning flags op.MultiplyHigh = on_words_open _
open_meaning flags op.MultiplyHighUnsigned = on_words_open _
open_meaning flags op.Divide = on_words_open _
open_meaning flags op.DivideUnsigned = on_words_open _
open_meaning flags op.Remainder = on_words_open _
open_meaning flags op.RemainderUnsigned = on_words_open _
open_meaning flags op.AddImmediate = add_immediate_open
open_meaning flags op.SetLessImmediate = on_immediate_open less_word
open_meaning flags op.SetLessImmediateUnsigned = on_immediate_open less_unsigned_word
open_meaning flags op.AndImmediate = on_immediate_open and_word
open_meaning flags op.OrImmediate = on_immediate_open or_word
open_meaning flags op.XorImmediate = on_immediate_open xor_word
open_meaning flags op.ShiftLeftLogicalImmediate = by_amount_open (λ x. x) left_word
open_meaning flags op.ShiftRightLogicalImmediate = by_amount_open (λ x. x) right_word
open_meaning flags op.ShiftRightArithmeticImmediate = by_amount_open (λ x. x) arithmetic_right_word
open_meaning flags op.LoadUpperImmediate = load_upper_open
open_meaning flags op.AddWord = rv64_open _ (on_words_open _)
open_meaning flags op.SubtractWord = rv64_open _ (on_words_open _)
open_meaning flags op.MultiplyWord = rv64_open _ (on_words_open _)
open_meaning flags op.ShiftLeftLogicalWord = rv64_open _ (on_words_open _)
open_meaning flags op.ShiftRightLogicalWord = rv64_open _ (on_words_open _)
open_meaning flags op.ShiftRightArithmeticWord = rv64_open _ (on_words_open _)
open_meaning flags op.DivideWord = rv64_open _ (on_words_open _)
open_meaning flags op.DivideUnsignedWord = rv64_open _ (on_words_open _)
open_meaning flags op.RemainderWord = rv64_open _ (on_words_open _)
open_meaning flags op.RemainderUnsignedWord = rv64_open _ (on_words_open _)
open_meaning flags op.AddImmediateWord = rv64_open _ (on_immediate_open (on_low_half sum_word))
open_meaning flags op.ShiftLeftLogicalImmediateWord = rv64_open _ (by_amount_open (λ x. 32) (on_low_half left_word))
open_meaning flags op.ShiftRightLogicalImmediateWord = rv64_open _ (by_amount_open (λ x. 32) (on_low_half right_word))
open_meaning flags op.ShiftRightArithmeticImmediateWord = rv64_open _ (by_amount_open (λ x. 32) (on_low_half arithmetic_right_word))
open_meaning flags _ = tt

-- ══ Loads and stores ══

extended_open : (extension : Extension) (m n value : ℕ) → IsOpen (extended extension m n value)
extended_open Anything m n value = in_low_bits_open m n value
extended_open Zeros m n value = tt
extended_open Signs m n value = tt

from_loaded_open : (value : Option ℕ) (extension : Extension) (m n : ℕ) → IsOpen (from_loaded value extension m n)
from_loaded_open None extension m n = tt
from_loaded_open (Some value) extension m n = extended_open extension m n value

load_open : (x align m n : ℕ) (extension : Extension) (memory : Memory) (address : ℕ) → IsOpen (load x align m n extension memory address)
load_open x align m n extension memory address =
    if_open (is_aligned align address) (from_loaded (loaded x (m / 8) memory address) extension m n) (from_loaded_open (loaded x (m / 8) memory address) extension m n)

pub generic_load_open : (x : ℕ) (extension : Extension) (mem : Option MemOp) (widths : List ℕ) (arguments : List Argument) (memory : Memory) → IsOpen (generic_load x extension mem widths arguments memory)
generic_load_open x extension (Some mem) (n ∷ []) (Value l address ∷ []) memory =
    if_open mem.load (load x (alignment x mem) (width_of x mem.ty) n extension memory address) (load_open x (alignment x mem) (width_of x mem.ty) n extension memory address)
generic_load_open x extension _ _ _ memory = tt

pub machine_load_open : (x : ℕ) (exists : ℕ → Bool) (bytes : ℕ) (extension : Extension) (arguments : List Argument) (memory : Memory) → IsOpen (machine_load x exists bytes extension arguments memory)
machine_load_open x exists bytes extension (Value l base ∷ Number offset ∷ []) memory =
    if_open (exists x && is_immediate offset) (load x bytes (bytes * 8) x extension memory (wrapped x (base + unsigned x offset))) (load_open x bytes (bytes * 8) x extension memory (wrapped x (base + unsigned x offset)))
machine_load_open x exists bytes extension _ memory = tt

either_there : (b : Bool) (P Q : Answer → Type 0) → ((answer : Answer) × P answer) → ((answer : Answer) × Q answer) → (answer : Answer) × cond b (P answer) (Q answer)
either_there true P Q first second = first
either_there false P Q first second = second

-- what is undefined answers that
abbrev IsUndefined : Answer → Type 0
IsUndefined answer = answer ≡ an_answer.Undefined

undefined_there : (answer : Answer) × IsUndefined answer
undefined_there = (an_answer.Undefined, refl)

store_there : (old : Option ℕ) (x bytes address value : ℕ) (outside : Outside) → (answer : Answer) × StoresThere old x bytes address value outside answer
store_there None x bytes address value outside = (an_answer.Undefined, refl)
store_there (Some old) x bytes address value outside = (Results [] (record outside { memory = stored x bytes outside.memory address value }), refl)

stores_there : (x align bytes address value : ℕ) (outside : Outside) → (answer : Answer) × Stores x align bytes address value outside answer
stores_there x align bytes address value outside =
    either_there (is_aligned align address) (StoresThere (loaded x bytes outside.memory address) x bytes address value outside) IsUndefined
    (store_there (loaded x bytes outside.memory address) x bytes address value outside) undefined_there

generic_stores_there : (x : ℕ) (mem : Option MemOp) (arguments : List Argument) (outside : Outside) → (answer : Answer) × GenericStores x mem arguments outside answer
generic_stores_there x (Some mem) (Value n value ∷ Value l address ∷ []) outside =
    either_there mem.load IsUndefined (Stores x (alignment x mem) (width_of x mem.ty / 8) address value outside) undefined_there (stores_there x (alignment x mem) (width_of x mem.ty / 8) address value outside)
generic_stores_there x _ _ outside = (an_answer.Undefined, refl)

machine_stores_there : (x : ℕ) (exists : ℕ → Bool) (bytes : ℕ) (arguments : List Argument) (outside : Outside) → (answer : Answer) × MachineStores x exists bytes arguments outside answer
machine_stores_there x exists bytes (Value n value ∷ Value l base ∷ Number offset ∷ []) outside =
    either_there (exists x && is_immediate offset) (Stores x bytes bytes (wrapped x (base + unsigned x offset)) value outside) IsUndefined
    (stores_there x bytes bytes (wrapped x (base + unsigned x offset)) value outside) undefined_there
machine_stores_there x exists bytes _ outside = (an_answer.Undefined, refl)

-- ══ Words that are read ══

word_there : (x width value : ℕ) (b : Bool) → nat_lt width x ≡ b
    → (argument : Argument) × cond b ((word : ℕ) × (word < 2 ^ x) × (word % 2 ^ width ≡ value % 2 ^ width) × (argument ≡ Value x word)) (argument ≡ Value width value)
word_there x width value true is =
    let below : width < x = ltb-true width x is in
    let within : width ≤ x = omega (arith, below) in
    (Value x (value % 2 ^ width), (value % 2 ^ width, low_part width x value within, mod-mod value (2 ^ width), refl))
word_there x width value false is = (Value width value, refl)

read_there : (x : ℕ) (argument : Argument) → (word : Argument) × ReadsAs x argument word
read_there x (Value width value) = word_there x width value (nat_lt width x) refl
read_there x (Number z) = (Number z, refl)
read_there x other = (other, refl)

pub reads_there : (x : ℕ) (arguments : List Argument) → (words : List Argument) × AllReadAs x arguments words
reads_there x [] = ([], refl)
reads_there x (argument ∷ arguments) =
    let first : (word : Argument) × ReadsAs x argument word = read_there x argument in
    let rest : (words : List Argument) × AllReadAs x arguments words = reads_there x arguments in
    (first.0 ∷ rest.0, (first.0, rest.0, first.1, rest.1, refl))

-- ══ Calls ══

-- a zero for each
zeros_are_words : (x : ℕ) (registers : List ℕ) → AreWords x (map (λ r. 0) registers)
zeros_are_words x [] = tt
zeros_are_words x (r ∷ registers) = (pow_pos x, zeros_are_words x registers)

leaves_free_there : (x : ℕ) (results : List ℕ) (outside : Outside) → (answer : Answer) × LeavesFree x results outside answer
leaves_free_there x results outside =
    let zeros : List ℕ = map (λ r. 0) clobbered in
    (Results (zeros ++ results) outside, (zeros, zeros_are_words x clobbered, refl, refl))

global_there : (x : ℕ) (w : World) (callee words : List ℕ) (results : ℕ) (outside : Outside) → NotNone Answer (CallsGlobal x w callee words results outside)
global_there x w callee words results outside =
    λ none. none (Asks callee words)
    (inr (
      λ event next fits.
          let free : (answer : Answer) × LeavesFree x event.results (record { memory = event.after; taken = outside.taken + 1 }) answer =
          leaves_free_there x event.results (record { memory = event.after; taken = outside.taken + 1 }) in
          none free.0 (inl (event, next, fits, free.1)),
      refl,
    ))

two_words_there : (x : ℕ) (g : Given) → (words : List ℕ) × InTwoWords x g words
two_words_there x (Exactly (value ∷ [])) = (parts_of (x ∷ x ∷ []) value, refl)
two_words_there x (Exactly []) = (0 ∷ 0 ∷ [], ((pow_pos x, (pow_pos x, tt)), refl))
two_words_there x (Exactly (v ∷ u ∷ vs)) = (0 ∷ 0 ∷ [], ((pow_pos x, (pow_pos x, tt)), refl))
two_words_there x (LowBits known width value) = (0 ∷ 0 ∷ [], ((pow_pos x, (pow_pos x, tt)), refl))
two_words_there x a_given.Undefined = (0 ∷ 0 ∷ [], ((pow_pos x, (pow_pos x, tt)), refl))

abbrev AnswersRoutine : (x routine : ℕ) → (inputs : List (ℕ × ℕ)) → (results : List ℕ) → Outside → Answer → Type 0
AnswersRoutine x routine inputs results outside answer =
    (words : List ℕ) × InTwoWords x (routine_given x routine inputs) words × LeavesFree x (result_words words results) outside answer

routine_there : (x routine : ℕ) (inputs : List (ℕ × ℕ)) (results : List ℕ) (outside : Outside) → (answer : Answer) × CallsRoutine x routine inputs results outside answer
routine_there x routine inputs results outside =
    let two : (words : List ℕ) × InTwoWords x (routine_given x routine inputs) words = two_words_there x (routine_given x routine inputs) in
    let free : (answer : Answer) × LeavesFree x (result_words two.0 results) outside answer = leaves_free_there x (result_words two.0 results) outside in
    either_there (has_operands inputs && has_routine x routine) (AnswersRoutine x routine inputs results outside) IsUndefined (free.0, (two.0, two.1, free.1)) undefined_there

calls_there : (x : ℕ) (w : World) (arguments : List Argument) (outside : Outside) → NotNone Answer (Calls x w arguments outside)
calls_there x w (Symbol Call callee address ∷ rest) outside = global_there x w callee (words_of (passed rest)) (length (result_registers rest)) outside
calls_there x w (Called Call routine ∷ rest) outside =
    found Answer (CallsRoutine x routine (passed rest) (result_registers rest) outside) (routine_there x routine (passed rest) (result_registers rest) outside)
calls_there x w (Symbol Plain callee address ∷ rest) outside = found Answer IsUndefined undefined_there
calls_there x w (Symbol Hi callee address ∷ rest) outside = found Answer IsUndefined undefined_there
calls_there x w (Symbol Lo callee address ∷ rest) outside = found Answer IsUndefined undefined_there
calls_there x w (Called Plain routine ∷ rest) outside = found Answer IsUndefined undefined_there
calls_there x w (Called Hi routine ∷ rest) outside = found Answer IsUndefined undefined_there
calls_there x w (Called Lo routine ∷ rest) outside = found Answer IsUndefined undefined_there
calls_there x w _ outside = found Answer IsUndefined undefined_there

-- ══ An instruction ══

act_there : (x : ℕ) (w : World) (m : Meaning) (mem : Option MemOp) (widths : List ℕ) (arguments : List Argument) (outside : Outside) → OpenMeaning m → NotNone Answer (Act x w m mem widths arguments outside)
act_there x w Copying mem widths arguments outside h = found Answer (Answers (copy widths arguments) outside) (answers_there (copy widths arguments) outside (copy_open widths arguments))
act_there x w (Generic gives) mem widths arguments outside h = found Answer (Answers (gives widths arguments) outside) (answers_there (gives widths arguments) outside (h widths arguments))
act_there x w (Machine gives) mem widths arguments outside h =
    let read : (words : List Argument) × AllReadAs x arguments words = reads_there x arguments in
    let given : (answer : Answer) × AnswersWords x widths (gives x read.0) outside answer = words_there x widths (gives x read.0) outside (h x read.0) in
    λ none. none given.0 (read.0, read.1, given.1)
act_there x w (Loading extension) mem widths arguments outside h =
    found Answer (Answers (generic_load x extension mem widths arguments outside.memory) outside) (answers_there (generic_load x extension mem widths arguments outside.memory) outside (generic_load_open x extension mem widths arguments outside.memory))
act_there x w Storing mem widths arguments outside h = found Answer (GenericStores x mem arguments outside) (generic_stores_there x mem arguments outside)
act_there x w (MachineLoading exists bytes extension) mem widths arguments outside h =
    let read : (words : List Argument) × AllReadAs x arguments words = reads_there x arguments in
    let given : (answer : Answer) × AnswersWords x widths (machine_load x exists bytes extension read.0 outside.memory) outside answer =
    words_there x widths (machine_load x exists bytes extension read.0 outside.memory) outside (machine_load_open x exists bytes extension read.0 outside.memory) in
    λ none. none given.0 (read.0, read.1, given.1)
act_there x w (MachineStoring exists bytes) mem widths arguments outside h =
    let read : (words : List Argument) × AllReadAs x arguments words = reads_there x arguments in
    let given : (answer : Answer) × MachineStores x exists bytes read.0 outside answer = machine_stores_there x exists bytes read.0 outside in
    λ none. none given.0 (read.0, read.1, given.1)
act_there x w Jumping mem widths arguments outside h = λ none. none (jump arguments) refl
act_there x w Branching mem widths arguments outside h = λ none. none (branch arguments outside) refl
act_there x w (MachineBranching test) mem widths arguments outside h =
    let read : (words : List Argument) × AllReadAs x arguments words = reads_there x arguments in
    λ none. none (machine_branch x test read.0 outside) (read.0, read.1, refl)
act_there x w Calling mem widths arguments outside h = calls_there x w arguments outside
act_there x w Returning mem widths arguments outside h = λ none. none (Returns (returned arguments)) refl
act_there x w Nothing mem widths arguments outside h = λ none. none (Results [] outside) refl
act_there x w Joining mem widths arguments outside h = λ none. none an_answer.Undefined refl

steps_from_there : (s : Setting) (w : World) (i : InstrData) (state : State) (arguments : Option (List Argument)) → NotNone Progress (StepsFrom s w i state arguments)
steps_from_there s w i state None = λ none. none (Over an_outcome.Undefined) refl
steps_from_there s w i state (Some arguments) =
    λ none. act_there s.x w (meaning_of i.flags i.op) i.mem (map (width_of_place s) (written_places (meaning_of i.flags i.op) i.operands)) arguments (outside_of state) (open_meaning i.flags i.op)
    (λ answer act. none (progress_of state (written_places (meaning_of i.flags i.op) i.operands) answer) (answer, act, refl))

-- ══ Runs ══

after_there : (next : Progress) (rest : State → Progress → Type 0) → ((state : State) → NotNone Progress (rest state)) → NotNone Progress (After next rest)
after_there (On state) rest h = h state
after_there (Left b state) rest h = λ none. none (Left b state) refl
after_there (Over outcome) rest h = λ none. none (Over outcome) refl

executes_there : (s : Setting) (w : World) (is : List (ℕ × InstrData)) (state : State) → NotNone Progress (Executes s w is state)
executes_there s w [] state = λ none. none (On state) refl
executes_there s w (i ∷ is) state =
    λ none. steps_from_there s w i.1 state (arguments_of s w state i.1.operands)
    (λ next step. after_there next (Executes s w is) (executes_there s w is) (λ p after. none p (next, step, after)))

falls_there : (t : Bool) (P : Outcome → Type 0) → NotNone Outcome P → NotNone Outcome (λ outcome. cond t (P outcome) (outcome ≡ an_outcome.Undefined))
falls_there true P h = h
falls_there false P h = λ none. none an_outcome.Undefined refl

follows_there : (b : ℕ) (successors : List ℕ) (enters : Option ℕ → ℕ → State → Outcome → Type 0) → ((from : Option ℕ) (c : ℕ) (state : State) → NotNone Outcome (enters from c state))
    → (p : Progress) → NotNone Outcome (Follows b successors enters p)
follows_there b successors enters h (On state) = falls_there (is_among (b + 1) successors) (enters (Some b) (b + 1) state) (h (Some b) (b + 1) state)
follows_there b successors enters h (Left c state) = h (Some b) c state
follows_there b successors enters h (Over over) = λ none. none over refl

after_phis_there : (s : Setting) (w : World) (b : ℕ) (block : BlockData) (enters : Option ℕ → ℕ → State → Outcome → Type 0) → ((from : Option ℕ) (c : ℕ) (state : State) → NotNone Outcome (enters from c state))
    → (state : Option State) → NotNone Outcome (RunsAfterPhis s w b block enters state)
after_phis_there s w b block enters h None = λ none. none an_outcome.Undefined refl
after_phis_there s w b block enters h (Some state) =
    λ none. executes_there s w (after_phis block.instrs) state (λ p ran. follows_there b block.successors enters h p (λ outcome goes. none outcome (p, ran, goes)))

block_there : (s : Setting) (w : World) (block : Option BlockData) (enters : Option ℕ → ℕ → State → Outcome → Type 0) → ((from : Option ℕ) (c : ℕ) (state : State) → NotNone Outcome (enters from c state))
    → (from : Option ℕ) (b : ℕ) (state : State) → NotNone Outcome (RunsBlock s w block enters from b state)
block_there s w None enters h from b state = λ none. none an_outcome.Undefined refl
block_there s w (Some block) enters h from b state = after_phis_there s w b block enters h (joined state from (phis_of block.instrs))

-- from each state at the entry of a block
pub enters_there : (s : Setting) (w : World) (blocks : List BlockData) (n : ℕ) (from : Option ℕ) (b : ℕ) (state : State) → NotNone Outcome (Enters s w blocks n from b state)
enters_there s w blocks zero from b state = λ none. none (Going state.memory state.taken) refl
enters_there s w blocks (suc n) from b state = block_there s w (slice_get blocks b) (Enters s w blocks n) (enters_there s w blocks n) from b state
