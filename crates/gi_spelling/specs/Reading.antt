-- How the tokens that count of a line of a block are read from left to right, and what goes wrong first.
-- (MIR Format Reference Manual, "Machine Instructions", "Machine Operands".)
--     definitions = flags OPCODE operands :: (memory)
-- A word in the place of an opcode, a type, a class, a predicate, a routine or a word of memory that is in no table
-- there is unknown; whatever else goes wrong is a matter of syntax. Whether the operands agree with the opcode's row
-- is looked at later.
use Rattle.std.specs.Prelude.{ℕ, Bool, true, false, ◌&&◌, List, [], ◌∷◌, Option, Some, None, Result, Ok, Err, drop, unwrap_or, if◌then◌else◌}
use Rattle.gi_spelling.specs.Kept.{is_comma}
use Rattle.gi_llt.specs.declared.Llt.{Llt}
use Rattle.gi_mir.specs.declared.opcode.Opcode.{Opcode}
use Rattle.gi_mir.specs.declared.opcode.Opcode.TheVariants.{GenericConstant}
use Rattle.gi_mir.specs.declared.operand.Flags.{Flags}
use Rattle.gi_mir.specs.declared.operand.Kind.{Kind}
use Rattle.gi_mir.specs.declared.operand.Kind.TheVariants as kind
use Rattle.gi_mir.specs.declared.operand.Pred.{Pred}
use Rattle.gi_mir.specs.declared.operand.SymbolFlag.{SymbolFlag}
use Rattle.gi_mir.specs.declared.operand.SymbolFlag.TheVariants.{Plain}
use Rattle.gi_mir.specs.Data.{reg_of}
use Rattle.gi_spelling.specs.declared.token.Flag.TheVariants as flag
use Rattle.gi_spelling.specs.declared.token.RegisterClass.{RegisterClass}
use Rattle.gi_spelling.specs.declared.token.RegisterClass.TheVariants as class
use Rattle.gi_spelling.specs.declared.token.Word.{Word}
use Rattle.gi_spelling.specs.declared.token.Word.TheVariants as word
use Rattle.gi_spelling.specs.declared.token.What.{What}
use Rattle.gi_spelling.specs.declared.token.What.TheVariants as what
use Rattle.gi_spelling.specs.declared.token.Item.{Item}
use Rattle.gi_spelling.specs.declared.written.Definition.{Definition}
use Rattle.gi_spelling.specs.declared.written.Definition.TheVariants as definition
use Rattle.gi_spelling.specs.declared.written.Source.{Source}
use Rattle.gi_spelling.specs.declared.written.Source.TheVariants as source
use Rattle.gi_spelling.specs.declared.written.Memory.{Memory}
use Rattle.gi_spelling.specs.declared.written.Separator.{Separator}
use Rattle.gi_spelling.specs.declared.written.Separator.TheVariants.{Comma, Equals, Colons}
use Rattle.gi_spelling.specs.declared.written.Fault.{Fault}
use Rattle.gi_spelling.specs.declared.written.Fault.TheVariants as fault
use Rattle.gi_spelling.specs.Written.{WrittenData}

abbrev pub Read : Type 0 → Type 0
Read X = Result X Fault

abbrev pub syntax : {X : Type 0} → Read X
syntax = Err fault.Syntax

abbrev pub unknown : {X : Type 0} → Item → Read X
unknown item = Err (fault.Unknown item.start item.end)

-- one thing after the other: the first fault decides
abbrev pub then_read : {X Y : Type 0} → Read X → (X → Read Y) → Read Y
then_read (Ok x) next = next x
then_read (Err error) next = Err error

-- where nothing may follow
abbrev pub at_end : {X : Type 0} → X → List Item → Read X
at_end x [] = Ok x
at_end x (item ∷ rest) = syntax

-- where a closing bracket has to stand last
abbrev pub closed_by : {X : Type 0} → What → X → List Item → Read X
closed_by what.Close x rest = at_end x rest
closed_by w x rest = syntax

abbrev pub closed : {X : Type 0} → X → List Item → Read X
closed x [] = syntax
closed x (item ∷ rest) = closed_by item.what x rest

-- ══ Types and definitions ══

abbrev pub type_by : What → Item → Read Llt
type_by (what.Word (word.Type ty)) item = Ok ty
type_by (what.Word w) item = unknown item
type_by w item = syntax

abbrev pub read_type : Item → Read Llt
read_type item = type_by item.what item

-- `T)` behind an opening bracket, and nothing more
abbrev pub read_opened : List Item → Read Llt
read_opened [] = syntax
read_opened (item ∷ rest) = then_read (read_type item) (λ ty. closed ty rest)

abbrev pub opened_by : What → List Item → Read Llt
opened_by what.Open rest = read_opened rest
opened_by w rest = syntax

-- `(T)` and nothing more
abbrev pub read_bracketed : List Item → Read Llt
read_bracketed [] = syntax
read_bracketed (item ∷ rest) = opened_by item.what rest

abbrev pub class_by : What → Item → Read RegisterClass
class_by (what.Word (word.Class class)) item = Ok class
class_by (what.Word w) item = unknown item
class_by w item = syntax

-- the kind of a class: a type stands behind `_` and `gprb`
abbrev pub kind_by : RegisterClass → List Item → Read Kind
kind_by class.Generic rest = then_read (read_bracketed rest) (λ ty. Ok (kind.Generic ty))
kind_by class.Banked rest = then_read (read_bracketed rest) (λ ty. Ok (kind.Banked ty))
kind_by class.General rest = at_end kind.Class rest

abbrev pub read_kind : List Item → Read Kind
read_kind [] = syntax
read_kind (item ∷ rest) = then_read (class_by item.what item) (λ class. kind_by class rest)

-- what stands behind a register that is defined: nothing, a type, or its class
abbrev pub defined_by : ℕ → What → List Item → Read Definition
defined_by number what.Open rest = then_read (read_opened rest) (λ ty. Ok (definition.Typed (reg_of number) ty))
defined_by number what.Colon rest = then_read (read_kind rest) (λ kind. Ok (definition.Full (reg_of number) kind))
defined_by number w rest = syntax

abbrev pub read_defined : ℕ → List Item → Read Definition
read_defined number [] = Ok (definition.Bare (reg_of number))
read_defined number (item ∷ rest) = defined_by number item.what rest

abbrev pub definition_by : What → List Item → Read Definition
definition_by (what.Register number) rest = read_defined number rest
definition_by (what.Physical number) rest = at_end (definition.Physical number) rest
definition_by w rest = syntax

-- a definition, from all tokens up to the next comma
abbrev pub read_definition : List Item → Read Definition
read_definition [] = syntax
read_definition (item ∷ rest) = definition_by item.what rest

-- ══ Operands ══

abbrev pub physical_by : (ℕ → Source) → What → List Item → Read Source
physical_by make (what.Physical number) rest = at_end (make number) rest
physical_by make w rest = syntax

-- `implicit $x10`
abbrev pub read_physical : (ℕ → Source) → List Item → Read Source
read_physical make [] = syntax
read_physical make (item ∷ rest) = physical_by make item.what rest

abbrev pub constant_by : (bits : ℕ) → What → List Item → Read Source
constant_by bits (what.Number number plain) rest = at_end (source.Constant bits number plain) rest
constant_by bits (what.Word word.True) rest = at_end (source.Truth bits true) rest
constant_by bits (what.Word word.False) rest = at_end (source.Truth bits false) rest
constant_by bits w rest = syntax

-- `i32 -5`
abbrev pub read_constant : (bits : ℕ) → List Item → Read Source
read_constant bits [] = syntax
read_constant bits (item ∷ rest) = constant_by bits item.what rest

abbrev pub predicate_by : What → Item → Read Pred
predicate_by (what.Word (word.Predicate pred)) item = Ok pred
predicate_by (what.Word w) item = unknown item
predicate_by w item = syntax

abbrev pub read_predicate_opened : List Item → Read Source
read_predicate_opened [] = syntax
read_predicate_opened (item ∷ rest) = then_read (predicate_by item.what item) (λ pred. closed (source.Predicate pred) rest)

abbrev pub predicate_opened_by : What → List Item → Read Source
predicate_opened_by what.Open rest = read_predicate_opened rest
predicate_opened_by w rest = syntax

-- `intpred(eq)`
abbrev pub read_predicate : List Item → Read Source
read_predicate [] = syntax
read_predicate (item ∷ rest) = predicate_opened_by item.what rest

abbrev pub symbol_by : SymbolFlag → What → Item → List Item → Read Source
symbol_by flag what.Global item rest = at_end (source.Global flag item.start) rest
symbol_by flag (what.Routine place) item rest = at_end (source.Routine flag place) rest
symbol_by flag what.UnknownRoutine item rest = unknown item
symbol_by flag w item rest = syntax

-- `@name` or `&name` behind its flag
abbrev pub read_symbol : SymbolFlag → List Item → Read Source
read_symbol flag [] = syntax
read_symbol flag (item ∷ rest) = symbol_by flag item.what item rest

abbrev pub flag_closed_by : SymbolFlag → What → List Item → Read Source
flag_closed_by flag what.Close rest = read_symbol flag rest
flag_closed_by flag w rest = syntax

abbrev pub read_flag_closed : SymbolFlag → List Item → Read Source
read_flag_closed flag [] = syntax
read_flag_closed flag (item ∷ rest) = flag_closed_by flag item.what rest

abbrev pub symbol_flag_by : What → List Item → Read Source
symbol_flag_by (what.Word (word.SymbolFlag Plain)) rest = syntax
symbol_flag_by (what.Word (word.SymbolFlag flag)) rest = read_flag_closed flag rest
symbol_flag_by w rest = syntax

abbrev pub read_flag_opened : List Item → Read Source
read_flag_opened [] = syntax
read_flag_opened (item ∷ rest) = symbol_flag_by item.what rest

abbrev pub flag_opened_by : What → List Item → Read Source
flag_opened_by what.Open rest = read_flag_opened rest
flag_opened_by w rest = syntax

-- `target-flags(riscv-hi) @name`
abbrev pub read_flagged : List Item → Read Source
read_flagged [] = syntax
read_flagged (item ∷ rest) = flag_opened_by item.what rest

-- a register that is read, and its type if it shows one
abbrev pub read_use : ℕ → List Item → Read Source
read_use number [] = Ok (source.Use (reg_of number))
read_use number (item ∷ rest) = then_read (read_bracketed (item ∷ rest)) (λ ty. Ok (source.TypedUse (reg_of number) ty))

-- a word that begins an operand; the type of a constant is a word of a table
abbrev pub word_operand : (typed : Bool) → Word → Item → List Item → Read Source
word_operand typed word.Implicit item rest = read_physical source.ImplicitUse rest
word_operand typed word.ImplicitDef item rest = read_physical source.ImplicitDef rest
word_operand typed (word.Integer bits) item rest = read_constant bits rest
word_operand typed word.Comparison item rest = read_predicate rest
word_operand typed word.TargetFlags item rest = read_flagged rest
word_operand typed word.SavedMask item rest = at_end source.SavedMask rest
word_operand true w item rest = unknown item
word_operand false w item rest = syntax

abbrev pub operand_by : (typed : Bool) → What → Item → List Item → Read Source
operand_by typed (what.Word w) item rest = word_operand typed w item rest
operand_by typed (what.Number number true) item rest = at_end (source.Int number) rest
operand_by typed (what.Register number) item rest = read_use number rest
operand_by typed (what.Block number) item rest = at_end (source.Block number) rest
operand_by typed (what.Frame number) item rest = at_end (source.Frame number) rest
operand_by typed (what.Physical number) item rest = at_end (source.Physical number) rest
operand_by typed what.Global item rest = symbol_by Plain what.Global item rest
operand_by typed (what.Routine place) item rest = symbol_by Plain (what.Routine place) item rest
operand_by typed what.UnknownRoutine item rest = symbol_by Plain what.UnknownRoutine item rest
operand_by typed w item rest = syntax

-- an operand, from all tokens up to the next comma, where `typed` says that the type of a constant has to stand there
abbrev pub read_operand : (typed : Bool) → List Item → Read Source
read_operand typed [] = syntax
read_operand typed (item ∷ rest) = operand_by typed item.what item rest

-- ══ Lists ══

-- tokens up to each comma: one part more than there are commas
abbrev pub onto_first_part : Item → List (List Item) → List (List Item)
onto_first_part item [] = (item ∷ []) ∷ []
onto_first_part item (part ∷ parts) = (item ∷ part) ∷ parts

abbrev pub parts_of : List Item → List (List Item)
parts_of [] = [] ∷ []
parts_of (item ∷ rest) = if is_comma item.what then [] ∷ parts_of rest else onto_first_part item (parts_of rest)

abbrev pub read_all : {X : Type 0} → (List Item → Read X) → List (List Item) → Read (List X)
read_all read [] = Ok []
read_all read (part ∷ parts) = then_read (read part) (λ x. then_read (read_all read parts) (λ xs. Ok (x ∷ xs)))

-- operands, of which the first may have to be the type of a constant
abbrev pub read_operands : (typed : Bool) → List (List Item) → Read (List Source)
read_operands typed [] = Ok []
read_operands typed (part ∷ parts) = then_read (read_operand typed part) (λ x. then_read (read_operands false parts) (λ xs. Ok (x ∷ xs)))

-- ══ Memory ══

-- A word in the place of another word of memory: one that is none is unknown. Behind `load` or `store`, behind the type,
-- behind the alignment and behind a comma words may stand that are passed over, so these are such places.
abbrev pub is_memory_word : Word → Bool
is_memory_word word.Load = true
is_memory_word word.Store = true
is_memory_word word.Align = true
is_memory_word w = false

abbrev pub wrong_memory_word : {X : Type 0} → Word → Item → Read X
wrong_memory_word w item = if is_memory_word w then syntax else unknown item

abbrev pub access_by : What → Item → Read Bool
access_by (what.Word word.Load) item = Ok true
access_by (what.Word word.Store) item = Ok false
access_by (what.Word w) item = wrong_memory_word w item
access_by w item = syntax

abbrev pub align_word_by : What → Item → Read Word
align_word_by (what.Word word.Align) item = Ok word.Align
align_word_by (what.Word w) item = wrong_memory_word w item
align_word_by w item = syntax

-- a number without a sign, as it is printed
abbrev pub size_by : What → Read ℕ
size_by (what.Number number true) = if number.negative then syntax else Ok number.size
size_by w = syntax

-- behind the comma of something that is passed over
abbrev pub passed_word_by : What → Item → Read Memory
passed_word_by (what.Word w) item = wrong_memory_word w item
passed_word_by w item = syntax

abbrev pub read_passed_word : List Item → Read Memory
read_passed_word [] = syntax
read_passed_word (item ∷ rest) = passed_word_by item.what item

-- `)` behind the alignment
abbrev pub align_end_by : Memory → What → Item → List Item → Read Memory
align_end_by memory what.Close item rest = at_end memory rest
align_end_by memory what.Comma item rest = read_passed_word rest
align_end_by memory (what.Word w) item rest = wrong_memory_word w item
align_end_by memory w item rest = syntax

abbrev pub read_align_end : Memory → List Item → Read Memory
read_align_end memory [] = syntax
read_align_end memory (item ∷ rest) = align_end_by memory item.what item rest

abbrev pub read_align_number : Memory → List Item → Read Memory
read_align_number memory [] = syntax
read_align_number memory (item ∷ rest) = then_read (size_by item.what) (λ align. read_align_end (record memory { align = Some align }) rest)

abbrev pub read_align : Memory → List Item → Read Memory
read_align memory [] = syntax
read_align memory (item ∷ rest) = then_read (align_word_by item.what item) (λ w. read_align_number memory rest)

-- `)` or `, align 2)`
abbrev pub memory_end_by : Memory → What → Item → List Item → Read Memory
memory_end_by memory what.Close item rest = at_end memory rest
memory_end_by memory what.Comma item rest = read_align memory rest
memory_end_by memory (what.Word w) item rest = wrong_memory_word w item
memory_end_by memory w item rest = syntax

abbrev pub read_memory_end : Memory → List Item → Read Memory
read_memory_end memory [] = syntax
read_memory_end memory (item ∷ rest) = memory_end_by memory item.what item rest

abbrev pub memory_closed_by : Memory → What → List Item → Read Memory
memory_closed_by memory what.Close rest = read_memory_end memory rest
memory_closed_by memory w rest = syntax

abbrev pub read_memory_closed : Memory → List Item → Read Memory
read_memory_closed memory [] = syntax
read_memory_closed memory (item ∷ rest) = memory_closed_by memory item.what rest

abbrev pub read_memory_type : (load : Bool) → List Item → Read Memory
read_memory_type load [] = syntax
read_memory_type load (item ∷ rest) = then_read (read_type item) (λ ty. read_memory_closed (record { load = load; ty = ty; align = None }) rest)

abbrev pub memory_opened_by : (load : Bool) → What → Item → List Item → Read Memory
memory_opened_by load what.Open item rest = read_memory_type load rest
memory_opened_by load (what.Word w) item rest = wrong_memory_word w item
memory_opened_by load w item rest = syntax

abbrev pub read_memory_opened : (load : Bool) → List Item → Read Memory
read_memory_opened load [] = syntax
read_memory_opened load (item ∷ rest) = memory_opened_by load item.what item rest

abbrev pub read_access : List Item → Read Memory
read_access [] = syntax
read_access (item ∷ rest) = then_read (access_by item.what item) (λ load. read_memory_opened load rest)

abbrev pub memory_by : What → List Item → Read Memory
memory_by what.Open rest = read_access rest
memory_by w rest = syntax

-- `(load (s32), align 2)`, from all tokens behind `::`
abbrev pub read_memory : List Item → Read Memory
read_memory [] = syntax
read_memory (item ∷ rest) = memory_by item.what rest

-- ══ The line ══

abbrev pub is_equals : What → Bool
is_equals what.Equals = true
is_equals w = false

abbrev pub is_colon : What → Bool
is_colon what.Colon = true
is_colon w = false

-- tokens up to a place, and those behind it, if there is one
pub record Split : Type 0 where
  pub before : List Item
  pub after : Option (List Item)

abbrev pub onto_split : Item → Split → Split
onto_split item split = record split { before = item ∷ split.before }

abbrev pub begins_with_colon : List Item → Bool
begins_with_colon [] = false
begins_with_colon (item ∷ rest) = is_colon item.what

-- how many tokens a separator has
abbrev pub width_of : Separator → ℕ
width_of Comma = 1
width_of Equals = 1
width_of Colons = 2

-- the tokens begin with a separator
abbrev pub begins : Separator → List Item → Bool
begins separator [] = false
begins Comma (item ∷ rest) = is_comma item.what
begins Equals (item ∷ rest) = is_equals item.what
begins Colons (item ∷ rest) = is_colon item.what && begins_with_colon rest

-- at the first such separator
abbrev pub split_at : Separator → List Item → Split
split_at separator [] = record { before = []; after = None }
split_at separator (item ∷ rest) =
    if begins separator (item ∷ rest) then record { before = []; after = Some (drop (width_of separator) (item ∷ rest)) }
    else onto_split item (split_at separator rest)

-- the flags in their order, each once at most
abbrev pub flag_at : List Item → Option What
flag_at [] = None
flag_at (item ∷ rest) = Some item.what

abbrev pub is_no_unsigned_wrap : Option What → Bool
is_no_unsigned_wrap (Some (what.Word (word.Flag flag.NoUnsignedWrap))) = true
is_no_unsigned_wrap w = false

abbrev pub is_no_signed_wrap : Option What → Bool
is_no_signed_wrap (Some (what.Word (word.Flag flag.NoSignedWrap))) = true
is_no_signed_wrap w = false

abbrev pub is_exact : Option What → Bool
is_exact (Some (what.Word (word.Flag flag.Exact))) = true
is_exact w = false

abbrev pub is_disjoint : Option What → Bool
is_disjoint (Some (what.Word (word.Flag flag.Disjoint))) = true
is_disjoint w = false

abbrev pub is_non_negative : Option What → Bool
is_non_negative (Some (what.Word (word.Flag flag.NonNegative))) = true
is_non_negative w = false

pub record Flagged : Type 0 where
  pub flags : Flags
  pub rest : List Item

abbrev pub past_flag : Bool → List Item → List Item
past_flag true items = drop 1 items
past_flag false items = items

abbrev pub read_flags : List Item → Flagged
read_flags items =
    let nuw = is_no_unsigned_wrap (flag_at items) in
    let after_nuw = past_flag nuw items in
    let nsw = is_no_signed_wrap (flag_at after_nuw) in
    let after_nsw = past_flag nsw after_nuw in
    let exact = is_exact (flag_at after_nsw) in
    let after_exact = past_flag exact after_nsw in
    let disjoint = is_disjoint (flag_at after_exact) in
    let after_disjoint = past_flag disjoint after_exact in
    let nneg = is_non_negative (flag_at after_disjoint) in
    record { flags = record { nuw = nuw; nsw = nsw; exact = exact; disjoint = disjoint; nneg = nneg }; rest = past_flag nneg after_disjoint }

abbrev pub opcode_by : What → Item → Read Opcode
opcode_by (what.Word (word.Opcode op)) item = Ok op
opcode_by (what.Word w) item = unknown item
opcode_by w item = syntax

abbrev pub is_constant_op : Opcode → Bool
is_constant_op GenericConstant = true
is_constant_op op = false

-- the operands, if there are any
abbrev pub read_sources : Opcode → List Item → Read (List Source)
read_sources op [] = Ok []
read_sources op (item ∷ rest) = read_operands (is_constant_op op) (parts_of (item ∷ rest))

abbrev pub read_memory_behind : Option (List Item) → Read (Option Memory)
read_memory_behind None = Ok None
read_memory_behind (Some items) = then_read (read_memory items) (λ memory. Ok (Some memory))

-- what stands behind the opcode
abbrev pub read_tail : List Definition → Flags → Opcode → List Item → Read WrittenData
read_tail definitions flags op items =
    then_read (read_sources op (split_at Colons items).before) (λ sources.
    then_read (read_memory_behind (split_at Colons items).after) (λ memory.
    Ok (record { definitions = definitions; flags = flags; op = op; sources = sources; memory = memory })))

abbrev pub read_opcode : List Definition → Flags → List Item → Read WrittenData
read_opcode definitions flags [] = syntax
read_opcode definitions flags (item ∷ rest) = then_read (opcode_by item.what item) (λ op. read_tail definitions flags op rest)

-- the flags, the opcode and what follows
abbrev pub read_body : List Definition → List Item → Read WrittenData
read_body definitions items = read_opcode definitions (read_flags items).flags (read_flags items).rest

-- what may begin a definition
abbrev pub defines : What → Bool
defines (what.Register number) = true
defines (what.Physical number) = true
defines w = false

abbrev pub begins_definition : List Item → Bool
begins_definition [] = false
begins_definition (item ∷ rest) = defines item.what

abbrev pub read_behind : List Definition → Option (List Item) → Read WrittenData
read_behind definitions None = syntax
read_behind definitions (Some rest) = read_body definitions rest

abbrev pub read_defined_line : Split → Read WrittenData
read_defined_line split = then_read (read_all read_definition (parts_of split.before)) (λ definitions. read_behind definitions split.after)

-- an instruction
abbrev pub read_instr : List Item → Read WrittenData
read_instr items = if begins_definition items then read_defined_line (split_at Equals items) else read_body [] items

-- ══ Lines that are passed over ══

-- the instructions whose opcode begins with `DBG_` say nothing
abbrev pub debug_by : What → Bool
debug_by (what.Word word.Debug) = true
debug_by w = false

abbrev pub is_debug : List Item → Bool
is_debug [] = false
is_debug (item ∷ rest) = debug_by item.what

-- what stands in the place of the opcode: behind the first `=` if there is one, and behind the flags
abbrev pub opcode_place : List Item → List Item
opcode_place items = (read_flags (unwrap_or (split_at Equals items).after items)).rest

abbrev pub is_debug_line : List Item → Bool
is_debug_line items = is_debug (opcode_place items)
