-- Whether the types of an instruction's registers meet its row, where a register may have every type.
-- (Generic Opcodes; Machine IR's target-independent opcodes.)
use Rattle.std.specs.Prelude.{ℕ, ◌*◌, ◌%◌, Bool, true, false, ◌&&◌, nat_lt, nat_le, ◌==◌, List, [], ◌∷◌, ◌++◌, Option, Some, None, length, map, replicate, take, drop, if◌then◌else◌}
use Rattle.std.specs.List.{list_all, list_any}
use Rattle.std.specs.Option.{option_or}
use Rattle.gi_llt.specs.Llt.{width_of}
use Rattle.gi_llt.specs.declared.Llt.{Llt}
use Rattle.gi_mir.specs.Accepted.{letters, is_letter, class_of, are_one, is_sum}
use Rattle.gi_mir.specs.Data.{InstrData, FunctionData}
use Rattle.gi_mir.specs.Registers.{kind_of, type_of_kind}
use Rattle.gi_mir.specs.Row.{memory_of, typing_of}
use Rattle.gi_mir.specs.Types.{scalar_bits}
use Rattle.gi_mir.specs.Typings.{TypingData}
use Rattle.gi_mir.specs.Formed.{is_use}
use Rattle.gi_mir.specs.declared.entry.InMemory.{InMemory}
use Rattle.gi_mir.specs.declared.opcode.Opcode.{Opcode}
use Rattle.gi_mir.specs.declared.opcode.Opcode.TheVariants as op
use Rattle.gi_mir.specs.declared.operand.MemOp.{MemOp}
use Rattle.gi_mir.specs.declared.operand.Operand.{Operand}
use Rattle.gi_mir.specs.declared.operand.Operand.TheVariants as operand
use Rattle.gi_mir.specs.declared.stage.Stage.{Stage}
use Rattle.gi_mir.specs.declared.stage.Stage.TheVariants as stage
use Rattle.gi_mir.specs.declared.typing.Letter.{Letter}
use Rattle.gi_mir.specs.declared.typing.Letter.TheVariants as letter
use Rattle.gi_mir.specs.declared.typing.Relation.{Relation}
use Rattle.gi_mir.specs.declared.typing.Relation.TheVariants as relation
use Rattle.gi_meaning.specs.InRow.{results_in, sources_in, has_room}
use Rattle.gi_valid.specs.Definitions.{is_copy}

-- ══ Phases ══

-- whether registers have types: they do, they do and a copy joins any two while selection goes on, or they don't
pub data Phase : Type 0 where
  Typed : Phase
  Selecting : Phase
  Untyped : Phase

abbrev pub phase_of : Stage → Phase
phase_of stage.Selected = Untyped
phase_of _ = Typed

-- the type of a register, where it hasn't every type
abbrev pub type_in : Phase → FunctionData → ℕ → Option Llt
type_in Untyped f r = None
type_in _ f r = type_of_kind (kind_of f r)

-- ══ The places of a letter ══

abbrev pub places_with : Letter → List Letter → (more : Option Letter) → List (Option Llt) → List (Option Llt)
places_with l [] None types = []
places_with l [] (Some m) types = if is_letter l m then types else []
places_with l (m ∷ ms) more [] = []
places_with l (m ∷ ms) more (ty ∷ types) = if is_letter l m then ty ∷ places_with l ms more types else places_with l ms more types

abbrev pub places_of_letter : Letter → TypingData → (results sources : List (Option Llt)) → List (Option Llt)
places_of_letter l typing results sources =
    places_with l typing.results typing.more_results results ++ places_with l typing.sources typing.more_sources sources

-- the types that are known
abbrev pub known : List (Option Llt) → List Llt
known [] = []
known (None ∷ types) = known types
known (Some ty ∷ types) = ty ∷ known types

-- ══ The relation between A and B ══

-- so many parts, two to sixteen
abbrev pub is_count : (count : ℕ) → Bool
is_count count = nat_le 2 count && nat_le count 16

-- some types up to twice the width of a register are so related, of which these are the first that are known
abbrev pub may_relate : (x : ℕ) → Relation → (firsts seconds : List Llt) → (count : ℕ) → Bool
may_relate x relation.Free firsts seconds count = true
may_relate x relation.Narrower (a ∷ firsts) (b ∷ seconds) count = nat_lt (scalar_bits a) (scalar_bits b)
may_relate x relation.Narrower (a ∷ firsts) [] count = nat_lt (scalar_bits a) (2 * x)
may_relate x relation.Narrower [] (b ∷ seconds) count = nat_lt 1 (scalar_bits b)
may_relate x relation.Narrower [] [] count = true
may_relate x relation.Wider (a ∷ firsts) (b ∷ seconds) count = nat_lt (scalar_bits b) (scalar_bits a)
may_relate x relation.Wider (a ∷ firsts) [] count = nat_lt 1 (scalar_bits a)
may_relate x relation.Wider [] (b ∷ seconds) count = nat_lt (scalar_bits b) (2 * x)
may_relate x relation.Wider [] [] count = true
may_relate x relation.Sum (a ∷ firsts) (b ∷ seconds) count = is_sum a b count
may_relate x relation.Sum (a ∷ firsts) [] count = is_count count && (scalar_bits a % count == 0)
may_relate x relation.Sum [] (b ∷ seconds) count = is_count count && nat_le (count * scalar_bits b) (2 * x)
may_relate x relation.Sum [] [] count = is_count count

-- each letter is one type of its class, and the types A and B may be related
abbrev pub meets : (x : ℕ) → TypingData → (results sources : List (Option Llt)) → Bool
meets x typing results sources =
    list_all (λ l. are_one x (class_of typing l) (known (places_of_letter l typing results sources))) letters
    && may_relate x typing.relation (known (places_of_letter letter.A typing results sources)) (known (places_of_letter letter.B typing results sources))
    (length (places_of_letter letter.B typing results sources))

-- ══ An instruction ══

-- with the types of these registers, and of so many later ones every type, the row can be met
abbrev pub is_met : (x : ℕ) → (type_of : ℕ → Option Llt) → TypingData → (results : ℕ) → (registers : List ℕ) → (later : ℕ) → Bool
is_met x type_of typing results registers later =
    let types : List (Option Llt) = map type_of registers ++ replicate later None in meets x typing (take results types) (drop results types)

-- the first register, of those behind some, with whose type none of the later ones would meet the row
abbrev pub first_unmet : (x : ℕ) → (type_of : ℕ → Option Llt) → TypingData → (results : ℕ) → (before behind : List ℕ) → Option ℕ
first_unmet x type_of typing results before [] = None
first_unmet x type_of typing results before (r ∷ rs) =
    if is_met x type_of typing results (before ++ r ∷ []) (length rs)
    then first_unmet x type_of typing results (before ++ r ∷ []) rs else Some r

-- while selection goes on, a copy of a virtual register to a virtual register meets its row with any two types
abbrev pub joins_any : Phase → InstrData → Bool
joins_any Selecting i = is_copy i.op && list_any is_use i.operands
joins_any _ i = false

abbrev pub unmet : (x : ℕ) → (type_of : ℕ → Option Llt) → Option TypingData → List Operand → Option ℕ
unmet x type_of None os = None
unmet x type_of (Some typing) os = first_unmet x type_of typing (length (results_in os)) [] (results_in os ++ sources_in os)

-- ══ A constant ══

-- `%d:A = G_CONSTANT iN V`
abbrev pub is_constant_op : Opcode → Bool
is_constant_op op.GenericConstant = true
is_constant_op _ = false

-- a type is so many bits wide, where it is known
abbrev pub is_as_wide : (x bits : ℕ) → Option Llt → Bool
is_as_wide x bits None = true
is_as_wide x bits (Some ty) = width_of x ty == bits

-- the register of a constant, where it isn't as wide as the constant
abbrev pub unsized : (x : ℕ) → (type_of : ℕ → Option Llt) → List Operand → Option ℕ
unsized x type_of (operand.Def r kind ∷ operand.Constant bits value ∷ []) = if is_as_wide x bits (type_of r.0) then None else Some r.0
unsized x type_of _ = None

-- ══ A value in memory ══

-- a type has room, where it is known
abbrev pub is_roomy : InMemory → (value : Option Llt) → (in_memory : Llt) → Bool
is_roomy kept None in_memory = true
is_roomy kept (Some ty) in_memory = has_room kept ty in_memory

-- the register that is loaded, or else stored, as the first of these operands
abbrev pub value_in : List Operand → Option ℕ
value_in (operand.Def r kind ∷ os) = Some r.0
value_in (operand.Use r ∷ os) = Some r.0
value_in _ = None

-- this register, where it hasn't room
abbrev pub unless_roomy : (type_of : ℕ → Option Llt) → InMemory → (in_memory : Llt) → (value : Option ℕ) → Option ℕ
unless_roomy type_of kept in_memory None = None
unless_roomy type_of kept in_memory (Some r) = if is_roomy kept (type_of r) in_memory then None else Some r

-- the register that is loaded or stored, where it hasn't room for what is in memory
abbrev pub roomless : (type_of : ℕ → Option Llt) → InMemory → Option MemOp → List Operand → Option ℕ
roomless type_of kept None os = None
roomless type_of kept (Some mem) os = unless_roomy type_of kept mem.ty (value_in os)

-- ══ All ══

-- the register that hasn't room for what is in memory, or else with whose type the row of an instruction can't be met, or that
-- isn't as wide as the instruction's constant
abbrev pub unsuited : (x : ℕ) → (type_of : ℕ → Option Llt) → InstrData → Option ℕ
unsuited x type_of i =
    option_or (roomless type_of (memory_of i.op) i.mem i.operands)
    (option_or (unmet x type_of (typing_of i.op) i.operands) (if is_constant_op i.op then unsized x type_of i.operands else None))

abbrev pub mismatch : (x : ℕ) → Phase → FunctionData → InstrData → Option ℕ
mismatch x phase f i = if joins_any phase i then None else unsuited x (type_in phase f) i
