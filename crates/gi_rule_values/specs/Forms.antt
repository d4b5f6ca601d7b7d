-- How rewrites are written: types, operations of one result, numbers and definitions.
use Rattle.std.specs.Prelude.{ℕ, zero, suc, pos, ◌+◌, List, [], ◌∷◌}
use Rattle.gi_llt.specs.declared.Llt.{Llt}
use Rattle.gi_llt.specs.declared.Llt.TheVariants.{Scalar}
use Rattle.gi_mir.specs.Data.{no_flags}
use Rattle.gi_mir.specs.declared.opcode.Opcode.{Opcode}
use Rattle.gi_mir.specs.declared.opcode.Opcode.TheVariants as op
use Rattle.gi_mir.specs.declared.operand.Flags.{Flags}
use Rattle.gi_mir.specs.declared.operand.Operand.TheVariants as operand
use Rattle.gi_mir.specs.declared.operand.Pred.{Pred}
use Rattle.gi_rule_values.specs.Data.{DefinitionData, OperationData, RewriteData}
use Rattle.gi_rule_values.specs.declared.rewrite.Slot.{Slot}
use Rattle.gi_rule_values.specs.declared.rewrite.Slot.TheVariants.{At, Stands}

-- a scalar of so many bits
abbrev pub s : ℕ → Llt
s bits = Scalar bits

-- an operation with its flags, and one without flags
abbrev pub flagged : Flags → Opcode → List Slot → List Llt → OperationData
flagged flags opcode slots types = record { op = opcode; flags = flags; slots = slots; types = types }

abbrev pub plain : Opcode → List Slot → Llt → OperationData
plain opcode slots type = flagged no_flags opcode slots (type ∷ [])

-- on the value at one place, and at two
abbrev pub on_one : Opcode → (a : ℕ) → Llt → OperationData
on_one opcode a type = plain opcode (At a ∷ []) type

abbrev pub on_two : Opcode → (a b : ℕ) → Llt → OperationData
on_two opcode a b type = plain opcode (At a ∷ At b ∷ []) type

-- a comparison of the values at two places
abbrev pub compare : Pred → (a b : ℕ) → Llt → OperationData
compare pred a b type = plain op.GenericCompare (Stands (operand.Predicate pred) ∷ At a ∷ At b ∷ []) type

-- the low bits of the value at a place, with their sign
abbrev pub in_register : (a from : ℕ) → Llt → OperationData
in_register a from type = plain op.GenericSignExtendInRegister (At a ∷ Stands (operand.Int (pos from)) ∷ []) type

-- a constant of so many bits
abbrev pub constant : Flags → (bits value : ℕ) → OperationData
constant flags bits value = flagged flags op.GenericConstant (Stands (operand.Constant bits value) ∷ []) (s bits ∷ [])

abbrev pub number : (bits value : ℕ) → OperationData
number bits value = constant no_flags bits value

-- what stands at a place is the result of an operation
abbrev pub holds : (place : ℕ) → OperationData → DefinitionData
holds place operation = record { operation = operation; results = place ∷ [] }

-- a root of one result, which what was made last stands for or what stands at this place
abbrev pub rewrite : (inputs : List Llt) → List DefinitionData → OperationData → List OperationData → (result : ℕ) → RewriteData
rewrite inputs definitions root made result = record { inputs = inputs; definitions = definitions; root = root; made = made; results = result ∷ [] }

-- ══ Parts of one width, one after another ══

abbrev pub parts : (count width : ℕ) → List Llt
parts zero width = []
parts (suc count) width = s width ∷ parts count width

abbrev pub places_from : (place count : ℕ) → List ℕ
places_from place zero = []
places_from place (suc count) = place ∷ places_from (place + 1) count

abbrev pub slots_from : (place count : ℕ) → List Slot
slots_from place zero = []
slots_from place (suc count) = At place ∷ slots_from (place + 1) count
