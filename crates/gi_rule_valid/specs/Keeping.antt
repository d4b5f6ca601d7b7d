-- Tests of a rewrite's own list, by which functions stay valid in a phase, where x is the width of a machine register in bits. They look
-- at no number, and are linear in the list.
use Rattle.std.specs.Prelude.{ℕ, ◌+◌, Bool, true, false, not, ◌&&◌, ◌||◌, ◌==◌, nat_lt, nat_le, List, [], ◌∷◌, ◌++◌, Option, Some, None, is_none, length, map, slice_get}
use Rattle.std.specs.List.{list_all}
use Rattle.std.specs.Option.{option_map_or}
use Rattle.gi_llt.specs.Llt.{width_of}
use Rattle.gi_llt.specs.declared.Llt.{Llt}
use Rattle.gi_mir.specs.Data.{InstrData, reg_of}
use Rattle.gi_mir.specs.Types.{same_type}
use Rattle.gi_mir.specs.declared.operand.Kind.TheVariants.{Generic}
use Rattle.gi_mir.specs.declared.operand.Operand.{Operand}
use Rattle.gi_mir.specs.declared.operand.Operand.TheVariants as operand
use Rattle.gi_change_valid.specs.Numbers.{computes, is_in}
use Rattle.gi_valid.specs.Faults.{is_division, is_product}
use Rattle.gi_valid.specs.Typing.{Phase, Untyped, joins_any, unsuited}
use Rattle.gi_rule_values.specs.Data.{DefinitionData, OperationData, RewriteData}
use Rattle.gi_rule_values.specs.declared.rewrite.Slot.{Slot}
use Rattle.gi_rule_values.specs.declared.rewrite.Slot.TheVariants.{At, Stands}
use Rattle.gi_rule_valid.specs.Using.{defined_as, place_for}

-- ══ Slots ══

-- an operand that is the same in every state: a number, a predicate, or `$x0`
abbrev pub is_fixed : Operand → Bool
is_fixed (operand.Phys n) = n == 0
is_fixed (operand.Int number) = true
is_fixed (operand.Constant bits value) = true
is_fixed (operand.Predicate pred) = true
is_fixed _ = false

-- a number or a predicate
abbrev pub is_number : Operand → Bool
is_number (operand.Int number) = true
is_number (operand.Constant bits value) = true
is_number (operand.Predicate pred) = true
is_number _ = false

-- what is looked at: a place before this one, or such an operand
abbrev pub is_asked : (count : ℕ) → Slot → Bool
is_asked count (At place) = nat_lt place count
is_asked count (Stands o) = is_number o

-- what is made may read `$x0` too
abbrev pub is_taken : (count : ℕ) → Slot → Bool
is_taken count (At place) = nat_lt place count
is_taken count (Stands o) = is_fixed o

abbrev pub places_taken : List Slot → List ℕ
places_taken [] = []
places_taken (At place ∷ slots) = place ∷ places_taken slots
places_taken (Stands o ∷ slots) = places_taken slots

-- ══ Definitions ══

-- Each definition computes a register that is read before it, and so the root's results are computed from what it reads; each
-- input is such a register.
abbrev pub are_origins : (known : List ℕ) → List DefinitionData → (count : ℕ) → (inputs : List ℕ) → Bool
are_origins known [] count inputs = list_all (λ place. is_in place known) inputs
are_origins known (d ∷ ds) count inputs =
    computes d.operation.op && list_all (is_asked count) d.operation.slots && (length d.results == length d.operation.types)
    && list_all (λ place. nat_lt place count) d.results
    && option_map_or (λ place. is_in place known) (slice_get d.results 0) false
    && are_origins (known ++ places_taken d.operation.slots) ds count inputs

-- the places from one on
abbrev pub places_from : (place : ℕ) → List Llt → List ℕ
places_from place [] = []
places_from place (ty ∷ types) = place ∷ places_from (place + 1) types

-- ══ What is made ══

-- each computes from places before it
abbrev pub are_placed : (count : ℕ) → List OperationData → Bool
are_placed count [] = true
are_placed count (o ∷ os) = computes o.op && list_all (is_taken count) o.slots && are_placed (place_for count o.types) os

-- ══ Calls ══

-- the first of these types is wider than a register
abbrev pub begins_wide : (x : ℕ) → List Llt → Bool
begins_wide x [] = false
begins_wide x (ty ∷ types) = nat_lt x (width_of x ty)

-- it may come to be a call: a division, or a product wider than a register
abbrev pub may_become_call : (x : ℕ) → OperationData → Bool
may_become_call x o = is_division o.op || (is_product o.op && begins_wide x o.types)

-- what is made may only where the root may
abbrev pub makes_no_new_call : (x : ℕ) → RewriteData → Bool
makes_no_new_call x rewrite = list_all (λ o. not (may_become_call x o)) rewrite.made || may_become_call x rewrite.root

-- ══ Types ══

-- an operation on places instead of registers
abbrev pub place_operand : Slot → Operand
place_operand (At place) = operand.Use (reg_of place)
place_operand (Stands o) = o

abbrev pub on_places : (count : ℕ) → OperationData → InstrData
on_places count o = record {
  op = o.op;
  flags = o.flags;
  operands = defined_as Generic (places_from count o.types) o.types ++ map place_operand o.slots;
  mem = None;
  line = 0;
}

-- each operation passes a test of its types
abbrev pub on_each : (test : (ℕ → Option Llt) → InstrData → Bool) → (types : List Llt) → List OperationData → Bool
on_each test types [] = true
on_each test types (o ∷ os) = test (slice_get (types ++ o.types)) (on_places (length types) o) && on_each test (types ++ o.types) os

-- the types of each operation meet its row, but of a copy while selection goes on
abbrev pub are_met : (x : ℕ) → Phase → (types : List Llt) → List OperationData → Bool
are_met x phase types os = on_each (λ type_of i. is_none (unsuited x type_of i) || joins_any phase i) types os

-- the types of all places
abbrev pub all_types : (types : List Llt) → List OperationData → List Llt
all_types types [] = types
all_types types (o ∷ os) = all_types (types ++ o.types) os

-- ══ Results ══

abbrev pub has_type : Llt → Option Llt → Bool
has_type ty None = false
has_type ty (Some other) = same_type ty other

-- each of these places is behind the inputs, of the type of the root's result, and no other's
abbrev pub are_results : (types : List Llt) → (count : ℕ) → (places : List ℕ) → List Llt → Bool
are_results types count [] [] = true
are_results types count (place ∷ places) (ty ∷ tys) = nat_le count place && has_type ty (slice_get types place) && not (is_in place places) && are_results types count places tys
are_results types count _ _ = false

-- ══ All ══

-- The root computes a result from its operands, from which the inputs come by the definitions; what is made computes from places before it, with calls
-- only where the root may be one, in types that meet its rows, each result of the root once.
abbrev pub keeps : (x : ℕ) → Phase → RewriteData → Bool
keeps x phase rewrite =
    computes rewrite.root.op && nat_lt 0 (length rewrite.root.types)
    && list_all (is_asked (length rewrite.inputs)) rewrite.root.slots
    && are_origins (places_taken rewrite.root.slots) rewrite.definitions (length rewrite.inputs) (places_from 0 rewrite.inputs)
    && are_placed (length rewrite.inputs) rewrite.made
    && makes_no_new_call x rewrite
    && are_met x phase rewrite.inputs rewrite.made
    && are_results (all_types rewrite.inputs rewrite.made) (length rewrite.inputs) rewrite.results rewrite.root.types

-- ══ Phases ══

-- registers have types in this phase
abbrev pub gives_types : Phase → Bool
gives_types Untyped = false
gives_types _ = true
