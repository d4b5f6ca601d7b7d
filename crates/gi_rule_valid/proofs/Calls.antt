-- Which of what is made may come to be a call.
use Rattle.std.proofs.Common.{◌≡◌, ℕ, true, false, not, ◌&&◌, ◌||◌, nat_lt, List, [], ◌∷◌, Option, Some, length, map, refl, ap, ap₂, ◌∙◌}
use Rattle.std.proofs.lemmas.Bool.{and_parts, and_from}
use Rattle.std.specs.List.{list_all}
use Rattle.std.specs.Option.{option_map_or}
use Rattle.gi_llt.specs.Llt.{width_of}
use Rattle.gi_llt.specs.declared.Llt.{Llt}
use Rattle.gi_mir.specs.Data.{FunctionData}
use Rattle.gi_mir.specs.declared.operand.Kind.{Kind}
use Rattle.gi_refine.specs.Lifting.{grown}
use Rattle.gi_valid.specs.Faults.{is_division, is_product, is_wider, may_call}
use Rattle.gi_valid.specs.Typing.{Phase, type_in}
use Rattle.gi_change_valid.specs.Numbers.{computes}
use Rattle.gi_change_valid.proofs.Made.{never_calls}
use Rattle.gi_change_valid.proofs.Opcodes.{computing}
use Rattle.gi_rule_values.specs.Data.{OperationData}
use Rattle.gi_rule_valid.specs.Keeping.{are_placed, begins_wide, is_taken, may_become_call}
use Rattle.gi_rule_valid.specs.Using.{all_instrs_for, all_registers, instr_for, next_for, operand_for, place_for, registers_for}
use Rattle.gi_rule_valid.proofs.Lists.{as_many, flat, flat_types, placed_one, results_are, slots_none}
use Rattle.gi_rule_valid.proofs.Typed.{somes, split_somes}

wide_is : (x : ℕ) (phase : Phase) (g : FunctionData) (rs : List ℕ) (types : List Llt) → map (type_in phase g) rs ≡ somes types → is_wider x phase g rs ≡ begins_wide x types
wide_is x phase g [] [] are = refl
wide_is x phase g [] (t ∷ types) are = cc
wide_is x phase g (r ∷ rs) [] are = cc
wide_is x phase g (r ∷ rs) (t ∷ types) are =
    let first : ◌≡◌ {A = Option Llt} (type_in phase g r) (Some t) = cc in ap (λ ty. option_map_or (λ u. nat_lt x (width_of x u)) ty false) first

-- an operation may, where its results have their types
pub call_is : (x : ℕ) (phase : Phase) (g : FunctionData) (kind : Llt → Kind) (registers rs : List ℕ) (o : OperationData) (line count : ℕ) → computes o.op ≡ true → list_all (is_taken count) o.slots ≡ true → length rs ≡ length o.types
    → map (type_in phase g) rs ≡ somes o.types → may_call x phase g (instr_for kind registers rs o line) ≡ may_become_call x o
call_is x phase g kind registers rs o line count gives taken many are =
    let none = slots_none count registers o.slots taken in
    ap₂ (λ s t. s || is_division o.op || (is_product o.op && t)) (computing o.op gives).no_call
    (ap (is_wider x phase g) (results_are kind rs o.types (map (operand_for registers) o.slots) many none) ∙ wide_is x phase g rs o.types are)

-- none of what is made may, where no operation may
pub none_called : (x : ℕ) (phase : Phase) (g : FunctionData) (kind : Llt → Kind) (line : ℕ) (targets : List (ℕ × ℕ)) (registers : List ℕ) (place next : ℕ) (os : List OperationData) → are_placed place os ≡ true
    → list_all (λ o. not (may_become_call x o)) os ≡ true → map (type_in phase g) (flat (all_registers targets place next os)) ≡ somes (flat_types os)
    → list_all (never_calls x phase g) (all_instrs_for kind line targets registers place next os) ≡ true
none_called x phase g kind line targets registers place next [] placed calls typed = refl
none_called x phase g kind line targets registers place next (o ∷ os) placed calls typed =
    let one = placed_one place o os placed in
    let rs : List ℕ = registers_for targets place next o.types in
    let each = and_parts (not (may_become_call x o)) (list_all (λ p. not (may_become_call x p)) os) calls in
    let many = as_many targets place next o.types in
    let parts = split_somes (type_in phase g) rs (flat (all_registers targets (place_for place o.types) (next_for targets place next o.types) os)) o.types (flat_types os) many typed in
    and_from (never_calls x phase g (instr_for kind registers rs o line)) (list_all (never_calls x phase g) (all_instrs_for kind line targets (grown registers rs) (place_for place o.types) (next_for targets place next o.types) os))
    (ap not (call_is x phase g kind registers rs o line place one.computes one.taken many parts.0) ∙ each.0)
    (none_called x phase g kind line targets (grown registers rs) (place_for place o.types) (next_for targets place next o.types) os one.rest each.1 parts.1)
