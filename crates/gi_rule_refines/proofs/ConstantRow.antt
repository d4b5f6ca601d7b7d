-- A constant made by its sequence is a good row, whatever its steps are.
use Rattle.std.proofs.Common.{◌≡◌, ◌⊎◌, inl, inr, ℕ, ℤ, pos, cond, zero, suc, ◌+◌, ◌^◌, ◌<◌, Bool, true, false, not, ◌&&◌, nat_le, ◌==◌, List, [], ◌∷◌, ◌++◌, length, Some, slice_get, refl, sym, ap, ◌∙◌, subst, arith, le-leb, lt-ltb}
use Rattle.std.specs.List.{list_all}
use Rattle.std.specs.Ordering.{int_eq}
use Rattle.std.proofs.lemmas.Bool.{and_from, and_parts, eqb-true}
use Rattle.std.proofs.lemmas.List.Folds.{list_all-append}
use Rattle.gi_llt.specs.Bits.{signed}
use Rattle.gi_llt.specs.Llt.{width_of}
use Rattle.gi_llt.specs.declared.Llt.{Llt}
use Rattle.gi_mir.specs.declared.operand.Flags.{Flags}
use Rattle.gi_mir.specs.declared.operand.Operand.TheVariants as operand
use Rattle.gi_riscv.specs.declared.constants.Step.{Step}
use Rattle.gi_riscv.specs.declared.constants.Step.TheVariants.{Addi, Addiw, Lui, Slli}
use Rattle.gi_meaning.specs.Machine.{is_immediate}
use Rattle.gi_riscv.specs.Materialised.{fits_32, low_part, materialised, next_of, steps_in}
use Rattle.gi_valid.specs.Typing.{Phase, Selecting}
use Rattle.gi_rule_values.specs.Data.{OperationData}
use Rattle.gi_rule_values.specs.Selecting.{chain, chain_place, materialize_constant}
use Rattle.gi_rule_values.specs.declared.rewrite.Slot.{Slot}
use Rattle.gi_rule_values.specs.declared.rewrite.Slot.TheVariants.{At, Stands}
use Rattle.gi_rule_values.proofs.ByNumbers.{get_here, get_left, longer}
use Rattle.gi_rule_values.proofs.Materialised.{has_first, materialize_constant_sound}
use Rattle.gi_rule_values.proofs.Numbers.{same}
use Rattle.gi_rule_valid.specs.Keeping.{all_types, are_met, are_placed, is_taken, may_become_call, on_each}
use Rattle.gi_rule_refines.specs.Computing.{gives}
use Rattle.gi_rule_refines.specs.Good.{all_fit, width_at}
use Rattle.gi_rule_refines.specs.Stages.{IsGoodRewriteAt, is_accepted}
use Rattle.gi_rule_refines.specs.declared.stages.RuleStage.TheVariants as at
use Rattle.gi_rule_refines.proofs.Passing.{all_there, is_there, same_type_itself}

-- ══ Lists of one type ══

abbrev are_wide : (x : ℕ) → List Llt → Bool
are_wide x types = list_all (λ ty. width_of x ty == x) types

-- no place has more bits than a register
none_above : (x : ℕ) (types : List Llt) (place : ℕ) → are_wide x types ≡ true → nat_le (width_at x types place) x ≡ true
none_above x [] place wide = le-leb 0 x (omega arith)
none_above x (ty ∷ types) zero wide = le-leb (width_of x ty) x (omega (arith, eqb-true (width_of x ty) x (and_parts (width_of x ty == x) (are_wide x types) wide).0))
none_above x (ty ∷ types) (suc place) wide = none_above x types place (and_parts (width_of x ty == x) (are_wide x types) wide).1

-- nor has the last one
last_is : (x : ℕ) (types : List Llt) (type : Llt) → width_of x type ≡ x → nat_le (width_at x (types ++ type ∷ []) (length types)) x ≡ true
last_is x types type wide = rw (get_here types type, wide) (le-leb x x (omega arith))

one_more : (x : ℕ) (types : List Llt) (type : Llt) → width_of x type ≡ x → are_wide x types ≡ true → are_wide x (types ++ type ∷ []) ≡ true
one_more x types type wide all = list_all-append (λ ty. width_of x ty == x) types (type ∷ []) ∙ and_from _ _ all (rw (wide, same x) refl)

-- ══ Each step passes ══

chain_placed : (slot : Slot) (place : ℕ) (type : Llt) (steps : List Step) → is_taken place slot ≡ true → are_placed place (chain slot place type steps) ≡ true
chain_placed slot place type [] taken = refl
chain_placed slot place type (step ∷ steps) taken =
    by_step step taken (chain_placed (At place) (place + 1) type steps (lt-ltb place (place + 1) (omega arith)))
  where
    by_step : (step : Step) → is_taken place slot ≡ true → are_placed (place + 1) (chain (At place) (place + 1) type steps) ≡ true → are_placed place (chain slot place type (step ∷ steps)) ≡ true
    by_step (Lui number) taken rest = rest
    by_step (Addi number) taken rest = rw taken rest
    by_step (Addiw number) taken rest = rw taken rest
    by_step (Slli amount) taken rest = rw taken rest

chain_calls : (x : ℕ) (slot : Slot) (place : ℕ) (type : Llt) (steps : List Step) → list_all (λ o. not (may_become_call x o)) (chain slot place type steps) ≡ true
chain_calls x slot place type [] = refl
chain_calls x slot place type (Lui number ∷ steps) = chain_calls x (At place) (place + 1) type steps
chain_calls x slot place type (Addi number ∷ steps) = chain_calls x (At place) (place + 1) type steps
chain_calls x slot place type (Addiw number ∷ steps) = chain_calls x (At place) (place + 1) type steps
chain_calls x slot place type (Slli amount ∷ steps) = chain_calls x (At place) (place + 1) type steps

chain_met : (x : ℕ) (phase : Phase) (types : List Llt) (slot : Slot) (place : ℕ) (type : Llt) (steps : List Step) → are_met x phase types (chain slot place type steps) ≡ true
chain_met x phase types slot place type [] = refl
chain_met x phase types slot place type (Lui number ∷ steps) = chain_met x phase (types ++ type ∷ []) (At place) (place + 1) type steps
chain_met x phase types slot place type (Addi number ∷ steps) = chain_met x phase (types ++ type ∷ []) (At place) (place + 1) type steps
chain_met x phase types slot place type (Addiw number ∷ steps) = chain_met x phase (types ++ type ∷ []) (At place) (place + 1) type steps
chain_met x phase types slot place type (Slli amount ∷ steps) = chain_met x phase (types ++ type ∷ []) (At place) (place + 1) type steps

chain_gives : (slot : Slot) (place : ℕ) (type : Llt) (steps : List Step) → list_all gives (chain slot place type steps) ≡ true
chain_gives slot place type [] = refl
chain_gives slot place type (Lui number ∷ steps) = chain_gives (At place) (place + 1) type steps
chain_gives slot place type (Addi number ∷ steps) = chain_gives (At place) (place + 1) type steps
chain_gives slot place type (Addiw number ∷ steps) = chain_gives (At place) (place + 1) type steps
chain_gives slot place type (Slli amount ∷ steps) = chain_gives (At place) (place + 1) type steps

chain_fits : (x : ℕ) (types : List Llt) (at place : ℕ) (type : Llt) (steps : List Step) → width_of x type ≡ x → are_wide x types ≡ true → all_fit x types (chain (At at) place type steps) ≡ true
chain_fits x types at place type [] wide all = refl
chain_fits x types at place type (step ∷ steps) wide all =
    by_step step (last_is x types type wide) (none_above x (types ++ type ∷ []) at (one_more x types type wide all))
    (chain_fits x (types ++ type ∷ []) place (place + 1) type steps wide (one_more x types type wide all))
  where
    by_step : (step : Step) → nat_le (width_at x (types ++ type ∷ []) (length types)) x ≡ true → nat_le (width_at x (types ++ type ∷ []) at) x ≡ true
        → all_fit x (types ++ type ∷ []) (chain (At place) (place + 1) type steps) ≡ true → all_fit x types (chain (At at) place type (step ∷ steps)) ≡ true
    by_step (Lui number) last read rest = rw last rest
    by_step (Addi number) last read rest = rw (last, read) rest
    by_step (Addiw number) last read rest = rw (last, read) rest
    by_step (Slli amount) last read rest = rw (last, read) rest

-- the last of the words
chain_last : (types : List Llt) (slot : Slot) (at place : ℕ) (type : Llt) (steps : List Step) → slice_get types at ≡ Some type → length types ≡ place
    → slice_get (all_types types (chain slot place type steps)) (chain_place at place steps) ≡ Some type
chain_last types slot at place type [] there long = there
chain_last types slot at place type (step ∷ steps) there long =
    by_step step (chain_last (types ++ type ∷ []) (At place) place (place + 1) type steps (subst (λ k. slice_get (types ++ type ∷ []) k ≡ Some type) long (get_here types type)) (longer types type ∙ ap (λ k. k + 1) long))
  where
    by_step : (step : Step) → slice_get (all_types (types ++ type ∷ []) (chain (At place) (place + 1) type steps)) (chain_place place (place + 1) steps) ≡ Some type
        → slice_get (all_types types (chain slot place type (step ∷ steps))) (chain_place at place (step ∷ steps)) ≡ Some type
    by_step (Lui number) rest = rest
    by_step (Addi number) rest = rest
    by_step (Addiw number) rest = rest
    by_step (Slli amount) rest = rest

-- ══ The first step, on zero ══

first_fits : (x : ℕ) (type : Llt) (step : Step) (steps : List Step) → width_of x type ≡ x → all_fit x [] (chain (Stands (operand.Phys 0)) 0 type (step ∷ steps)) ≡ true
first_fits x type step steps wide = by_step step (chain_fits x (type ∷ []) 0 1 type steps wide (rw (wide, same x) refl))
  where
    by_step : (step : Step) → all_fit x (type ∷ []) (chain (At 0) 1 type steps) ≡ true → all_fit x [] (chain (Stands (operand.Phys 0)) 0 type (step ∷ steps)) ≡ true
    by_step (Lui number) rest = rw (wide, le-leb x x (omega arith)) rest
    by_step (Addi number) rest = rw (wide, le-leb x x (omega arith)) rest
    by_step (Addiw number) rest = rw (wide, le-leb x x (omega arith)) rest
    by_step (Slli amount) rest = rw (wide, le-leb x x (omega arith)) rest

first_last : (type : Llt) (step : Step) (steps : List Step) → slice_get (all_types [] (chain (Stands (operand.Phys 0)) 0 type (step ∷ steps))) (chain_place 0 0 (step ∷ steps)) ≡ Some type
first_last type (Lui number) steps = chain_last (type ∷ []) (At 0) 0 1 type steps refl refl
first_last type (Addi number) steps = chain_last (type ∷ []) (At 0) 0 1 type steps refl refl
first_last type (Addiw number) steps = chain_last (type ∷ []) (At 0) 0 1 type steps refl refl
first_last type (Slli amount) steps = chain_last (type ∷ []) (At 0) 0 1 type steps refl refl

-- ══ The stage ══

-- ADDIW is an instruction of RV64
abbrev is_made_on : (x : ℕ) → Step → Bool
is_made_on x (Addiw number) = x == 64
is_made_on x _ = true

all_on_64 : (steps : List Step) → list_all (is_made_on 64) steps ≡ true
all_on_64 [] = refl
all_on_64 (Lui number ∷ steps) = all_on_64 steps
all_on_64 (Addi number ∷ steps) = all_on_64 steps
all_on_64 (Addiw number ∷ steps) = all_on_64 steps
all_on_64 (Slli amount ∷ steps) = all_on_64 steps

either : (b : Bool) (steps others : List Step) → list_all (is_made_on 32) steps ≡ true → list_all (is_made_on 32) others ≡ true → list_all (is_made_on 32) (cond b steps others) ≡ true
either true steps others first second = first
either false steps others first second = second

all_on_32 : (rounds : ℕ) (v : ℤ) → list_all (is_made_on 32) (steps_in rounds 32 v) ≡ true
all_on_32 zero v = either (is_immediate v) _ _ refl (either (int_eq (low_part v) (pos 0)) [] (Addi (low_part v) ∷ []) refl refl)
all_on_32 (suc rounds) v =
    either (is_immediate v) _ _ refl
    (either (fits_32 v) _ _ (either (int_eq (low_part v) (pos 0)) [] (Addi (low_part v) ∷ []) refl refl)
    (list_all-append (is_made_on 32) (steps_in rounds 32 (next_of v)) _
    ∙ and_from _ _ (all_on_32 rounds (next_of v)) (either (int_eq (low_part v) (pos 0)) [] (Addi (low_part v) ∷ []) refl refl)))

all_on : (x value : ℕ) → (x ≡ 32) ⊎ (x ≡ 64) → list_all (is_made_on x) (materialised x value) ≡ true
all_on x value (inl e) = subst (λ k. list_all (is_made_on k) (materialised k value) ≡ true) (sym e) (all_on_32 3 (signed 32 value))
all_on x value (inr e) = subst (λ k. list_all (is_made_on k) (materialised k value) ≡ true) (sym e) (all_on_64 (materialised 64 value))

chain_there : (x : ℕ) (slot : Slot) (place : ℕ) (type : Llt) (steps : List Step) → list_all (is_made_on x) steps ≡ true → list_all (λ o. is_there x at.Selecting o.op) (chain slot place type steps) ≡ true
chain_there x slot place type [] on = refl
chain_there x slot place type (Lui number ∷ steps) on = chain_there x (At place) (place + 1) type steps on
chain_there x slot place type (Addi number ∷ steps) on = chain_there x (At place) (place + 1) type steps on
chain_there x slot place type (Addiw number ∷ steps) on =
    let each = and_parts (x == 64) (list_all (is_made_on x) steps) on in rw each.0 (chain_there x (At place) (place + 1) type steps each.1)
chain_there x slot place type (Slli amount ∷ steps) on = chain_there x (At place) (place + 1) type steps on

chain_accepted : (x : ℕ) (types : List Llt) (from place : ℕ) (type : Llt) (steps : List Step) → slice_get types from ≡ Some type → length types ≡ place → on_each (is_accepted x) types (chain (At from) place type steps) ≡ true
chain_accepted x types from place type [] there long = refl
chain_accepted x types from place type (step ∷ steps) there long =
    by_step step (get_here types type) (get_left types (type ∷ []) from type there)
    (chain_accepted x (types ++ type ∷ []) place (place + 1) type steps (subst (λ k. slice_get (types ++ type ∷ []) k ≡ Some type) long (get_here types type)) (longer types type ∙ ap (λ k. k + 1) long))
  where
    by_step : (step : Step) → slice_get (types ++ type ∷ []) (length types) ≡ Some type → slice_get (types ++ type ∷ []) from ≡ Some type
        → on_each (is_accepted x) (types ++ type ∷ []) (chain (At place) (place + 1) type steps) ≡ true → on_each (is_accepted x) types (chain (At from) place type (step ∷ steps)) ≡ true
    by_step (Lui number) last read rest = rw last rest
    by_step (Addi number) last read rest = rw (last, read) rest
    by_step (Addiw number) last read rest = rw (last, read) rest
    by_step (Slli amount) last read rest = rw (last, read) rest

first_accepted : (x : ℕ) (type : Llt) (step : Step) (steps : List Step) → on_each (is_accepted x) [] (chain (Stands (operand.Phys 0)) 0 type (step ∷ steps)) ≡ true
first_accepted x type (Lui number) steps = chain_accepted x (type ∷ []) 0 1 type steps refl refl
first_accepted x type (Addi number) steps = chain_accepted x (type ∷ []) 0 1 type steps refl refl
first_accepted x type (Addiw number) steps = chain_accepted x (type ∷ []) 0 1 type steps refl refl
first_accepted x type (Slli amount) steps = chain_accepted x (type ∷ []) 0 1 type steps refl refl

-- ══ The row ══

pub materialize_constant_good : (x : ℕ) (flags : Flags) (type : Llt) (value : ℕ) → (x ≡ 32) ⊎ (x ≡ 64) → width_of x type ≡ x → value < 2 ^ x → IsGoodRewriteAt x at.Selecting (materialize_constant flags x type value)
materialize_constant_good x flags type value word wide fits = record {
  good = record {
    keeps = rw (chain_placed (Stands (operand.Phys 0)) 0 type (materialised x value) refl, chain_calls x (Stands (operand.Phys 0)) 0 type (materialised x value), chain_met x Selecting [] (Stands (operand.Phys 0)) 0 type (materialised x value)) (rw (last, same_type_itself type, le-leb 0 (chain_place 0 0 (materialised x value)) (omega arith)) refl);
    gives = rw (chain_gives (Stands (operand.Phys 0)) 0 type (materialised x value)) refl;
    fits = let (step, rest, is) = has_first x (signed x value) in subst (λ steps. all_fit x [] (chain (Stands (operand.Phys 0)) 0 type steps) ≡ true) (sym is) (first_fits x type step rest wide);
    sound = materialize_constant_sound x flags type value word wide fits;
  };
  may = ap (λ t. t && on_each (is_accepted x) [] steps) (all_there x at.Selecting steps) ∙ and_from _ _ (chain_there x (Stands (operand.Phys 0)) 0 type (materialised x value) (all_on x value word)) accepted;
}
  where
    steps : List OperationData
    steps = chain (Stands (operand.Phys 0)) 0 type (materialised x value)

    accepted : on_each (is_accepted x) [] (chain (Stands (operand.Phys 0)) 0 type (materialised x value)) ≡ true
    accepted = let (step, rest, is) = has_first x (signed x value) in subst (λ steps. on_each (is_accepted x) [] (chain (Stands (operand.Phys 0)) 0 type steps) ≡ true) (sym is) (first_accepted x type step rest)

    last : slice_get (all_types [] (chain (Stands (operand.Phys 0)) 0 type (materialised x value))) (chain_place 0 0 (materialised x value)) ≡ Some type
    last = let (step, rest, is) = has_first x (signed x value) in
        subst (λ steps. slice_get (all_types [] (chain (Stands (operand.Phys 0)) 0 type steps)) (chain_place 0 0 steps) ≡ Some type) (sym is) (first_last type step rest)
