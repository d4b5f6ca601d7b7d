-- A trial rule used behind a phi, with a constant from another block: all that it owes of reached states is tested.
use Rattle.std.proofs.Common.{◌≡◌, ℕ, zero, suc, ◌==◌, false, [], ◌∷◌, ◌++◌, Option, Some, slice_get, unwrap_or, refl, sym, ap, arith}
use Rattle.gi_mir.specs.Data.{BlockData, no_flags}
use Rattle.gi_mir.specs.Registers.{kind_in_instrs}
use Rattle.gi_mir.specs.declared.operand.Kind.TheVariants.{Class}
use Rattle.gi_meaning.specs.Runs.{setting_of, width_of_kind}
use Rattle.gi_refine.specs.Agreement.{AgreeAt}
use Rattle.gi_refine.specs.Examples.{block_of, names, s32}
use Rattle.gi_refine.specs.OnePlace.{only_virtual}
use Rattle.gi_refine.specs.Refinement.{RefinesUnchecked}
use Rattle.gi_refine.specs.Replacing.{any_touches}
use Rattle.gi_refine.specs.TestedUse.{IsTestedUse}
use Rattle.gi_refine_cases.specs.TrialFunctions.{first_block, second_block, chosen_word, product_by_eight, shift_by_three, fifth_returned, on_chosen, product_placed, product_shifted}
use Rattle.gi_refine_cases.specs.TrialRules.{multiply_to_shift}
use Rattle.gi_refine.proofs.Covering.{covered_by}
use Rattle.gi_refine.proofs.RulesUsed.{use_followed}
use Rattle.gi_refine.proofs.Staying.{kind_replaced, kind_set, replacement_refines}
use Rattle.gi_refine.proofs.StraightUses.{another_kind}
use Rattle.gi_refine.proofs.TestedUses.{tested_use}
use Rattle.gi_refine_cases.proofs.TrialRules.{multiply_to_shift_sound}

product_tested : IsTestedUse 32 names (on_chosen product_by_eight) (on_chosen shift_by_three) (only_virtual product_shifted.hidden) (only_virtual product_shifted.hidden) (multiply_to_shift no_flags 32 3) product_placed 2 []
    product_by_eight shift_by_three
product_tested = record {
  sound = λ w is_world. multiply_to_shift_sound 32 w no_flags 32 3 (omega arith);
  placed = λ w is_world. record {
    old_pure = refl;
    new_pure = refl;
    old_shown = (record { op = refl; flags = refl; mem = refl; operands = (refl, (refl, (refl, tt))); widths = refl }, tt);
    new_shown = (
      record { op = refl; flags = refl; mem = refl; operands = (refl, (refl, tt)); widths = refl },
      (record { op = refl; flags = refl; mem = refl; operands = (refl, (refl, (refl, tt))); widths = refl }, tt),
    );
    old_fresh = refl;
    new_fresh = refl;
    old_widths = refl;
    new_widths = refl;
    seen = refl;
    covered = covered_by (only_virtual product_shifted.hidden) (only_virtual product_shifted.hidden) (multiply_to_shift no_flags 32 3) product_placed refl (λ p h. h);
  };
  block_data = block_of [] (chosen_word ++ (product_by_eight ++ fifth_returned));
  back = product_by_eight ++ fifth_returned;
  here = refl;
  splits = refl;
  taken = refl;
  fit = refl;
  constants = record { place = 1; register = 4; value = 8 } ∷ [];
  facts = refl;
  hold = (refl, refl, tt);
}

others_clear : (b : ℕ) → (b ≡ 2 → ⊥) → (other : BlockData) → slice_get (on_chosen product_by_eight).blocks b ≡ Some other → any_touches product_shifted.hidden (λ q. q) other.instrs ≡ false
others_clear zero apart other here = ap (λ (k : Option BlockData). any_touches product_shifted.hidden (λ q. q) ((unwrap_or k first_block).instrs)) (sym here)
others_clear (suc zero) apart other here = ap (λ (k : Option BlockData). any_touches product_shifted.hidden (λ q. q) ((unwrap_or k second_block).instrs)) (sym here)
others_clear (suc (suc zero)) apart other here = absurd (apart refl)
others_clear (suc (suc (suc b))) apart other here = cc

kinds_kept : (q : ℕ) → (6 == q) ≡ false → kind_in_instrs q shift_by_three ≡ kind_in_instrs q product_by_eight
kinds_kept q shown = another_kind (6 == q) s32 (kind_in_instrs q product_by_eight) shown

-- a product by 8 is a shift by 3, behind a phi and with the constant in another block
pub product_refines : RefinesUnchecked 32 names (on_chosen product_by_eight) (on_chosen shift_by_three)
product_refines = replacement_refines 32 names (on_chosen product_by_eight) (on_chosen shift_by_three) product_shifted (record {
  block = block_of [] (chosen_word ++ (product_by_eight ++ fifth_returned));
  here = refl;
  instrs = refl;
  blocks = refl;
  no_phi = refl;
  no_new_phi = refl;
  before_clear = refl;
  after_clear = refl;
  others_clear = others_clear;
  widths = λ q shown. ap (λ k. width_of_kind 32 (unwrap_or k Class))
      (kind_set q (on_chosen product_by_eight).blocks 2 (block_of [] (chosen_word ++ (product_by_eight ++ fifth_returned))) (block_of [] (chosen_word ++ (shift_by_three ++ fifth_returned))) refl
      (kind_replaced q chosen_word product_by_eight shift_by_three fifth_returned (kinds_kept q shown)));
  follows = λ w is_world. use_followed 32 names (on_chosen product_by_eight) (on_chosen shift_by_three) (only_virtual product_shifted.hidden) (only_virtual product_shifted.hidden) (λ v. multiply_to_shift no_flags 32 3) product_placed 2 []
      product_by_eight shift_by_three (AgreeAt (setting_of 32 names (on_chosen product_by_eight)) (setting_of 32 names (on_chosen shift_by_three)) (λ b. only_virtual product_shifted.hidden))
      (tested_use 32 names (on_chosen product_by_eight) (on_chosen shift_by_three) (only_virtual product_shifted.hidden) (only_virtual product_shifted.hidden) (multiply_to_shift no_flags 32 3) product_placed 2 []
      product_by_eight shift_by_three product_tested) w is_world;
})
