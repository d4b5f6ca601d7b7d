-- A rule of selection used in a whole function.
use Rattle.std.proofs.Common.{false, [], ◌∷◌, ◌++◌, refl, arith}
use Rattle.gi_mir.specs.Data.{no_flags}
use Rattle.gi_refine.specs.Examples.{block_of, names}
use Rattle.gi_refine.specs.OnePlace.{only_virtual}
use Rattle.gi_refine.specs.Refinement.{RefinesUnchecked}
use Rattle.gi_refine.specs.TestedUse.{IsTestedUse}
use Rattle.gi_refine.proofs.Covering.{covered_by}
use Rattle.gi_refine.proofs.StraightUses.{straight_refines}
use Rattle.gi_refine.proofs.TestedUses.{tested_use}
use Rattle.gi_riscv.specs.SelectionRules.{shift_left_half_by}
use Rattle.gi_riscv.specs.SelectedFunctions.{half_and_three, half_returned, generic_shift, word_shift, on_half, shift_placed}
use Rattle.gi_riscv.proofs.ShiftsSelected.{shift_left_half_by_sound}

shift_tested : IsTestedUse 64 names (on_half generic_shift) (on_half word_shift) (only_virtual (λ r. false)) (only_virtual (λ r. false)) (shift_left_half_by no_flags 3) shift_placed 0 half_and_three generic_shift word_shift
shift_tested = record {
  sound = λ w is_world. shift_left_half_by_sound w no_flags 3 (omega arith);
  placed = λ w is_world. record {
    old_pure = refl;
    new_pure = refl;
    old_shown = (record { op = refl; flags = refl; mem = refl; operands = (refl, (refl, (refl, tt))); widths = refl }, tt);
    new_shown = (record { op = refl; flags = refl; mem = refl; operands = (refl, (refl, (refl, tt))); widths = refl }, tt);
    old_fresh = refl;
    new_fresh = refl;
    old_widths = refl;
    new_widths = refl;
    seen = refl;
    covered = covered_by (only_virtual (λ r. false)) (only_virtual (λ r. false)) (shift_left_half_by no_flags 3) shift_placed refl (λ p h. h);
  };
  block_data = block_of [] (half_and_three ++ (generic_shift ++ half_returned));
  back = generic_shift ++ half_returned;
  here = refl;
  splits = refl;
  taken = refl;
  fit = refl;
  constants = record { place = 1; register = 2; value = 3 } ∷ [];
  facts = refl;
  hold = (refl, refl, tt);
}

-- a shift of 32 bits by 3 is SLLIW
pub shift_refines : RefinesUnchecked 64 names (on_half generic_shift) (on_half word_shift)
shift_refines =
    straight_refines 64 names half_and_three generic_shift word_shift half_returned (λ r. false) (λ w. shift_left_half_by no_flags 3) shift_placed
    (record {
      used = tested_use 64 names (on_half generic_shift) (on_half word_shift) (only_virtual (λ r. false)) (only_virtual (λ r. false)) (shift_left_half_by no_flags 3) shift_placed 0 half_and_three generic_shift word_shift shift_tested;
      no_phi = refl;
      no_new_phi = refl;
      before_clear = refl;
      after_clear = refl;
      kinds = λ q shown. refl;
    })
