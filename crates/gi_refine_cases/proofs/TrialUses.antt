-- Trial rules used in whole functions.
use Rattle.std.proofs.Common.{◌≡◌, false, [], ◌∷◌, refl, sym, subst}
use Rattle.gi_mir.specs.Data.{no_flags}
use Rattle.gi_meaning.specs.Argument.{Value}
use Rattle.gi_meaning.specs.State.{State, outside_of, start, Virtual, put}
use Rattle.gi_meaning.specs.Act.{Results}
use Rattle.gi_meaning.specs.Runs.{Setting, setting_of, On}
use Rattle.gi_refine.specs.Examples.{names, s32, copy_in}
use Rattle.gi_refine.specs.Lifting.{IsKnown}
use Rattle.gi_refine.specs.OnePlace.{only_virtual}
use Rattle.gi_refine.specs.Refinement.{RefinesUnchecked}
use Rattle.gi_refine.specs.RuleUse.{IsRuleUse}
use Rattle.gi_refine_cases.specs.TrialFunctions.{subtracts_itself, gives_zero, subtraction_folded, subtraction_placed}
use Rattle.gi_refine.specs.ValueRules.{subtract_self}
use Rattle.gi_refine.proofs.Covering.{covered_by, known_at}
use Rattle.gi_refine.proofs.Doing.{gives_one, does_from, does_next, does_none}
use Rattle.gi_refine_cases.proofs.OneBlock.{reached_from_start}
use Rattle.gi_refine.proofs.StraightUses.{state_is, straight_refines}
use Rattle.gi_refine.proofs.ValueRules.{subtract_self_sound}

-- ══ x - x ══

subtraction_used : IsRuleUse 32 names subtracts_itself gives_zero (only_virtual (λ r. false)) (only_virtual (λ r. false)) (λ w. subtract_self no_flags 32) subtraction_placed 0 (copy_in 0 10 s32 ∷ []) subtraction_folded.old subtraction_folded.new
subtraction_used = record {
  sound = λ w is_world. subtract_self_sound 32 w no_flags 32;
  placed = λ w is_world. record {
    old_pure = refl;
    new_pure = refl;
    old_shown = (record { op = refl; flags = refl; mem = refl; operands = (refl, (refl, (refl, tt))); widths = refl }, tt);
    new_shown = (record { op = refl; flags = refl; mem = refl; operands = (refl, (refl, tt)); widths = refl }, tt);
    old_fresh = refl;
    new_fresh = refl;
    old_widths = refl;
    new_widths = refl;
    seen = refl;
    covered = covered_by (only_virtual (λ r. false)) (only_virtual (λ r. false)) (subtract_self no_flags 32) subtraction_placed refl (λ p h. h);
  };
  known = λ w is_world state reached.
      let s : Setting = setting_of 32 names subtracts_itself in
      let copied : State = put (start w) (Virtual 0) (w.words 10) in
      let is : state ≡ copied =
      state_is s w (copy_in 0 10 s32 ∷ []) (start w) copied state
      (does_next s w _ _ (start w) copied _
      (does_from s w _ (start w) (Value 32 (w.words 10) ∷ []) (Results (w.words 10 ∷ []) (outside_of (start w))) (On copied) refl
      (record { can = (w.words 10 ∷ [], refl, refl); only = gives_one (w.words 10) (outside_of (start w)) }) refl)
      (does_none s w copied))
      (reached_from_start s w _ (record { successors = refl; phis = refl; straight = refl }) (copy_in 0 10 s32 ∷ []) state reached) in
      subst (λ st. IsKnown s w (subtract_self no_flags 32) (0 ∷ []) st) (sym is)
      (known_at s w (subtract_self no_flags 32) (0 ∷ []) (w.words 10 ∷ []) copied (refl, tt) (is_world.words 10, tt) tt);
}

pub subtraction_refines : RefinesUnchecked 32 names subtracts_itself gives_zero
subtraction_refines =
    straight_refines 32 names subtraction_folded.before subtraction_folded.old subtraction_folded.new subtraction_folded.after subtraction_folded.hidden (λ w. subtract_self no_flags 32) subtraction_placed
    (record { used = subtraction_used; no_phi = refl; no_new_phi = refl; before_clear = refl; after_clear = refl; kinds = λ q shown. refl })
