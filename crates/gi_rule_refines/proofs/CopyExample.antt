-- A copy in a loop is propagated: every premise is computed.
use Rattle.std.proofs.Common.{◌≡◌, true, [], ◌∷◌, None, inl, refl}
use Rattle.std.specs.Int.RustNames.{count_ones}
use Rattle.gi_mir.specs.Data.{no_flags}
use Rattle.gi_mir.specs.Formed.{is_formed}
use Rattle.gi_refine.specs.Examples.{bits}
use Rattle.gi_refine.specs.Refinement.{RefinesUnchecked}
use Rattle.gi_valid.specs.Examples.{extents_of}
use Rattle.gi_valid.specs.Typing.{Typed}
use Rattle.gi_valid.specs.Valid.{IsValid}
use Rattle.gi_valid.proofs.Trials.{loop_contained}
use Rattle.gi_change_refines.specs.Sized.{are_formed}
use Rattle.gi_rule_refines.specs.Copies.{IsCopy, copies_in_loop, reads_the_sum}
use Rattle.gi_rule_refines.specs.Stages.{IsGoodAt}
use Rattle.gi_rule_refines.specs.declared.stages.RuleStage.TheVariants.{Before}
use Rattle.gi_rule_refines.proofs.Begun.{checked}
use Rattle.gi_rule_refines.proofs.CopiedGood.{propagated_at, propagated_refines}

loop_formed : are_formed copies_in_loop ≡ true
unfolding is_formed count_ones
loop_formed = refl

loop_valid : IsValid 32 Typed copies_in_loop
loop_valid = record {
  extents = extents_of (3 ∷ 4 ∷ 5 ∷ []) (0 ∷ 1 ∷ 2 ∷ 3 ∷ 4 ∷ []) (0 ∷ 1 ∷ []);
  contained = loop_contained (3 ∷ 4 ∷ 5 ∷ []) (0 ∷ 1 ∷ 2 ∷ 3 ∷ 4 ∷ []) copies_in_loop refl refl refl (λ a. refl) (refl, refl, refl, refl);
  faultless = refl;
}

pub loop_copy : IsCopy copies_in_loop 14 4 3
loop_copy = record { kind = bits 32; flags = no_flags; mem = None; line = 14; live = refl; is = refl; alike = refl }

pub loop_good : IsGoodAt 32 Before [] copies_in_loop
loop_good = checked 32 Before [] copies_in_loop (inl refl) refl loop_valid refl loop_formed refl refl

pub sum_good : IsGoodAt 32 Before [] reads_the_sum
sum_good = propagated_at 32 Before [] copies_in_loop 14 4 3 loop_good loop_copy

pub sum_refines : RefinesUnchecked 32 [] copies_in_loop reads_the_sum
sum_refines = propagated_refines 32 Typed [] copies_in_loop 14 4 3 loop_good.good loop_copy
