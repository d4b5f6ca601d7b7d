-- An example function without its dead instructions: every premise is computed.
use Rattle.std.proofs.Common.{◌≡◌, true, [], ◌∷◌, inl, refl}
use Rattle.std.specs.Int.RustNames.{count_ones}
use Rattle.gi_mir.specs.Formed.{is_formed}
use Rattle.gi_refine.specs.Refinement.{RefinesUnchecked}
use Rattle.gi_valid.specs.Examples.{extents_of}
use Rattle.gi_valid.specs.Typing.{Typed}
use Rattle.gi_valid.specs.Valid.{IsValid}
use Rattle.gi_valid.proofs.Trials.{loop_contained}
use Rattle.gi_change_refines.specs.Sized.{are_formed}
use Rattle.gi_rule_refines.specs.Dead.{AreDead, wastes, wastes_less}
use Rattle.gi_rule_refines.specs.Good.{IsGood}
use Rattle.gi_rule_refines.proofs.ErasedGood.{all_erased_refine}
use Rattle.gi_rule_refines.proofs.Rewrites.{good_valid}

wastes_formed : are_formed wastes ≡ true
unfolding is_formed count_ones
wastes_formed = refl

wastes_valid : IsValid 32 Typed wastes
wastes_valid = record { extents = extents_of (3 ∷ []) (0 ∷ []) (0 ∷ 1 ∷ []); contained = loop_contained (3 ∷ []) (0 ∷ []) wastes refl refl refl (λ a. refl) (refl, refl, refl, refl); faultless = refl }

pub wastes_good : IsGood 32 Typed [] wastes
wastes_good = good_valid 32 [] wastes (inl refl) wastes_valid refl wastes_formed refl refl

pub wastes_dead : AreDead wastes (8 ∷ 10 ∷ 9 ∷ 12 ∷ 14 ∷ [])
wastes_dead = (refl, refl, (refl, refl, (refl, refl, (refl, refl, (refl, refl, tt)))))

pub wastes_refined : RefinesUnchecked 32 [] wastes wastes_less
wastes_refined = all_erased_refine 32 Typed [] wastes (8 ∷ 10 ∷ 9 ∷ 12 ∷ 14 ∷ []) wastes_good wastes_dead
