-- What is asked of a function at a stage goes on without a dead instruction.
use Rattle.std.proofs.Common.{◌≡◌, ℕ, Bool, true, ◌&&◌, ◌==◌, false, List, [], ◌∷◌, ⊎_elim, ap, ap₂, ◌∙◌}
use Rattle.std.proofs.lemmas.Bool.{and_from, and_parts}
use Rattle.std.specs.List.{list_all}
use Rattle.gi_mir.specs.Accepted.{is_result_type, is_source_type}
use Rattle.gi_mir.specs.Data.{InstrData, FunctionData}
use Rattle.gi_mir.specs.Edit.{all_instrs, without_instr}
use Rattle.gi_mir.specs.Registers.{type_of_kind}
use Rattle.gi_change_valid.specs.Rewriting.{IsOneOf}
use Rattle.gi_change_valid.proofs.Listed.{instrs_after}
use Rattle.gi_change_valid.proofs.Typed.{type_alike}
use Rattle.gi_valid.specs.Typing.{type_in}
use Rattle.gi_rule_refines.specs.Dead.{AreDead, without_all}
use Rattle.gi_rule_refines.specs.Stages.{IsGoodAt, each_passes, is_accepted, is_of_stage, phase_at, stand_at}
use Rattle.gi_rule_refines.specs.declared.stages.RuleStage.{RuleStage}
use Rattle.gi_rule_refines.proofs.Erased.{IsErased, defined_stays, erased, erased_of, erasing, kind_stays, used_stays}
use Rattle.gi_rule_refines.proofs.ErasedGood.{erased_good}
use Rattle.gi_rule_refines.proofs.ErasedLists.{all_left, all_left_as}
use Rattle.gi_rule_refines.proofs.Staged.{types_same}

stand_left : (x : ℕ) (stage : RuleStage) (f : FunctionData) (id : ℕ) → IsErased x (phase_at stage) f id → stand_at x stage f ≡ true → stand_at x stage (without_instr f id) ≡ true
stand_left x stage f id c stand =
    let each = and_parts (list_all (λ p. is_of_stage x stage p.1) (all_instrs f.blocks)) (list_all old (all_instrs f.blocks)) stand in
    let after = instrs_after (erasing f id c.root) f (without_instr f id) (erased x (phase_at stage) f id c) in
    and_from (list_all (λ p. is_of_stage x stage p.1) (all_instrs (without_instr f id).blocks)) (list_all new (all_instrs (without_instr f id).blocks))
    (ap (list_all (λ p. is_of_stage x stage p.1)) after ∙ all_left f id c.root (λ p. is_of_stage x stage p.1) (all_instrs f.blocks) each.0)
    (ap (list_all new) after ∙ all_left_as f id c.root old new (all_instrs f.blocks) (λ p there other h. same p there other ∙ h) each.1)
  where
    old : ℕ × InstrData → Bool
    old p = is_accepted x (type_in (phase_at stage) f) p.1

    new : ℕ × InstrData → Bool
    new p = is_accepted x (type_in (phase_at stage) (without_instr f id)) p.1

    same : (p : ℕ × InstrData) → IsOneOf p (all_instrs f.blocks) → (p.0 == id) ≡ false → new p ≡ old p
    same p there other =
        let each = types_same (type_in (phase_at stage) f) (type_in (phase_at stage) (without_instr f id)) p.1.operands
        (λ r named. type_alike (phase_at stage) f (without_instr f id) r r
        (ap type_of_kind (kind_stays x (phase_at stage) f id c r (⊎_elim (λ own. defined_stays x (phase_at stage) f id c p there other r own) (λ used. used_stays x (phase_at stage) f id c p there r used) named)))) in
        ap₂ (λ a b. each_passes (is_result_type x p.1.op) 0 a && each_passes (is_source_type x p.1.op) 0 b) each.0 each.1

pub all_erased_at : (x : ℕ) (stage : RuleStage) (names : List (List ℕ)) (f : FunctionData) (ids : List ℕ) → IsGoodAt x stage names f → AreDead f ids → IsGoodAt x stage names (without_all f ids)
all_erased_at x stage names f [] good dead = good
all_erased_at x stage names f (id ∷ ids) good dead =
    all_erased_at x stage names (without_instr f id) ids
    (record {
      good = erased_good x (phase_at stage) names f id good.good dead.0 dead.1;
      banked = good.banked;
      stand = stand_left x stage f id (erased_of x (phase_at stage) names f id good.good dead.0 dead.1) good.stand;
    })
    dead.2
