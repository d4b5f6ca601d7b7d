use Rattle.gi_verify.specs.Masks.{AreEffects}
use Rattle.std.proofs.Common.{◌+◌, ℕ, List, [], ap, sym, subst, ◌∙◌}
use Rattle.gi_mir.specs.Data.{InstrData}
use Rattle.gi_mir.specs.Edit.{block_at}
use Rattle.gi_mir.specs.Instrs.{left}
use Rattle.gi_verify.proofs.Masking.{effects_all, effects_with}
use Rattle.gi_verify.proofs.Splitting.{IsSplit, split_at, all_split}
use Rattle.gi_verify.proofs.effects.effects_of.Goals as goal

pub loop-numbered-init : goal.loop-numbered-init
loop-numbered-init c = (0, ap left c.into_iter-numbered-iterator.ensures.into_iter_gives ∙ c.instrs-instrs.ensures, subst (AreEffects []) (sym c.new-effects.ensures.items) search)

pub loop-numbered-preserved : goal.loop-numbered-preserved
loop-numbered-preserved c =
    let all : List (ℕ × InstrData) = (block_at c.args.function.now c.args.b).instrs in
    let k : ℕ = c.loop-numbered.invariant.0 in
    let split : IsSplit all k _ _ = split_at all k _ _ (sym c.in-Some.ensures.steps ∙ c.loop-numbered.invariant.1) in
    (k + 1, sym split.behind, effects_with all k _ _ split c.loop-numbered.effects.items c.push.new.effects.items c.effect_of.result c.loop-numbered.invariant.2 c.effect_of.ensures c.in_ok-push.ensures)

pub returns : goal.returns
returns c =
    let all : List (ℕ × InstrData) = (block_at c.args.function.now c.args.b).instrs in
    effects_all all c.loop-numbered.invariant.0 c.loop-numbered.effects.items (all_split all c.loop-numbered.invariant.0 (sym c.loop-numbered.invariant.1 ∙ c.in-None.ensures.steps.0)) c.loop-numbered.invariant.2
