use Rattle.std.proofs.Common.{◌+◌, ℕ, List, take, ap, sym, subst, ◌∙◌}
use Rattle.gi_mir.specs.Data.{InstrData}
use Rattle.gi_mir.specs.Edit.{block_at}
use Rattle.gi_mir.specs.Instrs.{left}
use Rattle.gi_verify.specs.Rounds.{IsPassedOver}
use Rattle.gi_verify.proofs.Gathering.{over_all, over_none}
use Rattle.gi_verify.proofs.Splitting.{IsSplit, split_at, all_split}
use Rattle.gi_verify.proofs.rounds.passed_in.Goals as goal

pub loop-numbered-init : goal.loop-numbered-init
loop-numbered-init c = (0, ap left c.into_iter-numbered-iterator.ensures.into_iter_gives ∙ c.instrs-numbered-items.ensures, over_none c.args.round.now _ c.unchanged.ensures)

pub loop-numbered-preserved : goal.loop-numbered-preserved
loop-numbered-preserved c =
    let all : List (ℕ × InstrData) = (block_at c.args.function.now c.args.b).instrs in
    let k : ℕ = c.loop-numbered.invariant.0 in
    let split : IsSplit all k c.in-Some.numbered.now (left c.next.new.self) = split_at all k _ _ (sym c.in-Some.ensures.steps ∙ c.loop-numbered.invariant.1) in (
      k + 1,
      sym split.behind,
      subst (λ l. IsPassedOver c.args.round.now l c.passed_with-passed.result) (sym split.front) (c.passed_with-passed.ensures (take k all) c.loop-numbered.invariant.2),
    )

pub returns : goal.returns
returns c =
    let all : List (ℕ × InstrData) = (block_at c.args.function.now c.args.b).instrs in
    over_all c.args.round.now all c.loop-numbered.invariant.0 (all_split all c.loop-numbered.invariant.0 (sym c.loop-numbered.invariant.1 ∙ c.in-None.ensures.steps.0)) _ c.loop-numbered.invariant.2
