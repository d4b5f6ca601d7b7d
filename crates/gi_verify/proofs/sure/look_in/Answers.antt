use Rattle.std.proofs.Common.{◌+◌, ℕ, List, take, ap, sym, subst, ◌∙◌}
use Rattle.gi_mir.specs.Data.{InstrData}
use Rattle.gi_mir.specs.Edit.{block_at}
use Rattle.gi_mir.specs.Instrs.{left}
use Rattle.gi_verify.specs.Rounds.{IsChange}
use Rattle.gi_verify.proofs.Splitting.{IsSplit, split_at, all_split}
use Rattle.gi_verify.proofs.Using.{shrunk_none, shrunk_then, sure_in_all, sure_in_none, sure_in_on}
use Rattle.gi_verify.proofs.sure.look_in.Goals as goal

pub loop-numbered-init : goal.loop-numbered-init
loop-numbered-init c = (
  0,
  ap left c.into_iter-numbered-iterator.ensures.into_iter_gives ∙ c.instrs-numbered-items.ensures,
  c.unchanged-change.ensures,
  sure_in_none c.args.function.now c.args.round.now c.args.b c.args.fine.now.items,
  shrunk_none c.args.fine.now.items,
)

pub loop-numbered-preserved : goal.loop-numbered-preserved
loop-numbered-preserved c =
    let all : List (ℕ × InstrData) = (block_at c.args.function.now c.args.b).instrs in
    let k : ℕ = c.loop-numbered.invariant.0 in
    let split : IsSplit all k c.in-Some.numbered.now (left c.next.new.self) = split_at all k _ _ (sym c.in-Some.ensures.steps ∙ c.loop-numbered.invariant.1) in (
      k + 1,
      sym split.behind,
      subst (λ l. IsChange c.args.round.now l c.change_with-change.result) (sym split.front) (c.change_with-change.ensures (take k all) c.loop-numbered.invariant.2),
      sure_in_on c.args.function.now c.args.round.now c.args.b k c.loop-numbered.fine.items c.look_at.new.fine.items c.in-Some.numbered.now c.loop-numbered.change split.here c.loop-numbered.invariant.3
          c.look_at.ensures.shrunk c.look_at.ensures.sure c.loop-numbered.invariant.2,
      shrunk_then c.args.fine.now.items c.loop-numbered.fine.items c.look_at.new.fine.items c.loop-numbered.invariant.4 c.look_at.ensures.shrunk,
    )

pub returns-clause-sure : goal.returns-clause-sure
returns-clause-sure c =
    let all : List (ℕ × InstrData) = (block_at c.args.function.now c.args.b).instrs in
    sure_in_all c.args.function.now c.args.round.now c.args.b c.loop-numbered.invariant.0 c.loop-numbered.fine.items (all_split all c.loop-numbered.invariant.0 (sym c.loop-numbered.invariant.1 ∙ c.in-None.ensures.steps.0)) c.loop-numbered.invariant.3
