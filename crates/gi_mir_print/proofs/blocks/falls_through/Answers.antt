use Rattle.std.proofs.Common.{true, ap, sym, ◌∙◌}
use Rattle.gi_mir_print.proofs.LineLemmas.{falls_behind, falls_by_last}
use Rattle.gi_mir_print.proofs.blocks.falls_through.Goals as goal
use Rattle.gi_mir.specs.Instrs.{left}

pub loop-numbered-init : goal.loop-numbered-init
loop-numbered-init c = falls_by_last (left c.args.instrs) ∙ ap (λ it. falls_behind true (left it)) (sym c.into_iter-numbered-iterator.ensures.into_iter_gives)

pub loop-numbered-preserved : goal.loop-numbered-preserved
loop-numbered-preserved c =
    c.loop-numbered.invariant ∙ ap (falls_behind c.loop-numbered.goes) c.in-Some.ensures.steps ∙ ap (λ goes. falls_behind goes (left c.next.new.self)) (sym c.goes_on-goes.ensures)

pub returns : goal.returns
returns c = sym (c.loop-numbered.invariant ∙ ap (falls_behind c.loop-numbered.goes) c.in-None.ensures.steps.0)
