use Rattle.std.proofs.Common.{sym, ap, ◌∙◌, arith}
use Rattle.gi_spelling.specs.Reading.{begins}
use Rattle.gi_mir_read.proofs.Lines.SplitLemmas.{split-past}
use Rattle.gi_mir_read.proofs.line.split.split_at.Goals as goal

pub loop-place-preserved : goal.loop-place-preserved
loop-place-preserved c =
    split-past c.args.separator c.loop-place.place c.args.items.now (omega arith)
    (ap (begins c.args.separator) (sym c.from_place-rest.ensures) ∙ sym c.begins.ensures.value ∙ c.if-begins.false) c.loop-place.invariant
