use Rattle.std.proofs.Common.{◌∙◌, sym, ap}
use Rattle.gi_mir.specs.declared.operand.Operand.TheVariants as operand
use Rattle.gi_meaning.specs.Runs.{entry_of}
use Rattle.gi_verify.proofs.Missing.{entries_on, slice_from}
use Rattle.gi_verify.proofs.uses.missing_entries.Goals as goal

pub loop-k-preserved : goal.loop-k-preserved
loop-k-preserved c = λ extents greatest.
    c.loop-k.invariant extents greatest
    ∙ entries_on c.args.function.now extents c.args.operands.now c.loop-k.k operand.SavedMask c.loop-k-test.true c.in_ok-found.found c.entry_of.result (c.in_ok-found.ensures extents greatest)
    (c.entry_of.ensures ∙ ap entry_of (slice_from c.args.operands.now c.loop-k.k)) (sym c.is_some.ensures ∙ c.if-is_some.false)
