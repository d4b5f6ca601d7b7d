use Rattle.std.proofs.Common.{drop, ap, subst, ◌∙◌}
use Rattle.gi_meaning.specs.Runs.{entry_of}
use Rattle.gi_verify.specs.Rounds.{IsSureEntry}
use Rattle.gi_verify.proofs.Missing.{slice_from}
use Rattle.gi_verify.proofs.Ordering.{one_more_below}
use Rattle.gi_verify.proofs.sure.are_sure_entries.Goals as goal

pub loop-k-preserved : goal.loop-k-preserved
loop-k-preserved c =
    one_more_below (λ k. IsSureEntry c.args.function.now c.args.round.now (entry_of (drop k c.args.operands.now))) c.loop-k.k c.loop-k.invariant
    (subst (IsSureEntry c.args.function.now c.args.round.now) (c.entry_of.ensures ∙ ap entry_of (slice_from c.args.operands.now c.loop-k.k)) (c.is_sure_entry.ensures c.if-not-is_sure_entry.false))
