use Rattle.gi_verify.specs.Rounds.{IsJoinedAt}
use Rattle.gi_verify.proofs.Ordering.{one_more_below}
use Rattle.gi_verify.proofs.rounds.are_joined.Goals as goal

pub loop-a-preserved : goal.loop-a-preserved
loop-a-preserved c = one_more_below (IsJoinedAt c.args.function.now c.args.reached.now c.args.changes.now c.args.starts.now) c.loop-a.a c.loop-a.invariant (c.is_joined_at.ensures c.if-not-is_joined_at.false)
