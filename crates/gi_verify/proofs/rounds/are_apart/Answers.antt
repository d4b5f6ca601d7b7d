use Rattle.gi_verify.specs.Rounds.{IsApartAt}
use Rattle.gi_verify.proofs.Ordering.{one_more_below}
use Rattle.gi_verify.proofs.rounds.are_apart.Goals as goal

pub loop-b-preserved : goal.loop-b-preserved
loop-b-preserved c = one_more_below (IsApartAt c.args.reached.now c.args.starts.now c.args.made) c.loop-b.b c.loop-b.invariant (c.is_apart_at.ensures c.if-not-is_apart_at.false)
