use Rattle.gi_verify.proofs.Closing.{closed}
use Rattle.gi_verify.proofs.rounds.is_closed.Goals as goal

pub returns : goal.returns
returns c = λ h.
    closed c.args.function.now c.args.round.now c.args.reached.now c.args.changes.now c.args.starts.now c.made_in_reach-made.result c.requires.reached c.requires.changes c.made_in_reach-made.ensures
    (c.is_begun.ensures.count c.if-not-is_begun.false) (c.is_begun.ensures.first c.if-not-is_begun.false) (c.are_joined.ensures c.if-not-are_joined.false) (c.are_apart.ensures h)
