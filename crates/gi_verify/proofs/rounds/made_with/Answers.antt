use Rattle.std.proofs.Common.{refl}
use Rattle.gi_verify.proofs.Gathering.{made_on}
use Rattle.gi_verify.proofs.rounds.made_with.Goals as goal

pub returns-then-reached-a : goal.returns-then-reached-a
returns-then-reached-a c =
    made_on c.args.function.now c.args.round.now c.args.reached.now c.args.changes.now c.requires.changes c.args.a c.requires.within c.if-reached-a.true _ _ refl c.args.made c.either.result c.requires.made c.either.ensures
