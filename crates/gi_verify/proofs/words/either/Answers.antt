use Rattle.gi_verify.proofs.Bits.{either_in}
use Rattle.gi_verify.proofs.words.either.Goals as goal

pub returns : goal.returns
returns c = either_in c.args.a c.args.b
