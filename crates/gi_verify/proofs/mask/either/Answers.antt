use Rattle.gi_verify.proofs.Masking.{either_in}
use Rattle.gi_verify.proofs.mask.either.Goals as goal

pub returns : goal.returns
returns c = either_in c.args.a c.args.b
