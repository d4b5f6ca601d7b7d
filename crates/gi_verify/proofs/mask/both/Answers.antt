use Rattle.gi_verify.proofs.Masking.{both_in}
use Rattle.gi_verify.proofs.mask.both.Goals as goal

pub returns : goal.returns
returns c = both_in c.args.a c.args.b
