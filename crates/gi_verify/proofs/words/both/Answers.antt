use Rattle.gi_verify.proofs.Bits.{both_in}
use Rattle.gi_verify.proofs.words.both.Goals as goal

pub returns : goal.returns
returns c = both_in c.args.a c.args.b
