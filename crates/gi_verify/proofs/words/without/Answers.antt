use Rattle.gi_verify.proofs.Bits.{without_in}
use Rattle.gi_verify.proofs.words.without.Goals as goal

pub returns : goal.returns
returns c = without_in c.args.a c.args.b c.turned.result c.turned.ensures
