use Rattle.gi_verify.proofs.Masking.{without_in}
use Rattle.gi_verify.proofs.mask.without.Goals as goal

pub returns : goal.returns
returns c = without_in c.args.a c.args.b c.turned.result c.turned.ensures
