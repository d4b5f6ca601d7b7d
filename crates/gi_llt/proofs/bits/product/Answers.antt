use Rattle.gi_llt.proofs.Signs.{product_fits}
use Rattle.gi_llt.proofs.bits.product.Goals as goal

pub returns-clause-fits : goal.returns-clause-fits
returns-clause-fits c = product_fits c.args.a c.args.b c.args.bits c.requires.a_fits c.requires.b_fits
