use Rattle.gi_meaning.proofs.Numbers.{greatest_is}
use Rattle.gi_meaning.proofs.bits.greatest.Goals as goal

pub returns : goal.returns
returns c = greatest_is c.args.n c.requires.limit
