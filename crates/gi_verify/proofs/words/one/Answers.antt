use Rattle.gi_verify.proofs.Bits.{one_set}
use Rattle.gi_verify.proofs.words.one.Goals as goal

pub returns : goal.returns
returns c = one_set c.args.n c.requires
