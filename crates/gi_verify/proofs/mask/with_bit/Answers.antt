use Rattle.gi_verify.proofs.Masking.{bit_set}
use Rattle.gi_verify.proofs.mask.with_bit.Goals as goal

pub returns : goal.returns
returns c = bit_set c.args.mask c.args.n c.requires
