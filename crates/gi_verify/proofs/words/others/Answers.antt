use Rattle.gi_verify.proofs.Bits.{others_in}
use Rattle.gi_verify.proofs.words.others.Goals as goal

pub returns : goal.returns
returns c = others_in c.args.word c.turned.result c.turned.ensures
