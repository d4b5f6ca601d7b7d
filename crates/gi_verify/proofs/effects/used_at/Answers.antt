use Rattle.gi_mir.specs.Edit.{block_at}
use Rattle.gi_verify.proofs.Masking.{used_here}
use Rattle.gi_verify.proofs.effects.used_at.Goals as goal

pub returns : goal.returns
returns c = used_here (block_at c.args.function.now c.args.b).instrs c.args.used.now c.args.k _ c.requires.here c.requires.used
