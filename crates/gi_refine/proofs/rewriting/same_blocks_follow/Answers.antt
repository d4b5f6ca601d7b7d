use Rattle.gi_refine.proofs.SameBlocks.{same_blocks_refine}
use Rattle.gi_refine.proofs.rewriting.same_blocks_follow.Goals as goal

pub returns : goal.returns
returns c = same_blocks_refine
