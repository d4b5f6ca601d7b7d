use Rattle.gi_refine.proofs.Staying.{replacement_refines}
use Rattle.gi_refine.proofs.rewriting.replacement_follows.Goals as goal

pub returns : goal.returns
returns c = replacement_refines
