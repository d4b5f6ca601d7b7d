use Rattle.gi_refine.proofs.RewritingFollows.{rewriting_refines}
use Rattle.gi_refine.proofs.rewriting.rewriting_follows.Goals as goal

pub returns : goal.returns
returns c = rewriting_refines
