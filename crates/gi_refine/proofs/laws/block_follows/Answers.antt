use Rattle.gi_refine.specs.Agreement.{Agree, AgreeAt, AgreeEntering}
use Rattle.gi_refine.proofs.Simulating.{block_on}
use Rattle.gi_refine.proofs.laws.block_follows.Goals as goal

pub returns : goal.returns
returns c = λ s t world entry middle after out b old new.
    block_on s t world (AgreeEntering s t entry) (Agree s t middle) (Agree s t after) (AgreeAt s t out) b old new
