use Rattle.gi_refine.specs.Agreement.{Agree, AgreeAt}
use Rattle.gi_refine.proofs.Simulating.{followed_on}
use Rattle.gi_refine.proofs.laws.pieces_follow.Goals as goal

pub returns : goal.returns
returns c = λ s t world before middle after out a b d e. followed_on s t world (Agree s t before) (Agree s t middle) (Agree s t after) (AgreeAt s t out) a b d e
