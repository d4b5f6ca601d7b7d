use Rattle.gi_normalise.proofs.Weighed.{weighed}
use Rattle.gi_normalise.proofs.laws.rewriting_is_weighed.Goals as goal

pub returns : goal.returns
returns c = weighed
