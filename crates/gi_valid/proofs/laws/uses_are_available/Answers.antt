use Rattle.gi_valid.proofs.Valid.{use_available}
use Rattle.gi_valid.proofs.laws.uses_are_available.Goals as goal

pub returns : goal.returns
returns c = use_available
