use Rattle.gi_change_valid.proofs.Single.{none_defined_twice}
use Rattle.gi_change_valid.proofs.laws.definitions_stay_single.Goals as goal

pub returns : goal.returns
returns c = none_defined_twice
