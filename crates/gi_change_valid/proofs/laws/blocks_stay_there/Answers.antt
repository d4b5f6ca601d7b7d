use Rattle.gi_change_valid.proofs.Faultless.{blocks_still_there, successors_still_there}
use Rattle.gi_change_valid.proofs.laws.blocks_stay_there.Goals as goal

pub returns-clause-by_instructions : goal.returns-clause-by_instructions
returns-clause-by_instructions c = blocks_still_there

pub returns-clause-as_successors : goal.returns-clause-as_successors
returns-clause-as_successors c = successors_still_there
