use Rattle.gi_change_valid.proofs.Valid.{stays_valid}
use Rattle.gi_change_valid.proofs.laws.valid_function_stays_valid.Goals as goal

pub returns : goal.returns
returns c = stays_valid
