use Rattle.gi_change_valid.proofs.Accounted.{types_met}
use Rattle.gi_change_valid.proofs.laws.types_stay_met.Goals as goal

pub returns : goal.returns
returns c = types_met
