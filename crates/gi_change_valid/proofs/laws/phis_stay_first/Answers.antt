use Rattle.gi_change_valid.proofs.Faultless.{phis_still_first}
use Rattle.gi_change_valid.proofs.laws.phis_stay_first.Goals as goal

pub returns : goal.returns
returns c = phis_still_first
