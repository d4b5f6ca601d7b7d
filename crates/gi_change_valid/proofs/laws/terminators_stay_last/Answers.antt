use Rattle.gi_change_valid.proofs.Faultless.{terminators_still_last}
use Rattle.gi_change_valid.proofs.laws.terminators_stay_last.Goals as goal

pub returns : goal.returns
returns c = terminators_still_last
