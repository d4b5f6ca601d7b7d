use Rattle.gi_answer.proofs.Beginnings.{passing_good}
use Rattle.gi_answer.proofs.begins.passing_module_is_good.Goals as goal

pub returns : goal.returns
returns c = passing_good
