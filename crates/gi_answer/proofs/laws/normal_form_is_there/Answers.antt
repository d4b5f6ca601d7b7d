use Rattle.gi_answer.proofs.SelectLoops.{selectable_normal}
use Rattle.gi_answer.proofs.laws.normal_form_is_there.Goals as goal

pub returns : goal.returns
returns c = selectable_normal
