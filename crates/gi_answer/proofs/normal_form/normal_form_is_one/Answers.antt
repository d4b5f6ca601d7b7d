use Rattle.gi_answer.proofs.NormalForms.{one_normal_form}
use Rattle.gi_answer.proofs.normal_form.normal_form_is_one.Goals as goal

pub returns : goal.returns
returns c = one_normal_form
