use Rattle.gi_normalise.proofs.Going.{normal_form-one}
use Rattle.gi_normalise.proofs.laws.normal_form_is_one.Goals as goal

pub returns : goal.returns
returns c = normal_form-one
