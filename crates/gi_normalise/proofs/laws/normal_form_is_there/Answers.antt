use Rattle.gi_normalise.proofs.Going.{there}
use Rattle.gi_normalise.proofs.laws.normal_form_is_there.Goals as goal

pub returns : goal.returns
returns g c = λ table choose f standing fit. there choose (g.T.RuleTable.rows table) (g.T.RuleTable.is_fit table) (g.T.RuleTable.refines table) (g.T.RuleTable.weight table) f standing (g.met.T.RuleTable.sound table) fit
