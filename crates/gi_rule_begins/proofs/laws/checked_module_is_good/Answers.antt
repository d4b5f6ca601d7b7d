use Rattle.gi_rule_begins.proofs.Begins.{checked_good}
use Rattle.gi_rule_begins.proofs.laws.checked_module_is_good.Goals as goal

pub returns : goal.returns
returns c = checked_good
