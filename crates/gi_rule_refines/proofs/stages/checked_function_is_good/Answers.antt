use Rattle.gi_rule_refines.proofs.Begun.{checked}
use Rattle.gi_rule_refines.proofs.stages.checked_function_is_good.Goals as goal

pub returns : goal.returns
returns c = checked
