use Rattle.gi_rule_refines.proofs.Rewrites.{good_valid}
use Rattle.gi_rule_refines.proofs.laws.valid_function_is_good.Goals as goal

pub returns : goal.returns
returns c = good_valid
