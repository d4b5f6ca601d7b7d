use Rattle.gi_rule_refines.proofs.Passing.{good_in_stage}
use Rattle.gi_rule_refines.proofs.stages.good_rewrite_stays_good.Goals as goal

pub returns : goal.returns
returns c = good_in_stage
