use Rattle.gi_rule_refines.proofs.Staged.{all_follow_at}
use Rattle.gi_rule_refines.proofs.stages.good_rewrites_refine_at.Goals as goal

pub returns : goal.returns
returns c = all_follow_at
