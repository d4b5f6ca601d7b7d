use Rattle.gi_rule_refines.proofs.Rewrites.{all_follow}
use Rattle.gi_rule_refines.proofs.laws.good_rewrites_refine.Goals as goal

pub returns : goal.returns
returns c = all_follow
