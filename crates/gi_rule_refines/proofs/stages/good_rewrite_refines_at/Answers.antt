use Rattle.gi_rule_refines.proofs.Staged.{one_follows}
use Rattle.gi_rule_refines.proofs.stages.good_rewrite_refines_at.Goals as goal

pub returns : goal.returns
returns c = one_follows
