use Rattle.gi_rule_refines.proofs.CopiedGood.{propagated_at}
use Rattle.gi_rule_refines.proofs.copies.copy_propagated_at.Goals as goal

pub returns : goal.returns
returns c = propagated_at
