use Rattle.gi_rule_refines.proofs.CopiedGood.{propagated_good, propagated_refines}
use Rattle.gi_rule_refines.proofs.copies.copy_propagated.Goals as goal

pub returns-clause-good : goal.returns-clause-good
returns-clause-good c = propagated_good

pub returns-clause-refines : goal.returns-clause-refines
returns-clause-refines c = propagated_refines
