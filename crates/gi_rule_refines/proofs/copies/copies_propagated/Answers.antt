use Rattle.gi_rule_refines.proofs.CopiedGood.{all_propagated_at, all_propagated_good, all_propagated_refine}
use Rattle.gi_rule_refines.proofs.copies.copies_propagated.Goals as goal

pub returns-clause-good : goal.returns-clause-good
returns-clause-good c = all_propagated_good

pub returns-clause-good_at : goal.returns-clause-good_at
returns-clause-good_at c = all_propagated_at

pub returns-clause-refines : goal.returns-clause-refines
returns-clause-refines c = all_propagated_refine
