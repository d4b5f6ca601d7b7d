use Rattle.gi_rule_refines.proofs.ErasedGood.{all_erased_good, all_erased_refine}
use Rattle.gi_rule_refines.proofs.dead.dead_instructions_erased.Goals as goal

pub returns-clause-good : goal.returns-clause-good
returns-clause-good c = all_erased_good

pub returns-clause-refines : goal.returns-clause-refines
returns-clause-refines c = all_erased_refine
