use Rattle.gi_rule_refines.proofs.Erased.{erased_of}
use Rattle.gi_rule_refines.proofs.ErasedGood.{erased_good}
use Rattle.gi_rule_refines.proofs.ErasedRuns.{erased_refines}
use Rattle.gi_rule_refines.proofs.dead.dead_instruction_erased.Goals as goal

pub returns-clause-good : goal.returns-clause-good
returns-clause-good c = erased_good

pub returns-clause-refines : goal.returns-clause-refines
returns-clause-refines c = λ x phase names f id good live dead. erased_refines x phase names f id (erased_of x phase names f id good live dead)
