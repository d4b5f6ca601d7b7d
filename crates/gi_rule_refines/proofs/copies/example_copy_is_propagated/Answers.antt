use Rattle.std.proofs.Common.{refl}
use Rattle.gi_rule_refines.proofs.CopyExample.{loop_copy, loop_good, sum_good, sum_refines}
use Rattle.gi_rule_refines.proofs.copies.example_copy_is_propagated.Goals as goal

pub returns-clause-copy : goal.returns-clause-copy
returns-clause-copy c = loop_copy

pub returns-clause-good : goal.returns-clause-good
returns-clause-good c = loop_good

pub returns-clause-left : goal.returns-clause-left
returns-clause-left c = refl

pub returns-clause-good_after : goal.returns-clause-good_after
returns-clause-good_after c = sum_good

pub returns-clause-refines : goal.returns-clause-refines
returns-clause-refines c = sum_refines
