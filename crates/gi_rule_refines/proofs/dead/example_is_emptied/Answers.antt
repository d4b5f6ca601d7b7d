use Rattle.std.proofs.Common.{refl}
use Rattle.gi_rule_refines.proofs.Emptied.{wastes_dead, wastes_good, wastes_refined}
use Rattle.gi_rule_refines.proofs.dead.example_is_emptied.Goals as goal

pub returns-clause-good : goal.returns-clause-good
returns-clause-good c = wastes_good

pub returns-clause-refines : goal.returns-clause-refines
returns-clause-refines c = wastes_refined

pub returns-clause-dead : goal.returns-clause-dead
returns-clause-dead c = wastes_dead

pub returns-clause-left : goal.returns-clause-left
returns-clause-left c = refl

pub returns-clause-used : goal.returns-clause-used
returns-clause-used c = refl

pub returns-clause-taken : goal.returns-clause-taken
returns-clause-taken c = refl

pub returns-clause-own : goal.returns-clause-own
returns-clause-own c = refl

pub returns-clause-branch : goal.returns-clause-branch
returns-clause-branch c = refl
