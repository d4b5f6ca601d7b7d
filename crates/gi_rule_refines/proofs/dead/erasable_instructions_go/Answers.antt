use Rattle.gi_rule_refines.proofs.Going.{formed_goes}
use Rattle.gi_rule_refines.proofs.dead.erasable_instructions_go.Goals as goal

pub returns : goal.returns
returns c = formed_goes
