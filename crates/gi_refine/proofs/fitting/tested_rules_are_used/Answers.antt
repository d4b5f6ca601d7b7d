use Rattle.gi_refine.proofs.TestedUses.{tested_use}
use Rattle.gi_refine.proofs.fitting.tested_rules_are_used.Goals as goal

pub returns : goal.returns
returns c = tested_use
