use Rattle.gi_rule_refines.proofs.Begun.{begun}
use Rattle.gi_rule_refines.proofs.stages.selection_begins.Goals as goal

pub returns : goal.returns
returns c = begun
