use Rattle.gi_refine.proofs.RulesUsed.{uses_replaced}
use Rattle.gi_refine.proofs.values.replaced_uses_hold.Goals as goal

pub returns : goal.returns
returns c = uses_replaced
