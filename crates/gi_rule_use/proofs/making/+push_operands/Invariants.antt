use Rattle.std.proofs.Common.{length}
use Rattle.gi_rule_use.proofs.making.+push_operands.Given as goal

abbrev pub decreases-push_operands : goal.decreases-push_operands
decreases-push_operands l = length l.slots.now
