use Rattle.std.proofs.Common.{length}
use Rattle.gi_rule_values.proofs.selecting_rows.+push_chain.Given as goal

abbrev pub decreases-push_chain : goal.decreases-push_chain
decreases-push_chain l = length l.steps.now
