use Rattle.std.proofs.Common.{length}
use Rattle.gi_rule_use.proofs.making.Making.+push_results.Given as goal

abbrev pub decreases-push_results : goal.decreases-push_results
decreases-push_results l = length l.types.now
