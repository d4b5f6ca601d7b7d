use Rattle.std.proofs.Common.{length}
use Rattle.gi_rule_use.proofs.staging.+accepts_results.Given as goal

abbrev pub decreases-accepts_results : goal.decreases-accepts_results
decreases-accepts_results l = length l.types.now
