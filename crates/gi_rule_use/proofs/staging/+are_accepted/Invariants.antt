use Rattle.std.proofs.Common.{length}
use Rattle.gi_rule_use.proofs.staging.+are_accepted.Given as goal

abbrev pub decreases-are_accepted : goal.decreases-are_accepted
decreases-are_accepted l = length l.operations.now
