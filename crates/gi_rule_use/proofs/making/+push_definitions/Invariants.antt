use Rattle.std.proofs.Common.{length}
use Rattle.gi_rule_use.proofs.making.+push_definitions.Given as goal

abbrev pub decreases-push_definitions : goal.decreases-push_definitions
decreases-push_definitions l = length l.results.now
