use Rattle.std.proofs.Common.{length}
use Rattle.gi_rule_values.proofs.building.+push_lines.Given as goal

abbrev pub decreases-push_lines : goal.decreases-push_lines
decreases-push_lines l = length l.lines.now
