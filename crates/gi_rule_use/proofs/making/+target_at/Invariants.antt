use Rattle.std.proofs.Common.{length}
use Rattle.gi_rule_use.proofs.making.+target_at.Given as goal

abbrev pub decreases-target_at : goal.decreases-target_at
decreases-target_at l = length l.places.now
