use Rattle.std.proofs.Common.{length}
use Rattle.gi_rule_use.proofs.staging.+accepts_defined.Given as goal

abbrev pub decreases-accepts_defined : goal.decreases-accepts_defined
decreases-accepts_defined l = length l.slots.now
