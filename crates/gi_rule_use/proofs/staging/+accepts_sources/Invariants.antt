use Rattle.std.proofs.Common.{length}
use Rattle.gi_rule_use.proofs.staging.+accepts_sources.Given as goal

abbrev pub decreases-accepts_sources : goal.decreases-accepts_sources
decreases-accepts_sources l = length l.slots.now
