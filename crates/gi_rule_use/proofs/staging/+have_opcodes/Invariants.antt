use Rattle.std.proofs.Common.{length}
use Rattle.gi_rule_use.proofs.staging.+have_opcodes.Given as goal

abbrev pub decreases-have_opcodes : goal.decreases-have_opcodes
decreases-have_opcodes l = length l.operations.now
