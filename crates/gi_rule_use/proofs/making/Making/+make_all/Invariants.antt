use Rattle.std.proofs.Common.{length}
use Rattle.gi_rule_use.proofs.making.Making.+make_all.Given as goal

abbrev pub decreases-make_all : goal.decreases-make_all
decreases-make_all l = length l.operations.now
