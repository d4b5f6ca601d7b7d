use Rattle.gi_rule_refines.proofs.Rewrites.{good_kept, good_refines}
use Rattle.gi_rule_refines.proofs.laws.good_rewrite_refines.Goals as goal

pub returns : goal.returns
returns c = λ x phase names f id u word types good made. (good_kept x phase names f id u types good made, good_refines x phase names f id u word good made)
