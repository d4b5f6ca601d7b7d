use Rattle.gi_normalise.specs.Gaps.{IsClear}
use Rattle.gi_normalise.proofs.backwards.generic_before.Given as goal

abbrev pub invariant-loop-id : goal.invariant-loop-id
invariant-loop-id l = IsClear l.function l.gap

abbrev pub decreases-loop-id : goal.decreases-loop-id
decreases-loop-id l = l.gap.block
