use Rattle.std.proofs.Common.{◌≡◌, None, drop}
use Rattle.gi_answer.specs.Unselected.{last_in_blocks}
use Rattle.gi_answer.proofs.unselected.last_of.Given as goal

abbrev pub invariant-loop-block : goal.invariant-loop-block
invariant-loop-block l = last_in_blocks None l.function.blocks ≡ last_in_blocks l.last (drop l.block l.function.blocks)
