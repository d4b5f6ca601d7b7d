use Rattle.std.proofs.Common.{◌≡◌, drop}
use Rattle.gi_answer.specs.Unselected.{other_in_blocks}
use Rattle.gi_answer.proofs.unselected.other_in_blocks.Given as goal

abbrev pub invariant-loop-block : goal.invariant-loop-block
invariant-loop-block l = other_in_blocks l.function.blocks ≡ other_in_blocks (drop l.block l.function.blocks)
