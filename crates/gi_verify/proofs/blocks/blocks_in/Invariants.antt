use Rattle.std.proofs.Common.{◌≡◌, ◌++◌, drop}
use Rattle.gi_valid.specs.Faults.{blocks_in}
use Rattle.gi_verify.proofs.blocks.blocks_in.Given as goal

-- what is put with what is left is all
abbrev pub invariant-loop-operand : goal.invariant-loop-operand
invariant-loop-operand l = l.blocks.items ++ blocks_in (drop l.operand-index l.operands) ≡ blocks_in l.operands
