use Rattle.std.proofs.Common.{◌≡◌, map, take}
use Rattle.gi_refine.specs.Kept.{without_kind}
use Rattle.gi_answer.proofs.select.classed_operands.Given as goal

abbrev pub invariant-loop-operand : goal.invariant-loop-operand
invariant-loop-operand l = l.classed.items ≡ map without_kind (take l.operand-index l.operands)
