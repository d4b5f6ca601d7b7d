use Rattle.std.proofs.Common.{◌≡◌, ◌++◌, drop}
use Rattle.gi_meaning.specs.InRow.{results_in}
use Rattle.gi_verify.proofs.registers.results_in.Given as goal

abbrev pub invariant-loop-operand : goal.invariant-loop-operand
invariant-loop-operand l = l.registers.items ++ results_in (drop l.operand-index l.operands) ≡ results_in l.operands
