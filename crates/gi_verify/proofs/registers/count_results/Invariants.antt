use Rattle.std.proofs.Common.{◌≡◌, ◌+◌, ◌≤◌, length, drop}
use Rattle.gi_meaning.specs.InRow.{results_in}
use Rattle.gi_verify.proofs.registers.count_results.Given as goal

abbrev pub invariant-loop-operand : goal.invariant-loop-operand
invariant-loop-operand l = (l.count ≤ l.operand-index) × (l.count + length (results_in (drop l.operand-index l.operands)) ≡ length (results_in l.operands))
