use Rattle.std.proofs.Common.{◌≡◌, ◌++◌, drop, map}
use Rattle.gi_meaning.specs.InRow.{results_in}
use Rattle.gi_verify.proofs.definitions.push_definitions.Given as goal

abbrev pub invariant-loop-operand : goal.invariant-loop-operand
invariant-loop-operand l = l.out.items ++ map (λ r. (l.line, r)) (results_in (drop l.operand-index l.operands)) ≡ l.fn.out.items ++ map (λ r. (l.line, r)) (results_in l.operands)
