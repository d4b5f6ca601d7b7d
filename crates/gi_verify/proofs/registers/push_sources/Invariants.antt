use Rattle.std.proofs.Common.{◌≡◌, ◌++◌, drop}
use Rattle.gi_meaning.specs.InRow.{sources_in}
use Rattle.gi_verify.proofs.registers.push_sources.Given as goal

abbrev pub invariant-loop-operand : goal.invariant-loop-operand
invariant-loop-operand l = l.registers.items ++ sources_in (drop l.operand-index l.operands) ≡ l.fn.registers.items ++ sources_in l.operands
