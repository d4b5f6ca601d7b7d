use Rattle.std.proofs.Common.{◌≡◌, drop}
use Rattle.std.specs.Prelude.{fold}
use Rattle.gi_registers.specs.Noted.{with_operand}
use Rattle.gi_registers.proofs.kinds.RegisterKinds.note_operands.Given as goal

-- noting what is left ends as noting all
abbrev pub invariant-loop-operand : goal.invariant-loop-operand
invariant-loop-operand l = fold with_operand l.self (drop l.operand-index l.operands) ≡ fold with_operand l.fn.self l.operands
