use Rattle.std.proofs.Common.{◌≡◌, drop}
use Rattle.gi_mir.specs.Registers.{kind_in_operands}
use Rattle.gi_mir.proofs.function.kind_among.Given as goal

abbrev pub invariant-loop-operand : goal.invariant-loop-operand
invariant-loop-operand l = kind_in_operands l.reg.0 l.operands ≡ kind_in_operands l.reg.0 (drop l.operand-index l.operands)
