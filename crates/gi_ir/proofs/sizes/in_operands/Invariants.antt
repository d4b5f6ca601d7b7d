use Rattle.std.proofs.Common.{◌≡◌, drop}
use Rattle.gi_ir.specs.Sizes.{fault_of_type, first_among, in_operand}
use Rattle.gi_ir.proofs.sizes.in_operands.Given as goal

abbrev pub invariant-loop-operand : goal.invariant-loop-operand
invariant-loop-operand l = first_among (in_operand (fault_of_type l.look l.at.target.xlen l.at.layouts.now l.at.line)) l.operands ≡ first_among (in_operand (fault_of_type l.look l.at.target.xlen l.at.layouts.now l.at.line)) (drop l.operand-index l.operands)
