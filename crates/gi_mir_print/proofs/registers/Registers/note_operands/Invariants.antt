use Rattle.std.proofs.Common.{drop, flat_map}
use Rattle.gi_mir.specs.Numbering.{registers_in_operand}
use Rattle.gi_mir.specs.Registers.{kind_in_operands}
use Rattle.gi_mir_print.specs.Shown.{RegistersData, IsNoted}
use Rattle.gi_mir_print.proofs.registers.Registers.note_operands.Given as goal

-- noting what is left ends as noting all
abbrev pub invariant-loop-operand : goal.invariant-loop-operand
invariant-loop-operand l = (e : RegistersData)
    → IsNoted l.self e (flat_map registers_in_operand (drop l.operand-index l.operands)) (λ r. kind_in_operands r (drop l.operand-index l.operands))
    → IsNoted l.fn.self e (flat_map registers_in_operand l.operands) (λ r. kind_in_operands r l.operands)
