use Rattle.std.proofs.Common.{flat_map}
use Rattle.gi_mir.specs.Instrs.{left}
use Rattle.gi_mir.specs.Numbering.{registers_in_instr}
use Rattle.gi_mir.specs.Registers.{kind_in_instrs}
use Rattle.gi_mir_print.specs.Shown.{RegistersData, IsNoted}
use Rattle.gi_mir_print.proofs.registers.Registers.note_instrs.Given as goal

-- noting what is left ends as noting all
abbrev pub invariant-loop-numbered : goal.invariant-loop-numbered
invariant-loop-numbered l = (e : RegistersData)
    → IsNoted l.self e (flat_map registers_in_instr (left l.numbered-iterator)) (λ r. kind_in_instrs r (left l.numbered-iterator))
    → IsNoted l.fn.self e (flat_map registers_in_instr (left l.instrs)) (λ r. kind_in_instrs r (left l.instrs))
