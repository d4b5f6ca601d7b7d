use Rattle.std.proofs.Common.{[], drop, flat_map}
use Rattle.gi_mir.specs.Numbering.{registers_in_block}
use Rattle.gi_mir.specs.Registers.{kind_in_blocks}
use Rattle.gi_mir_print.specs.Shown.{RegistersData, IsNoted}
use Rattle.gi_mir_print.proofs.registers.Registers.of.Given as goal

-- noting what is left ends as noting all
abbrev pub invariant-loop-place : goal.invariant-loop-place
invariant-loop-place l = (e : RegistersData)
    → IsNoted l.registers e (flat_map registers_in_block (drop l.place l.function.blocks)) (λ r. kind_in_blocks r (drop l.place l.function.blocks))
    → IsNoted (record { order = []; kinds = [] }) e (flat_map registers_in_block l.function.blocks) (λ r. kind_in_blocks r l.function.blocks)
