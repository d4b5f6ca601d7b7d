use Rattle.std.proofs.Common.{◌≡◌, drop}
use Rattle.std.specs.Prelude.{flat_map}
use Rattle.gi_mir_read.specs.Sizes.{lowest_after, register_faults}
use Rattle.gi_mir_read.proofs.sizes.with_registers.Given as goal

abbrev pub invariant-loop-operand : goal.invariant-loop-operand
invariant-loop-operand l =
    lowest_after l.fn.lowest (flat_map (register_faults l.line) l.operands) ≡ lowest_after l.lowest (flat_map (register_faults l.line) (drop l.operand-index l.operands))
