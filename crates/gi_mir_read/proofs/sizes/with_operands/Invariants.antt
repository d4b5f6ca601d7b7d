use Rattle.std.proofs.Common.{◌≡◌, ◌≤◌, drop}
use Rattle.gi_registers.specs.Noted.{kind_or_class}
use Rattle.gi_mir_read.specs.Sizes.{lowest_after, operands_faults}
use Rattle.gi_mir_read.proofs.sizes.with_operands.Given as goal

-- the faults of the operands that are left, behind the lowest so far
abbrev pub invariant-loop-operand : goal.invariant-loop-operand
invariant-loop-operand l = record {
  few_results : l.results ≤ l.operand-index;
  few_sources : l.sources ≤ l.operand-index;
  lowest : lowest_after l.fn.lowest (operands_faults l.target.xlen (kind_or_class l.kinds) l.instr 0 0 l.fn.forms l.operands)
      ≡ lowest_after l.lowest (operands_faults l.target.xlen (kind_or_class l.kinds) l.instr l.results l.sources l.forms (drop l.operand-index l.operands));
}
