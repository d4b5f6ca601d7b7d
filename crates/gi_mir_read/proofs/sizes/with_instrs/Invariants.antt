use Rattle.std.proofs.Common.{◌≡◌, ◌≤◌}
use Rattle.gi_mir.specs.Instrs.{left}
use Rattle.gi_registers.specs.Noted.{kind_or_class}
use Rattle.gi_mir_read.specs.Sizes.{counted, instrs_faults, lowest_after}
use Rattle.gi_mir_read.proofs.sizes.with_instrs.Given as goal

-- the faults of the instructions that are left, behind the lowest and the operands so far
abbrev pub invariant-loop-instr : goal.invariant-loop-instr
invariant-loop-instr l = record {
  within : l.count ≤ 262145;
  counted : counted l.before (left l.instrs) ≡ counted l.count (left l.instr-iterator);
  lowest : lowest_after l.fn.lowest (instrs_faults l.target.xlen (kind_or_class l.kinds) l.before (left l.instrs))
      ≡ lowest_after l.lowest (instrs_faults l.target.xlen (kind_or_class l.kinds) l.count (left l.instr-iterator));
}
