use Rattle.std.proofs.Common.{◌≡◌, ◌≤◌, drop}
use Rattle.gi_registers.specs.Noted.{kind_or_class}
use Rattle.gi_mir_read.specs.Sizes.{blocks_faults, lowest_after}
use Rattle.gi_mir_read.proofs.sizes.with_blocks.Given as goal

-- the faults of the blocks that are left, behind the lowest and the operands so far
abbrev pub invariant-loop-block : goal.invariant-loop-block
invariant-loop-block l = record {
  within : l.count ≤ 262145;
  lowest : lowest_after l.fn.lowest (blocks_faults l.target.xlen (kind_or_class l.kinds) 0 l.f.blocks)
      ≡ lowest_after l.lowest (blocks_faults l.target.xlen (kind_or_class l.kinds) l.count (drop l.block l.f.blocks));
}
