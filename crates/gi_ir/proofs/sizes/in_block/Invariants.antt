use Rattle.std.proofs.Common.{◌≡◌, drop}
use Rattle.gi_ir.specs.Sizes.{first_among, in_instr}
use Rattle.gi_ir.proofs.sizes.in_block.Given as goal

abbrev pub invariant-loop-instr : goal.invariant-loop-instr
invariant-loop-instr l = first_among (in_instr l.target.xlen l.layouts) l.block ≡ first_among (in_instr l.target.xlen l.layouts) (drop l.instr-index l.block)
