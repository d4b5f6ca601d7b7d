use Rattle.std.proofs.Common.{◌≡◌, drop}
use Rattle.gi_ir.specs.Sizes.{first_among, in_block}
use Rattle.gi_ir.proofs.sizes.in_blocks.Given as goal

abbrev pub invariant-loop-block : goal.invariant-loop-block
invariant-loop-block l = first_among (in_block l.target.xlen l.layouts) l.blocks ≡ first_among (in_block l.target.xlen l.layouts) (drop l.block-index l.blocks)
