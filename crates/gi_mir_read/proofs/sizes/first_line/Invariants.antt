use Rattle.std.proofs.Common.{◌≡◌, drop}
use Rattle.gi_mir_read.specs.Sizes.{first_line}
use Rattle.gi_mir_read.proofs.sizes.first_line.Given as goal

abbrev pub invariant-loop-block : goal.invariant-loop-block
invariant-loop-block l = first_line l.f.blocks ≡ first_line (drop l.block l.f.blocks)
