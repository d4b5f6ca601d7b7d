use Rattle.std.proofs.Common.{take}
use Rattle.gi_verify.specs.Counted.{AreTallied}
use Rattle.gi_verify.proofs.blocks.tally.Given as goal

-- those passed are counted
abbrev pub invariant-loop-b : goal.invariant-loop-b
invariant-loop-b l = AreTallied (take l.b-index l.list) l.kept
