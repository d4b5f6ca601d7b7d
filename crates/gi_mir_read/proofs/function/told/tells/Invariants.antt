use Rattle.std.proofs.Common.{◌≡◌, drop}
use Rattle.gi_mir_read.specs.Lines.Telling.{tells}
use Rattle.gi_mir_read.proofs.function.told.tells.Given as goal

-- what is left tells what the line does
abbrev pub invariant-loop-k : goal.invariant-loop-k
invariant-loop-k l = tells (drop l.k l.bytes) ≡ tells l.fn.bytes
