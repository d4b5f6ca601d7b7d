use Rattle.std.proofs.Common.{◌≡◌, ◌++◌, drop}
use Rattle.gi_mir_read.proofs.document.beginning.classes.Given as goal

-- those so far, before those that are left
abbrev pub invariant-loop-number : goal.invariant-loop-number
invariant-loop-number l = l.classes ++ drop l.number-index l.registers ≡ l.registers
