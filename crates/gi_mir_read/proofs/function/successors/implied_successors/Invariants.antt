use Rattle.std.proofs.Common.{◌≡◌, take}
use Rattle.gi_mir_read.proofs.function.successors.implied_successors.Given as goal

-- those so far
abbrev pub invariant-loop-place : goal.invariant-loop-place
invariant-loop-place l = l.found.items ≡ take l.place-index l.place-items
