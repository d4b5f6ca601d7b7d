use Rattle.std.proofs.Common.{◌≡◌, ◌++◌, replicate, None}
use Rattle.gi_verify.proofs.registers.push_unknown.Given as goal

abbrev pub invariant-loop-done : goal.invariant-loop-done
invariant-loop-done l = l.types.items ≡ l.fn.types.items ++ replicate l._done None
