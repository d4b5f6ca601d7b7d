use Rattle.std.proofs.Common.{◌≡◌, ◌+◌, ◌-◌}
use Rattle.gi_meaning.specs.Generic.{leading_zeros}
use Rattle.gi_meaning.proofs.counts.leading_zeros.Given as goal

abbrev pub invariant-loop-i : goal.invariant-loop-i
invariant-loop-i l = l.i + leading_zeros (l.n - l.i) l.a ≡ leading_zeros l.n l.a
