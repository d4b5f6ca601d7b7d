use Rattle.std.proofs.Common.{◌≡◌, ◌+◌, ◌-◌}
use Rattle.gi_meaning.specs.Generic.{trailing_zeros}
use Rattle.gi_meaning.proofs.counts.trailing_zeros.Given as goal

abbrev pub invariant-loop-i : goal.invariant-loop-i
invariant-loop-i l = l.i + trailing_zeros (l.n - l.i) l.rest ≡ trailing_zeros l.n l.a
