use Rattle.std.proofs.Common.{◌≡◌, ◌+◌, ◌-◌, ◌≤◌}
use Rattle.gi_meaning.specs.Generic.{ones}
use Rattle.gi_meaning.proofs.counts.ones.Given as goal

abbrev pub invariant-loop-i : goal.invariant-loop-i
invariant-loop-i l = record { value : l.count + ones (l.n - l._i) l.rest ≡ ones l.n l.a; bound : l.count ≤ l._i }
