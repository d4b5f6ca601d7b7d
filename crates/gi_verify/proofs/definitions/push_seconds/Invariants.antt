use Rattle.std.proofs.Common.{◌≡◌, ◌++◌, [], take, drop}
use Rattle.gi_valid.specs.Faults.{seconds}
use Rattle.gi_verify.specs.Counted.{AreCounted}
use Rattle.gi_verify.proofs.definitions.push_seconds.Given as goal

abbrev pub invariant-loop-k : goal.invariant-loop-k
invariant-loop-k l = (l.out.items ++ seconds (take l.k l.all) (drop l.k l.all) ≡ l.fn.out.items ++ seconds [] l.all) × AreCounted (take l.k l.all) l.counted
