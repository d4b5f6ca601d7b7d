use Rattle.gi_verify.specs.Rounds.{IsApartAt}
use Rattle.gi_verify.proofs.Ordering.{AreSoBelow}
use Rattle.gi_verify.proofs.rounds.are_apart.Given as goal

abbrev pub invariant-loop-b : goal.invariant-loop-b
invariant-loop-b l = AreSoBelow (IsApartAt l.reached l.starts l.made) l.b
