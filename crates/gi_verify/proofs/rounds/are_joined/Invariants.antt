use Rattle.gi_verify.specs.Rounds.{IsJoinedAt}
use Rattle.gi_verify.proofs.Ordering.{AreSoBelow}
use Rattle.gi_verify.proofs.rounds.are_joined.Given as goal

abbrev pub invariant-loop-a : goal.invariant-loop-a
invariant-loop-a l = AreSoBelow (IsJoinedAt l.function l.reached l.changes l.starts) l.a
