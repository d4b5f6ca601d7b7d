use Rattle.gi_verify.proofs.Naming.{AreNamedUpTo}
use Rattle.gi_verify.proofs.predecessors.Predecessors.name_all.Given as goal

-- those passed are named
abbrev pub invariant-loop-b : goal.invariant-loop-b
invariant-loop-b l = AreNamedUpTo l.fn.self l.self l.a l.successors l.b-index l.front
