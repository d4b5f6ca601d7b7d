use Rattle.gi_verify.specs.Named.{AreNamedBelow}
use Rattle.gi_verify.proofs.predecessors.predecessors_of.Given as goal

abbrev pub invariant-loop-a : goal.invariant-loop-a
invariant-loop-a l = AreNamedBelow l.function l.a l.all
