use Rattle.gi_verify.proofs.Marking.{IsPassBelow}
use Rattle.gi_verify.proofs.reached.pass.Given as goal

abbrev pub invariant-loop-a : goal.invariant-loop-a
invariant-loop-a l = IsPassBelow l.function l.a l.fn.marks.items l.marks.items l.is_new
