use Rattle.std.proofs.Common.{take}
use Rattle.gi_verify.specs.Sets.{IsMarkedMore}
use Rattle.gi_verify.proofs.reached.mark_successors.Given as goal

-- those passed are marked
abbrev pub invariant-loop-b : goal.invariant-loop-b
invariant-loop-b l = IsMarkedMore (take l.b-index l.successors) l.fn.marks.items l.marks.items l.is_new
