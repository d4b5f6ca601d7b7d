use Rattle.std.proofs.Common.{◌≡◌}
use Rattle.gi_mir.specs.Instrs.{left}
use Rattle.gi_answer.specs.Unselected.{last_in_instrs}
use Rattle.gi_answer.proofs.unselected.last_in_instrs.Given as goal

abbrev pub invariant-loop-numbered : goal.invariant-loop-numbered
invariant-loop-numbered l = last_in_instrs l.fn.before (left l.instrs) ≡ last_in_instrs l.last (left l.numbered-iterator)
