use Rattle.std.proofs.Common.{◌≡◌}
use Rattle.gi_mir.specs.Instrs.{left}
use Rattle.gi_answer.specs.Unselected.{other_in_instrs}
use Rattle.gi_answer.proofs.unselected.other_in_instrs.Given as goal

abbrev pub invariant-loop-numbered : goal.invariant-loop-numbered
invariant-loop-numbered l = other_in_instrs (left l.instrs) ≡ other_in_instrs (left l.numbered-iterator)
