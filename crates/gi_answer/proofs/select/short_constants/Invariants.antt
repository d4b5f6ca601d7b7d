use Rattle.std.proofs.Common.{◌≡◌}
use Rattle.std.specs.Ordering.{nat_cmp}
use Rattle.std.specs.BTreeMap.{get}
use Rattle.gi_mir.specs.Instrs.{left}
use Rattle.gi_answer.proofs.SelectLoops.{ConstantsSoFar}
use Rattle.gi_answer.proofs.select.short_constants.Given as goal

abbrev pub invariant-loop-numbered : goal.invariant-loop-numbered
invariant-loop-numbered l = ConstantsSoFar (left l.instrs) (left l.numbered-iterator) (get nat_cmp l.constants)
