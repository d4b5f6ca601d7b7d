use Rattle.std.proofs.Common.{map, length}
use Rattle.std.specs.Ordering.{nat_cmp}
use Rattle.std.specs.BTreeMap.{get}
use Rattle.std.specs.BTreeSet.{contains}
use Rattle.gi_mir.specs.Instrs.{left}
use Rattle.gi_answer.proofs.SelectLoops.{SelectedBehind}
use Rattle.gi_answer.proofs.select.selected_backwards.Given as goal

abbrev pub invariant-loop-numbered : goal.invariant-loop-numbered
invariant-loop-numbered l =
    SelectedBehind (get nat_cmp l.constants) (left l.instrs) (map (λ numbered. numbered.now) l.front.items) (contains nat_cmp l.used) l.selected.items

abbrev pub decreases-loop-numbered : goal.decreases-loop-numbered
decreases-loop-numbered l = length l.front.items
