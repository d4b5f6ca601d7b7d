use Rattle.std.proofs.Common.{take}
use Rattle.std.specs.List.{AllZip}
use Rattle.gi_answer.specs.Selection.{IsSelected}
use Rattle.gi_answer.proofs.select.select_all.Given as goal

abbrev pub invariant-loop-function : goal.invariant-loop-function
invariant-loop-function l = AllZip IsSelected (take l.function-index l.functions) l.selected.items
