use Rattle.std.proofs.Common.{◌≡◌, true, length, reverse}
use Rattle.std.specs.List.{list_all}
use Rattle.gi_mir.specs.Formed.{is_formed}
use Rattle.gi_answer.specs.Selecting.{with_all}
use Rattle.gi_answer.proofs.select.put_backwards.Given as goal

abbrev pub invariant-loop-instr : goal.invariant-loop-instr
invariant-loop-instr l =
    (length l.selected.blocks ≡ 1) × (list_all is_formed l.rest.items ≡ true)
    × (with_all l.selected (reverse l.rest.items) ≡ with_all l.fn.selected (reverse l.fn.instrs.items))

abbrev pub decreases-loop-instr : goal.decreases-loop-instr
decreases-loop-instr l = length l.rest.items
