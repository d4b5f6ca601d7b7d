use Rattle.std.proofs.Common.{◌≡◌, ◌++◌}
use Rattle.gi_mir.specs.InstrLists.{ids_left}
use Rattle.gi_mir.proofs.instr_list.InstrIds.copied.Given as goal

-- those copied, and those that are left
abbrev pub invariant-loop-id : goal.invariant-loop-id
invariant-loop-id l = l.ids.items ++ ids_left l.id-iterator ≡ ids_left l.self
