use Rattle.std.proofs.Common.{◌≡◌, ◌++◌, length}
use Rattle.gi_mir.specs.InstrLists.{chunk_ids, AreFilled}
use Rattle.gi_mir.proofs.instr_list.cut.Given as goal

-- what is in chunks, and what is left
abbrev pub invariant-loop-rest : goal.invariant-loop-rest
invariant-loop-rest l = record {
  ids : chunk_ids l.chunks.items ++ l.rest ≡ l.ids;
  filled : AreFilled l.chunks.items;
}

abbrev pub decreases-loop-rest : goal.decreases-loop-rest
decreases-loop-rest l = length l.rest
