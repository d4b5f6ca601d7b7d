use Rattle.std.proofs.Common.{◌≡◌, ◌<◌, length}
use Rattle.std.specs.Prelude.{fold}
use Rattle.std.specs.Vec.Iter.{into_iter_items}
use Rattle.gi_spelling.specs.Documents.{with_last}
use Rattle.gi_mir_read.specs.Functions.Bodies.{AreFormed}
use Rattle.gi_mir_read.proofs.function.building.insert_all.Given as goal

-- those that are left come behind those so far
abbrev pub invariant-loop-instr : goal.invariant-loop-instr
invariant-loop-instr l = record {
  within : l.place < length l.function.blocks;
  formed : AreFormed (into_iter_items l.instr-iterator);
  rest : fold (with_last l.place) l.function (into_iter_items l.instr-iterator) ≡ fold (with_last l.place) l.initial.function l.fn.instrs.items;
}
