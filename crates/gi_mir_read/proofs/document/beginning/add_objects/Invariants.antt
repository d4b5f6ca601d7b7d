use Rattle.std.proofs.Common.{◌≡◌, drop, length}
use Rattle.std.specs.Prelude.{fold}
use Rattle.gi_mir.specs.Edit.{with_stack}
use Rattle.gi_mir_read.proofs.document.beginning.add_objects.Given as goal

-- those that are left come behind those so far
abbrev pub invariant-loop-object : goal.invariant-loop-object
invariant-loop-object l = record {
  stacked : length l.function.stack ≡ l.object-index;
  blocks : l.function.blocks ≡ l.fn.function.blocks;
  rest : fold with_stack l.function (drop l.object-index l.objects) ≡ fold with_stack l.fn.function l.objects;
}
