use Rattle.std.proofs.Common.{◌≡◌, ◌≤◌, ◌+◌, drop}
use Rattle.gi_spelling.specs.Entries.{steps}
use Rattle.gi_mir_read.specs.Documents.Depths.{depth_of}
use Rattle.gi_mir_read.proofs.document.entry.steps.Given as goal

-- the tokens that are left, from the state so far
abbrev pub invariant-loop-item : goal.invariant-loop-item
invariant-loop-item l = record {
  depth : depth_of l.next.state ≤ depth_of l.fn.entry.state + l.item-index;
  steps : steps l.kind l.next (drop l.item-index l.items) ≡ steps l.kind l.fn.entry l.items;
}
