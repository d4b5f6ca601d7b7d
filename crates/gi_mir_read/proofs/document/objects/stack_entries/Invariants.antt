use Rattle.std.proofs.Common.{◌≡◌, ◌*◌, ◌^◌, ◌≤◌, ◌++◌, drop}
use Rattle.gi_spelling.specs.Documents.{stack_entries, stack_entries_from}
use Rattle.gi_mir_read.specs.Documents.Depths.{depth_of}
use Rattle.gi_mir_read.specs.Texts.Placed.{lines_at}
use Rattle.gi_mir_read.proofs.document.objects.stack_entries.Given as goal

-- the entries so far, before those of the lines that are left
abbrev pub invariant-loop-place : goal.invariant-loop-place
invariant-loop-place l = record {
  depth : depth_of l.entry.state ≤ l.place * 2 ^ 64;
  entries : l.entries.items ++ stack_entries_from l.text l.entry (lines_at l.text (drop l.place l.lines)) ≡ stack_entries l.text (lines_at l.text l.lines);
}
