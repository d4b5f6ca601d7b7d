use Rattle.std.proofs.Common.{◌≡◌, drop}
use Rattle.std.specs.Prelude.{fold}
use Rattle.gi_spelling.specs.Documents.{lower, object_wrongs}
use Rattle.gi_mir_read.proofs.document.objects.note_entries.Given as goal

abbrev pub invariant-loop-place : goal.invariant-loop-place
invariant-loop-place l = fold lower l.lowest (object_wrongs l.place (drop l.place l.entries)) ≡ fold lower l.initial.lowest (object_wrongs 0 l.entries)
