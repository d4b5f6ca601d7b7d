use Rattle.std.proofs.Common.{◌≡◌, ◌++◌, drop}
use Rattle.gi_spelling.specs.Documents.{objects_from}
use Rattle.gi_mir_read.proofs.document.objects.objects_of.Given as goal

-- the objects so far, before those of the entries that are left
abbrev pub invariant-loop-place : goal.invariant-loop-place
invariant-loop-place l = l.objects.items ++ objects_from l.place (drop l.place l.entries) ≡ objects_from 0 l.entries
