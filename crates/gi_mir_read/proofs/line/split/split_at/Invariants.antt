use Rattle.std.proofs.Common.{◌≡◌, drop, take}
use Rattle.gi_spelling.specs.Reading.{split_at}
use Rattle.gi_mir_read.proofs.Lines.SplitLemmas.{onto_all}
use Rattle.gi_mir_read.proofs.line.split.split_at.Given as goal

-- no separator so far
abbrev pub invariant-loop-place : goal.invariant-loop-place
invariant-loop-place l = onto_all (take l.place l.items) (split_at l.separator (drop l.place l.items)) ≡ split_at l.separator l.items
