use Rattle.std.proofs.Common.{◌≡◌, drop}
use Rattle.std.specs.List.{position, position_from}
use Rattle.gi_mir_read.specs.Texts.Sectioned.{is_marked_at}
use Rattle.gi_mir_read.proofs.text.sections.Mark.place.Given as goal

-- what is left is searched, and the places so far are passed
abbrev pub invariant-loop-place : goal.invariant-loop-place
invariant-loop-place l = position_from (is_marked_at l.self l.text) l.place (drop l.place l.lines) ≡ position (is_marked_at l.self l.text) l.lines
