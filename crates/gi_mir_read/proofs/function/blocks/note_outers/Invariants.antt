use Rattle.std.proofs.Common.{◌≡◌, drop, map}
use Rattle.std.specs.Prelude.{fold}
use Rattle.gi_spelling.specs.Blocks.{outer_wrong}
use Rattle.gi_spelling.specs.Documents.{lower}
use Rattle.gi_mir_read.specs.Functions.Blocked.{told_lines_at}
use Rattle.gi_mir_read.specs.Functions.Noted.{with_lowest}
use Rattle.gi_mir_read.proofs.function.blocks.note_outers.Given as goal

-- those that are left come behind those so far
abbrev pub invariant-loop-line : goal.invariant-loop-line
invariant-loop-line l =
    with_lowest l.notes (fold lower l.notes.lowest (map (outer_wrong l.text) (told_lines_at l.text (drop l.line-index l.told))))
    ≡ with_lowest l.initial.notes (fold lower l.initial.notes.lowest (map (outer_wrong l.text) (told_lines_at l.text l.told)))
