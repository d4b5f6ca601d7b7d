use Rattle.std.proofs.Common.{◌≡◌, drop}
use Rattle.std.specs.Prelude.{filter, fold}
use Rattle.gi_spelling.specs.Documents.{line_wrongs, lower}
use Rattle.gi_spelling.specs.Lines.{is_stray}
use Rattle.gi_mir_read.specs.Texts.Placed.{lines_at}
use Rattle.gi_mir_read.proofs.document.document_lines.note_strays.Given as goal

abbrev pub invariant-loop-line : goal.invariant-loop-line
invariant-loop-line l =
    fold lower l.lowest (line_wrongs (filter is_stray (lines_at l.text (drop l.line-index l.lines)))) ≡ fold lower l.initial.lowest (line_wrongs (filter is_stray (lines_at l.text l.lines)))
