use Rattle.std.proofs.Common.{◌≡◌, ℕ, List, drop}
use Rattle.std.specs.Prelude.{fold}
use Rattle.gi_spelling.specs.Documents.{line_wrongs, lower}
use Rattle.gi_mir_read.specs.Texts.Placed.{lines_at}
use Rattle.gi_mir_read.proofs.text.wrongs.Lowest.note_lines.Given as goal

abbrev pub invariant-loop-line : goal.invariant-loop-line
invariant-loop-line l =
    (text : List ℕ) → fold lower l.self (line_wrongs (lines_at text (drop l.line-index l.lines))) ≡ fold lower l.initial.self (line_wrongs (lines_at text l.lines))
