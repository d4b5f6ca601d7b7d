-- A line as the reader keeps it, by its place in the text.
use Rattle.std.specs.Prelude.{ℕ, ◌≤◌, List, length, map}
use Rattle.gi_text.specs.Cutting.{slice}
use Rattle.gi_spelling.specs.Lines as lines
use Rattle.gi_mir_read.specs.declared.text.lines.Line.{Line}

abbrev pub line_at : (text : List ℕ) → Line → lines.Line
line_at text line = record { number = line.number; start = line.start; bytes = slice line.start line.end text }

-- the line is a slice of the text
pub record IsLineIn (text : List ℕ) (line : Line) : Type 0 where
  pub ordered : line.start ≤ line.end
  pub within : line.end ≤ length text

abbrev pub lines_at : (text : List ℕ) → List Line → List lines.Line
lines_at text placed = map (line_at text) placed
