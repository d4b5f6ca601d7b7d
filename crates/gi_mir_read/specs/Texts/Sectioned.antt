-- Sections as the reader keeps them, by their places in the text.
use Rattle.std.specs.Prelude.{ℕ, Bool, not, ◌||◌, List, All}
use Rattle.gi_spelling.specs.Lines as lines
use Rattle.gi_spelling.specs.Lines.{Sections, sections_of, is_dropped, is_start, is_end, begins_at_column_one}
use Rattle.gi_mir_read.specs.declared.text.lines.Line.{Line}
use Rattle.gi_mir_read.specs.declared.text.sections.Mark.{Mark}
use Rattle.gi_mir_read.specs.declared.text.sections.Mark.TheVariants.{Document, Entry, Counted, BlockEnd, End}
use Rattle.gi_mir_read.specs.declared.text.sections.Section.{Section}
use Rattle.gi_mir_read.specs.Texts.Placed.{IsLineIn, line_at, lines_at}

-- whether a line is marked so
abbrev pub is_marked : Mark → List ℕ → Bool
is_marked Document bytes = is_start bytes
is_marked Entry bytes = begins_at_column_one bytes
is_marked Counted bytes = not (is_dropped bytes)
is_marked BlockEnd bytes = is_end bytes || is_start bytes
is_marked End bytes = is_end bytes

abbrev pub is_marked_line : Mark → lines.Line → Bool
is_marked_line mark line = is_marked mark line.bytes

abbrev pub is_unmarked : Mark → lines.Line → Bool
is_unmarked mark line = not (is_marked_line mark line)

abbrev pub is_marked_at : Mark → (text : List ℕ) → Line → Bool
is_marked_at mark text line = is_marked_line mark (line_at text line)

abbrev pub section_at : (text : List ℕ) → Section → lines.Section
section_at text section = record { head = line_at text section.head; under = lines_at text section.under.now }

abbrev pub sections_in : Mark → (text : List ℕ) → List Line → Sections
sections_in mark text placed = sections_of (is_marked_line mark) (lines_at text placed)

-- the lines of the section are slices of the text
pub record IsSectionIn (text : List ℕ) (section : Section) : Type 0 where
  pub head : IsLineIn text section.head
  pub under : All (IsLineIn text) section.under.now
