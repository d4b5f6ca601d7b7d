-- The lines of a function's blocks as the reader keeps them.
use Rattle.std.specs.Prelude.{◌≡◌, ℕ, Bool, List, [], ◌∷◌, Option, Some, None, All, map, if◌then◌else◌, is_some}
use Rattle.gi_spelling.specs.declared.token.Item.{Item}
use Rattle.gi_spelling.specs.Blocks.{head_in, head_number, is_block_head, is_debug_kept}
use Rattle.gi_spelling.specs.Items.{kept_items}
use Rattle.gi_spelling.specs.Lines as lines
use Rattle.gi_spelling.specs.Lines.{Section, Sections, sections_of}
use Rattle.gi_mir_read.specs.declared.text.lines.Line.{Line}
use Rattle.gi_mir_read.specs.declared.function.told.Told.{Told}
use Rattle.gi_mir_read.specs.Texts.Placed.{IsLineIn, line_at}

-- the line of these tokens, if it says something
abbrev pub told_by : Line → Option (List Item) → Option Told
told_by line items = if is_debug_kept items then None else Some (record { line = line; head = head_in items })

abbrev pub told_of : (text : List ℕ) → Line → Option Told
told_of text line = told_by line (kept_items text (line_at text line))

abbrev pub told_at : (text : List ℕ) → Told → lines.Line
told_at text told = line_at text told.line

abbrev pub told_lines_at : (text : List ℕ) → List Told → List lines.Line
told_lines_at text told = map (told_at text) told

-- the line is a slice of the text, and its number is that of the block that it begins
pub record IsToldIn (text : List ℕ) (told : Told) : Type 0 where
  pub within : IsLineIn text told.line
  pub head : told.head ≡ head_number text (told_at text told)

-- a line begins a block
abbrev pub begins_block : Told → Bool
begins_block told = is_some told.head

-- the blocks of these lines
abbrev pub blocks_of : (text : List ℕ) → List Told → Sections
blocks_of text told = sections_of (is_block_head text) (told_lines_at text told)

-- lines are cut where the first block begins
pub record IsCutAtBlock (text : List ℕ) (told before after : List Told) : Type 0 where
  pub front : told_lines_at text before ≡ (blocks_of text told).before
  pub back : (blocks_of text after).sections ≡ (blocks_of text told).sections
  pub headed : (blocks_of text after).before ≡ []
  pub front_within : All (IsToldIn text) before
  pub back_within : All (IsToldIn text) after

abbrev pub section_of : (text : List ℕ) (head : Told) (under : List Told) → Section
section_of text head under = record { head = told_at text head; under = told_lines_at text under }

-- the first block of these lines, and what stands behind it
pub record IsNextBlock (text : List ℕ) (told : List Told) (head : Told) (under later : List Told) : Type 0 where
  pub sections : (blocks_of text told).sections ≡ section_of text head under ∷ (blocks_of text later).sections
  pub headed : (blocks_of text later).before ≡ []
  pub head_within : IsToldIn text head
  pub under_within : All (IsToldIn text) under
  pub later_within : All (IsToldIn text) later

abbrev pub head_of : Told → Option ℕ
head_of told = told.head
