-- The parts of a text as the reader keeps them.
use Rattle.std.specs.Prelude.{◌≡◌, ℕ, List, [], Option, Some, All, IfSome, filter, option_map}
use Rattle.std.specs.Borrow.{Bor}
use Rattle.gi_llt.specs.Tokens.{past_run}
use Rattle.gi_spelling.specs.Lines as lines
use Rattle.gi_spelling.specs.Lines.{behind_block, block_lines_in, in_documents, is_dropped, is_stray, parts_from, sections_of, starts}
use Rattle.gi_mir_read.specs.declared.text.lines.Line.{Line}
use Rattle.gi_mir_read.specs.declared.text.parts.Parts.{Parts}
use Rattle.gi_mir_read.specs.declared.text.sections.Mark.TheVariants.{Document}
use Rattle.gi_mir_read.specs.Texts.Placed.{IsLineIn, lines_at}
use Rattle.gi_mir_read.specs.Texts.Sectioned.{sections_in}

abbrev pub block_at : (text : List ℕ) → Bor (List Line) → List lines.Line
block_at text block = lines_at text block.now

-- the parts of a text of these lines, of one with this IR block and these lines behind it, and of one with an IR block
-- that begins before these lines
abbrev pub parts_in : (text : List ℕ) → List Line → lines.Parts
parts_in text placed = parts_from (past_run (λ line. is_dropped line.bytes) (lines_at text placed)) (lines_at text placed)

abbrev pub split_parts : (text : List ℕ) → Option (Bor (List Line)) → List Line → lines.Parts
split_parts text ir placed = in_documents (option_map (block_at text) ir) (sections_of starts (lines_at text placed))

abbrev pub block_parts : (text : List ℕ) → List Line → lines.Parts
block_parts text placed = in_documents (Some (block_lines_in (lines_at text placed))) (sections_of starts (behind_block (lines_at text placed)))

-- the parts as they are kept
pub record IsPartsOf (text : List ℕ) (parts : lines.Parts) (kept : Parts) : Type 0 where
  pub ir : option_map (block_at text) kept.ir ≡ parts.ir
  pub strays : filter is_stray (lines_at text kept.before.now) ≡ parts.strays
  pub documents : (sections_in Document text kept.documents.now).sections ≡ parts.documents
  pub headed : (sections_in Document text kept.documents.now).before ≡ []
  pub block_within : IfSome kept.ir (λ block. All (IsLineIn text) block.now)
  pub before_within : All (IsLineIn text) kept.before.now
  pub documents_within : All (IsLineIn text) kept.documents.now
