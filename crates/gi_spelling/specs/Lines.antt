-- The lines of a text, and how they stand together: an IR block, documents, entries under keys, and blocks.
-- (Machine IR (MIR) Format Reference Manual, "High Level Structure", "Machine Functions", "Machine Basic Blocks"; that
-- empty lines and lines that begin with `#` are passed over is this project's own.)
use Rattle.std.specs.Prelude.{ℕ, suc, ◌+◌, Bool, true, false, not, ◌&&◌, ◌||◌, List, [], ◌∷◌, Option, Some, None, length, drop, filter, ◌==◌, bytes_eq, if◌then◌else◌, codes}
use Rattle.gi_llt.specs.Tokens.{Lexeme, is_word_start, is_word_byte, is_blank, run_of, past_run, tokens_of}

-- a line: its number from 1, the place of its first byte in the text, and its bytes
pub record Line : Type 0 where
  pub number : ℕ
  pub start : ℕ
  pub bytes : List ℕ

-- a line feed ends a line, and a last line without one counts if it isn't empty
abbrev pub onto_first : ℕ → List (List ℕ) → List (List ℕ)
onto_first byte [] = (byte ∷ []) ∷ []
onto_first byte (line ∷ lines) = (byte ∷ line) ∷ lines

abbrev pub lines_of : List ℕ → List (List ℕ)
lines_of [] = []
lines_of (byte ∷ text) = if byte == 10 then [] ∷ lines_of text else onto_first byte (lines_of text)

abbrev pub numbered_from : (number start : ℕ) → List (List ℕ) → List Line
numbered_from number start [] = []
numbered_from number start (bytes ∷ lines) = record { number = number; start = start; bytes = bytes } ∷ numbered_from (suc number) (start + length bytes + 1) lines

abbrev pub lines_in : (text : List ℕ) → List Line
lines_in text = numbered_from 1 0 (lines_of text)

-- ══ Lines that stand apart ══

-- passed over: a line without a token, and one whose first byte is `#`
abbrev pub is_empty_line : Option (List Lexeme) → Bool
is_empty_line (Some []) = true
is_empty_line _ = false

abbrev pub begins_comment : List ℕ → Bool
begins_comment [] = false
begins_comment (byte ∷ rest) = byte == 35

abbrev pub is_dropped : List ℕ → Bool
is_dropped line = begins_comment line || is_empty_line (tokens_of line)

-- a line up to its comment, less the blanks at its end; and less those at its front too
abbrev pub without_comment : List ℕ → List ℕ
without_comment line = run_of (λ byte. not (byte == 59)) line

abbrev pub with_byte : ℕ → List ℕ → List ℕ
with_byte byte [] = if is_blank byte then [] else byte ∷ []
with_byte byte (next ∷ rest) = byte ∷ next ∷ rest

abbrev pub without_last_blanks : List ℕ → List ℕ
without_last_blanks [] = []
without_last_blanks (byte ∷ rest) = with_byte byte (without_last_blanks rest)

abbrev pub line_bytes : List ℕ → List ℕ
line_bytes line = without_last_blanks (without_comment line)

abbrev pub value_bytes : List ℕ → List ℕ
value_bytes line = past_run is_blank (line_bytes line)

-- a document begins with a line `---` and may end with a line `...`; blanks and a comment may stand behind
abbrev pub is_start : List ℕ → Bool
is_start line = bytes_eq (line_bytes line) (codes "---")

abbrev pub is_end : List ℕ → Bool
is_end line = bytes_eq (line_bytes line) (codes "...")

-- `--- |` begins an IR block: one or more blanks stand before the bar
abbrev pub is_bar_behind_blanks : List ℕ → Bool
is_bar_behind_blanks [] = false
is_bar_behind_blanks (byte ∷ rest) = is_blank byte && bytes_eq (past_run is_blank rest) (124 ∷ [])

abbrev pub is_block_start : List ℕ → Bool
is_block_start line = bytes_eq (run_of (λ byte. byte == 45) (line_bytes line)) (codes "---") && is_bar_behind_blanks (past_run (λ byte. byte == 45) (line_bytes line))

-- ══ Sections ══

-- a head begins a section, and the lines up to the next head stand under it
pub record Section : Type 0 where
  pub head : Line
  pub under : List Line

pub record Sections : Type 0 where
  pub before : List Line
  pub sections : List Section

abbrev pub with_head : Line → Sections → Sections
with_head line rest = record { before = []; sections = record { head = line; under = rest.before } ∷ rest.sections }

abbrev pub with_line : Line → Sections → Sections
with_line line rest = record { before = line ∷ rest.before; sections = rest.sections }

abbrev pub sections_of : (is_head : Line → Bool) → List Line → Sections
sections_of is_head [] = record { before = []; sections = [] }
sections_of is_head (line ∷ lines) = if is_head line then with_head line (sections_of is_head lines) else with_line line (sections_of is_head lines)

-- ══ The parts of a text ══

-- the lines of the IR block if there is one, the lines that stand in no document, and the documents, each with its
-- first line and what follows
pub record Parts : Type 0 where
  pub ir : Option (List Line)
  pub strays : List Line
  pub documents : List Section

abbrev pub is_stray : Line → Bool
is_stray line = not (is_dropped line.bytes)

abbrev pub in_documents : Option (List Line) → Sections → Parts
in_documents ir sections = record { ir = ir; strays = filter is_stray sections.before; documents = sections.sections }

abbrev pub ends_document : Line → Bool
ends_document line = is_end line.bytes || is_start line.bytes

-- without the line `...` at the front
abbrev pub past_end : List Line → List Line
past_end [] = []
past_end (line ∷ lines) = if is_end line.bytes then lines else line ∷ lines

abbrev pub behind_block : List Line → List Line
behind_block lines = past_end (past_run (λ line. not (ends_document line)) lines)

abbrev pub block_lines_in : List Line → List Line
block_lines_in lines = run_of (λ line. not (ends_document line)) lines

abbrev pub starts : Line → Bool
starts line = is_start line.bytes

-- the first line that isn't passed over may begin an IR block
abbrev pub parts_from : (counted lines : List Line) → Parts
parts_from [] lines = in_documents None (sections_of starts lines)
parts_from (first ∷ more) lines =
    if is_block_start first.bytes then in_documents (Some (block_lines_in more)) (sections_of starts (behind_block more))
    else in_documents None (sections_of starts lines)

abbrev pub parts_of_text : (text : List ℕ) → Parts
parts_of_text text = parts_from (past_run (λ line. is_dropped line.bytes) (lines_in text)) (lines_in text)

-- ══ A document ══

-- its lines up to the `...` that may end it, and what follows
abbrev pub document_lines : Section → List Line
document_lines document = run_of (λ line. not (is_end line.bytes)) document.under

abbrev pub document_rest : Section → List Line
document_rest document = past_run (λ line. not (is_end line.bytes)) document.under

-- the lines behind the `...` that stand in no document
abbrev pub without_line : List Line → List Line
without_line [] = []
without_line (line ∷ lines) = lines

abbrev pub document_strays : Section → List Line
document_strays document = filter is_stray (without_line (document_rest document))

-- its last line: the `...`, or else the last before the next document
abbrev pub last_number : Line → List Line → ℕ
last_number line [] = line.number
last_number line (next ∷ lines) = last_number next lines

abbrev pub end_number : Section → List Line → ℕ
end_number document [] = last_number document.head document.under
end_number document (line ∷ lines) = line.number

abbrev pub document_end : Section → ℕ
document_end document = end_number document (document_rest document)

-- a key stands at column 1; what is indented or begins with `-` stands under it, but for `--- |`, which is no key either
abbrev pub begins_at_column_one : List ℕ → Bool
begins_at_column_one [] = false
begins_at_column_one (byte ∷ rest) = not (is_blank byte) && not (byte == 45) || is_block_start (byte ∷ rest)

abbrev pub is_at_column_one : Line → Bool
is_at_column_one line = begins_at_column_one line.bytes

abbrev pub counted_lines : List Line → List Line
counted_lines lines = filter (λ line. not (is_dropped line.bytes)) lines

abbrev pub document_entries : Section → Sections
document_entries document = sections_of is_at_column_one (counted_lines (document_lines document))

-- ══ An entry: `key: value` ══

-- the key of a line; blanks may stand before its colon
abbrev pub key_of : List ℕ → List ℕ
key_of [] = []
key_of (byte ∷ rest) = if is_word_start byte then byte ∷ run_of is_word_byte rest else []

abbrev pub behind_key : List ℕ → List ℕ
behind_key line = past_run is_blank (drop (length (key_of line)) line)

abbrev pub begins_with_colon : List ℕ → Bool
begins_with_colon [] = false
begins_with_colon (byte ∷ rest) = byte == 58

abbrev pub is_entry : List ℕ → Bool
is_entry line = not (length (key_of line) == 0) && begins_with_colon (behind_key line)

-- what stands behind the colon
abbrev pub behind_colon : List ℕ → List ℕ
behind_colon line = drop 1 (behind_key line)

abbrev pub is_entry_of : (key : List ℕ) → Section → Bool
is_entry_of key section = is_entry section.head.bytes && bytes_eq (key_of section.head.bytes) key
