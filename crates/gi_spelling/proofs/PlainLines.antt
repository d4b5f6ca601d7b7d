-- Lines by their bytes alone, and how they stand in sections: what the proofs of printed and of stated texts look at.
use Rattle.std.specs.Prelude.{ℕ, Bool, true, false, not, ◌&&◌, ◌||◌, List, [], ◌∷◌, Option, Some, filter, bytes_eq, nat_eq, if◌then◌else◌, codes}
use Rattle.std.specs.List.{starts_with}
use Rattle.gi_llt.specs.Tokens.{LexemeKind, Word, Lexeme, tokens_of}
use Rattle.gi_spelling.specs.Lines.{is_dropped}

-- the lines that count
abbrev pub kept_lines : List (List ℕ) → List (List ℕ)
kept_lines lines = filter (λ line. not (is_dropped line)) lines

-- a head begins a section, and the lines up to the next head stand under it
pub record Section : Type 0 where
  pub head : List ℕ
  pub under : List (List ℕ)

pub record Sections : Type 0 where
  pub before : List (List ℕ)
  pub sections : List Section

abbrev pub with_head : List ℕ → Sections → Sections
with_head line rest = record { before = []; sections = record { head = line; under = rest.before } ∷ rest.sections }

abbrev pub with_line : List ℕ → Sections → Sections
with_line line rest = record { before = line ∷ rest.before; sections = rest.sections }

abbrev pub sections_of : (is_head : List ℕ → Bool) → List (List ℕ) → Sections
sections_of is_head [] = record { before = []; sections = [] }
sections_of is_head (line ∷ lines) = if is_head line then with_head line (sections_of is_head lines) else with_line line (sections_of is_head lines)

-- the tokens of a line
abbrev pub line_items : List ℕ → Option (List Lexeme)
line_items line = tokens_of line

-- a block begins with a word `bb.` and more
abbrev pub is_word_kind : LexemeKind → Bool
is_word_kind Word = true
is_word_kind _ = false

abbrev pub begins_block : Option (List Lexeme) → Bool
begins_block (Some (first ∷ more)) = is_word_kind first.kind && starts_with nat_eq first.bytes (codes "bb.")
begins_block _ = false

abbrev pub is_block_head : List ℕ → Bool
is_block_head line = begins_block (line_items line)

-- the lines `successors: ..` and `liveins: ..`
abbrev pub begins_list : (key : List ℕ) → Option (List Lexeme) → Bool
begins_list key (Some (first ∷ second ∷ more)) = bytes_eq first.bytes key && bytes_eq second.bytes (58 ∷ [])
begins_list key _ = false

abbrev pub lists : (key : List ℕ) → List ℕ → Bool
lists key line = begins_list key (line_items line)

abbrev pub is_list_line : List ℕ → Bool
is_list_line line = lists (codes "successors") line || lists (codes "liveins") line
