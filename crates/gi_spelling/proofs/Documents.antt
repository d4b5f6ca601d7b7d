-- The lines of the entries of a printed document, and of one with other gaps behind its colons, as they stand one by one.
use Rattle.std.proofs.Common.{◌≡◌, ℕ, zero, suc, Bool, true, false, List, [], ◌∷◌, ◌++◌, Option, Some, None, sym, refl, ap, ◌∙◌, subst, arith}
use Rattle.std.specs.Prelude.{◌==◌, ◌&&◌, not, replicate, if◌then◌else◌, codes}
use Rattle.std.specs.List.{list_all}
use Rattle.std.proofs.lemmas.Bool.{and_parts, or_from, false≢true}
use Rattle.std.proofs.lemmas.Bool.Decides.{nat_tests}
use Rattle.std.proofs.lemmas.List.{append-nil}
use Rattle.gi_llt.specs.Tokens.{Lexeme, is_blank, is_word_byte, past_run}
use Rattle.gi_llt.proofs.Pieces.{with_token}
use Rattle.gi_llt.proofs.Apart.{is_no_feed, spaces_no_feed, append_no_feed, words_no_feed}
use Rattle.gi_spelling.specs.Printed.{key_lines}
use Rattle.gi_spelling.specs.Lines.{is_empty_line, is_dropped, without_comment, with_byte, without_last_blanks, line_bytes, value_bytes, is_end, is_block_start, begins_at_column_one}
use Rattle.gi_spelling.proofs.PlainLines.{kept_lines, Section, with_head, sections_of}
use Rattle.gi_spelling.specs.Documents.{is_name}
use Rattle.gi_spelling.proofs.BlockLines.{EachLine, each-append, each-weaker, begins_blank, IsInner}
use Rattle.gi_spelling.proofs.Blocks.{sections_of-append, IsRaw, begins, begins_no_minus, no_block_start, no_end, no_start}

-- a value with no blank around it, no comment and no line feed
pub record IsSolid (value : List ℕ) : Type 0 where
  pub whole : line_bytes value ≡ value
  pub unindented : past_run is_blank value ≡ value
  pub some : (first : ℕ) × (more : List ℕ) × (value ≡ first ∷ more)
  pub no_feed : list_all is_no_feed value ≡ true

-- a key, its colon, some spaces and a value
abbrev pub entry_line : (key : List ℕ) (gap : ℕ) (value : List ℕ) → List ℕ
entry_line key gap value = key ++ (58 ∷ (replicate gap 32 ++ value))

line_bytes-gap : (gap : ℕ) (first : ℕ) (more : List ℕ) → line_bytes (first ∷ more) ≡ first ∷ more
    → line_bytes (replicate gap 32 ++ (first ∷ more)) ≡ replicate gap 32 ++ (first ∷ more)
line_bytes-gap zero first more whole = whole
line_bytes-gap (suc zero) first more whole = ap (with_byte 32) whole
line_bytes-gap (suc (suc gap)) first more whole = ap (with_byte 32) (line_bytes-gap (suc gap) first more whole)

past_run-gap : (gap : ℕ) (value : List ℕ) → past_run is_blank (replicate gap 32 ++ value) ≡ past_run is_blank value
past_run-gap zero value = refl
past_run-gap (suc gap) value = past_run-gap gap value

pub value_bytes-gap : (gap : ℕ) (value : List ℕ) → IsSolid value → value_bytes (replicate gap 32 ++ value) ≡ value
value_bytes-gap gap value solid =
    let (first, more, e) = solid.some in
    let P : List ℕ → Type 0 = λ v. line_bytes v ≡ v → line_bytes (replicate gap 32 ++ v) ≡ replicate gap 32 ++ v in
    let read : line_bytes (replicate gap 32 ++ value) ≡ replicate gap 32 ++ value = subst P (sym e) (line_bytes-gap gap first more) solid.whole in
    ap (past_run is_blank) read ∙ (past_run-gap gap value ∙ solid.unindented)

-- a name is such a value
word_byte_no_comment : (byte : ℕ) → is_word_byte byte ≡ true → (byte == 59) ≡ false
word_byte_no_comment byte word = grind (arith, nat_tests)

word_byte_no_blank : (byte : ℕ) → is_word_byte byte ≡ true → is_blank byte ≡ false
word_byte_no_blank byte word = grind (arith, nat_tests)

words_uncommented : (bytes : List ℕ) → list_all is_word_byte bytes ≡ true → without_comment bytes ≡ bytes
words_uncommented [] all = refl
words_uncommented (byte ∷ bytes) all =
    let parts = and_parts (is_word_byte byte) (list_all is_word_byte bytes) all in
    rw (word_byte_no_comment byte parts.0) (ap (λ more. byte ∷ more) (words_uncommented bytes parts.1))

with_word_byte : (byte : ℕ) (rest : List ℕ) → is_word_byte byte ≡ true → with_byte byte rest ≡ byte ∷ rest
with_word_byte byte [] word = rw (word_byte_no_blank byte word) refl
with_word_byte byte (next ∷ rest) word = refl

words_unblanked : (bytes : List ℕ) → list_all is_word_byte bytes ≡ true → without_last_blanks bytes ≡ bytes
words_unblanked [] all = refl
words_unblanked (byte ∷ bytes) all =
    let parts = and_parts (is_word_byte byte) (list_all is_word_byte bytes) all in
    ap (with_byte byte) (words_unblanked bytes parts.1) ∙ with_word_byte byte bytes parts.0

pub name_solid : (name : List ℕ) → is_name name ≡ true → IsSolid name
name_solid [] named = absurd (false≢true named)
name_solid (byte ∷ more) named =
    let parts = and_parts (is_word_byte byte) (list_all is_word_byte more) named in
    record {
      whole = ap without_last_blanks (words_uncommented (byte ∷ more) named) ∙ words_unblanked (byte ∷ more) named;
      unindented = rw (word_byte_no_blank byte parts.0) refl;
      some = (byte, more, refl);
      no_feed = words_no_feed (byte ∷ more) named;
    }

pub true_solid : IsSolid (codes "true")
true_solid = record { whole = refl; unindented = refl; some = (_, _, refl); no_feed = refl }

pub bar_solid : IsSolid (codes "|")
bar_solid = record { whole = refl; unindented = refl; some = (_, _, refl); no_feed = refl }

-- the gaps behind the colons, and whether the line `tracksRegLiveness: true` and a last line `...` stand
pub record Layout : Type 0 where
  pub name : ℕ
  pub legal : ℕ
  pub banked : ℕ
  pub chosen : ℕ
  pub body : ℕ
  pub tracks : Bool
  pub closed : Bool

-- the lines before the body
abbrev pub header_lines : Layout → (name : List ℕ) (legal banked chosen : Bool) → List (List ℕ)
header_lines layout name legal banked chosen =
    entry_line (codes "name") layout.name name
    ∷ (key_lines legal (entry_line (codes "legalized") layout.legal (codes "true"))
    ++ (key_lines banked (entry_line (codes "regBankSelected") layout.banked (codes "true"))
    ++ (key_lines chosen (entry_line (codes "selected") layout.chosen (codes "true"))
    ++ key_lines layout.tracks (codes "tracksRegLiveness: true"))))

abbrev pub end_lines : Bool → List (List ℕ)
end_lines closed = if closed then codes "..." ∷ [] else []

abbrev pub body_line : Layout → List ℕ
body_line layout = entry_line (codes "body") layout.body (codes "|")

-- a line of an entry counts, stands at column 1, ends nothing and begins nothing
pub record IsOuter (line : List ℕ) : Type 0 where
  pub at_column_one : begins_at_column_one line ≡ true
  pub kept : is_dropped line ≡ false
  pub no_end : is_end line ≡ false
  pub raw : IsRaw line

empty_after : (token : Lexeme) (tokens : Option (List Lexeme)) → is_empty_line (with_token token tokens) ≡ false
empty_after token None = refl
empty_after token (Some tokens) = refl

blank_no_dot : (byte : ℕ) → is_blank byte ≡ true → (byte == 46) ≡ false
blank_no_dot byte blank = grind (arith, nat_tests)

begins_no_dot : (line : List ℕ) → begins_blank line ≡ true → begins line 46 ≡ false
begins_no_dot [] blank = refl
begins_no_dot (byte ∷ rest) blank = blank_no_dot byte blank

value_no_feed : (gap : ℕ) (value : List ℕ) → IsSolid value → list_all is_no_feed (replicate gap 32 ++ value) ≡ true
value_no_feed gap value solid = append_no_feed (replicate gap 32) value (spaces_no_feed gap) solid.no_feed

name_outer : (gap : ℕ) (value : List ℕ) → IsSolid value → IsOuter (entry_line (codes "name") gap value)
name_outer gap value solid = record {
  at_column_one = refl;
  kept = empty_after _ _;
  no_end = no_end (entry_line (codes "name") gap value) refl;
  raw = record { no_start = no_start (entry_line (codes "name") gap value) refl; no_feed = value_no_feed gap value solid };
}

legal_outer : (gap : ℕ) (value : List ℕ) → IsSolid value → IsOuter (entry_line (codes "legalized") gap value)
legal_outer gap value solid = record {
  at_column_one = refl;
  kept = empty_after _ _;
  no_end = no_end (entry_line (codes "legalized") gap value) refl;
  raw = record { no_start = no_start (entry_line (codes "legalized") gap value) refl; no_feed = value_no_feed gap value solid };
}

banked_outer : (gap : ℕ) (value : List ℕ) → IsSolid value → IsOuter (entry_line (codes "regBankSelected") gap value)
banked_outer gap value solid = record {
  at_column_one = refl;
  kept = empty_after _ _;
  no_end = no_end (entry_line (codes "regBankSelected") gap value) refl;
  raw = record { no_start = no_start (entry_line (codes "regBankSelected") gap value) refl; no_feed = value_no_feed gap value solid };
}

chosen_outer : (gap : ℕ) (value : List ℕ) → IsSolid value → IsOuter (entry_line (codes "selected") gap value)
chosen_outer gap value solid = record {
  at_column_one = refl;
  kept = empty_after _ _;
  no_end = no_end (entry_line (codes "selected") gap value) refl;
  raw = record { no_start = no_start (entry_line (codes "selected") gap value) refl; no_feed = value_no_feed gap value solid };
}

pub body_outer : (gap : ℕ) (value : List ℕ) → IsSolid value → IsOuter (entry_line (codes "body") gap value)
body_outer gap value solid = record {
  at_column_one = refl;
  kept = empty_after _ _;
  no_end = no_end (entry_line (codes "body") gap value) refl;
  raw = record { no_start = no_start (entry_line (codes "body") gap value) refl; no_feed = value_no_feed gap value solid };
}

tracks_outer : IsOuter (codes "tracksRegLiveness: true")
tracks_outer = record { at_column_one = refl; kept = refl; no_end = refl; raw = record { no_start = refl; no_feed = refl } }

key_outer : (key : Bool) (line : List ℕ) → IsOuter line → EachLine IsOuter (key_lines key line)
key_outer true line outer = (outer, tt)
key_outer false line outer = tt

pub header_outer : (layout : Layout) (name : List ℕ) (legal banked chosen : Bool) → IsSolid name → EachLine IsOuter (header_lines layout name legal banked chosen)
header_outer layout name legal banked chosen solid =
    let tracks = key_lines layout.tracks (codes "tracksRegLiveness: true") in
    let chosen_lines = key_lines chosen (entry_line (codes "selected") layout.chosen (codes "true")) in
    let banked_lines = key_lines banked (entry_line (codes "regBankSelected") layout.banked (codes "true")) in
    let legal_lines = key_lines legal (entry_line (codes "legalized") layout.legal (codes "true")) in (
      name_outer layout.name name solid,
      each-append IsOuter legal_lines (banked_lines ++ (chosen_lines ++ tracks)) (key_outer legal _ (legal_outer layout.legal (codes "true") true_solid))
          (each-append IsOuter banked_lines (chosen_lines ++ tracks) (key_outer banked _ (banked_outer layout.banked (codes "true") true_solid))
          (each-append IsOuter chosen_lines tracks (key_outer chosen _ (chosen_outer layout.chosen (codes "true") true_solid))
          (key_outer layout.tracks _ tracks_outer))),
    )

-- such lines are kept, and each begins an entry with nothing under it
pub kept_outer : (lines : List (List ℕ)) → EachLine IsOuter lines → kept_lines lines ≡ lines
kept_outer [] each = refl
kept_outer (line ∷ lines) each = rw (each.0.kept) (ap (λ more. line ∷ more) (kept_outer lines each.1))

abbrev pub bare : List (List ℕ) → List Section
bare [] = []
bare (line ∷ lines) = record { head = line; under = [] } ∷ bare lines

pub bare_sections : (xs ys : List (List ℕ)) (sections : List Section) → EachLine IsOuter xs → sections_of begins_at_column_one ys ≡ record { before = []; sections = sections }
    → sections_of begins_at_column_one (xs ++ ys) ≡ record { before = []; sections = bare xs ++ sections }
bare_sections [] ys sections each e = e
bare_sections (line ∷ xs) ys sections each e = rw (each.0.at_column_one) (ap (with_head line) (bare_sections xs ys sections each.1 e))

pub blank_at_no_column : (line : List ℕ) → IsInner line → begins_at_column_one line ≡ false
blank_at_no_column line inner = go line inner.indented
  where
    go : (line : List ℕ) → begins_blank line ≡ true → begins_at_column_one line ≡ false
    go [] blank = refl
    go (byte ∷ rest) blank =
        or_from (not (is_blank byte) && not (byte == 45)) (is_block_start (byte ∷ rest)) (ap (λ is. not is && not (byte == 45)) blank)
        (no_block_start (byte ∷ rest) (begins_no_minus (byte ∷ rest) blank))

pub body_sections : (line : List ℕ) (lines : List (List ℕ)) → begins_at_column_one line ≡ true → EachLine IsInner lines
    → sections_of begins_at_column_one (line ∷ lines) ≡ record { before = []; sections = record { head = line; under = lines } ∷ [] }
body_sections line lines first each =
    let Goal : List (List ℕ) → Type 0 = λ under. sections_of begins_at_column_one under ≡ record { before = lines; sections = [] } in
    let appended : Goal (lines ++ []) =
    sections_of-append begins_at_column_one lines [] (each-weaker IsInner (λ l. begins_at_column_one l ≡ false) blank_at_no_column lines each)
    ∙ ap (λ before. record { before = before; sections = [] }) (append-nil lines) in
    let under : Goal lines = subst Goal (append-nil lines) appended in
    rw first (ap (with_head line) under)

pub outer_no_end : (line : List ℕ) → IsOuter line → is_end line ≡ false
outer_no_end line outer = outer.no_end

pub inner_no_end : (line : List ℕ) → IsInner line → is_end line ≡ false
inner_no_end line inner = no_end line (begins_no_dot line inner.indented)

pub each_unended : (lines : List (List ℕ)) → EachLine (λ line. is_end line ≡ false) lines → list_all (λ line. not (is_end line)) lines ≡ true
each_unended [] each = refl
each_unended (line ∷ lines) each = rw (each.0) (each_unended lines each.1)
