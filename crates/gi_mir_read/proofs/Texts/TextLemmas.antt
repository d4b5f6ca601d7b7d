-- Lines as texts.
use Rattle.std.proofs.Common.{◌≡◌, ℕ, Bool, true, false, cond, List, [], ◌∷◌, Some, None, refl, ap}
use Rattle.std.specs.Prelude.{not, filter, fold, map, nat_lt}
use Rattle.std.specs.Str.{IsUtf8, is_utf8}
use Rattle.std.proofs.lemmas.Str.{IsUtf8-from_is_utf8, is_utf8-from_IsUtf8}
use Rattle.gi_spelling.specs.declared.written.Wrong.{Wrong}
use Rattle.gi_spelling.specs.Documents.{is_no_text, line_wrongs, lower}
use Rattle.gi_spelling.specs.Lines.{Line}
use Rattle.gi_spelling.specs.Read.{bytes_of_line}
use Rattle.gi_mir_read.specs.Texts.LineTexts.{text_of, texts_of}

pub text_is : (bytes owned : List ℕ) → owned ≡ bytes → IsUtf8 bytes → Some owned ≡ text_of bytes
text_is bytes owned same is = rw (is_utf8-from_IsUtf8 bytes is) (ap Some same)

pub no_text_is : (bytes : List ℕ) → (IsUtf8 bytes → ⊥) → None ≡ text_of bytes
no_text_is bytes none = chosen (is_utf8 bytes) refl
  where
    chosen : (test : Bool) → is_utf8 bytes ≡ test → None ≡ cond test (Some bytes) None
    chosen true is = absurd (none (IsUtf8-from_is_utf8 bytes is))
    chosen false is = refl

-- each line is a text where none is noted
pub all_texts : (lines : List Line) → filter is_no_text lines ≡ [] → texts_of lines ≡ map bytes_of_line lines
all_texts [] none = refl
all_texts (line ∷ lines) none = chosen (is_utf8 line.bytes) refl none (all_texts lines)
  where
    chosen : (test : Bool) → is_utf8 line.bytes ≡ test → cond (not test) (line ∷ filter is_no_text lines) (filter is_no_text lines) ≡ []
        → (filter is_no_text lines ≡ [] → texts_of lines ≡ map bytes_of_line lines) → texts_of (line ∷ lines) ≡ line.bytes ∷ map bytes_of_line lines
    chosen true is none more = rw is (ap (λ ts. line.bytes ∷ ts) (more none))
    chosen false is none more = cc

-- nothing is noted where nothing is wrong
some_stays : (first : Wrong) (wrongs : List Wrong) → fold lower (Some first) wrongs ≡ None → ⊥
some_stays first [] none = cc
some_stays first (next ∷ wrongs) none = chosen (nat_lt next.line first.line) none (some_stays next wrongs) (some_stays first wrongs)
  where
    chosen : (test : Bool) → fold lower (cond test (Some next) (Some first)) wrongs ≡ None → (fold lower (Some next) wrongs ≡ None → ⊥) → (fold lower (Some first) wrongs ≡ None → ⊥) → ⊥
    chosen true none next_stays first_stays = next_stays none
    chosen false none next_stays first_stays = first_stays none

pub nothing_noted : (wrongs : List Wrong) → fold lower None wrongs ≡ None → wrongs ≡ []
nothing_noted [] none = refl
nothing_noted (first ∷ wrongs) none = absurd (some_stays first wrongs none)

no_line_wrong : (lines : List Line) → line_wrongs lines ≡ [] → lines ≡ []
no_line_wrong [] none = refl
no_line_wrong (line ∷ lines) none = cc

pub all_lines_texts : (lines : List Line) → fold lower None (line_wrongs (filter is_no_text lines)) ≡ None → texts_of lines ≡ map bytes_of_line lines
all_lines_texts lines none = all_texts lines (no_line_wrong (filter is_no_text lines) (nothing_noted (line_wrongs (filter is_no_text lines)) none))
