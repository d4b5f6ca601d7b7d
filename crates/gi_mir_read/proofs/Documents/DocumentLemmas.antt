-- What is wrong in a document, part by part.
use Rattle.std.proofs.Common.{◌≡◌, ℕ, zero, suc, arith, Bool, true, false, cond, List, [], ◌∷◌, ◌++◌, refl, sym, ap, ◌∙◌}
use Rattle.std.specs.Prelude.{◌&&◌, ◌||◌, ◌<◌, not, Option, Some, None, bytes_eq, codes, find, fold, nat_lt}
use Rattle.std.specs.List.{list_all}
use Rattle.std.specs.Option.{option_map_or}
use Rattle.std.specs.Str.{IsAscii, is_utf8}
use Rattle.std.proofs.lemmas.Bool.Decides.{nat_tests}
use Rattle.std.proofs.lemmas.Grind.{fold-append}
use Rattle.std.proofs.lemmas.Slice.Eq.{bytes_eq-Decides}
use Rattle.std.proofs.lemmas.Str.Ascii.{IsAscii-nil}
use Rattle.std.proofs.lemmas.Str.{IsUtf8-from_ascii, IsUtf8-nil, is_utf8-from_IsUtf8}
use Rattle.gi_llt.specs.Tokens.{is_word_byte}
use Rattle.gi_spelling.specs.Blocks.{wrong}
use Rattle.gi_spelling.specs.declared.written.Fault.TheVariants as fault
use Rattle.gi_spelling.specs.declared.written.Wrong.{Wrong}
use Rattle.gi_spelling.specs.Documents.{entries_wrongs, entry_wrongs, is_again, is_name, key_spelled, keyed_wrongs, lower, name_value, under_wrongs}
use Rattle.gi_spelling.specs.Lines as lines
use Rattle.gi_spelling.specs.Lines.{is_entry, is_entry_of, key_of}

abbrev noted_on : Option Wrong → List Wrong → Option Wrong
noted_on found wrongs = fold lower found wrongs

pub all_parts : (w0 w1 w2 w3 w4 w5 : Option Wrong) (a b c d e : List Wrong) → w1 ≡ fold lower w0 a → w2 ≡ fold lower w1 b → w3 ≡ fold lower w2 c → w4 ≡ fold lower w3 d → w5 ≡ fold lower w4 e
    → w5 ≡ fold lower w0 (a ++ (b ++ (c ++ (d ++ e))))
all_parts w0 w1 w2 w3 w4 w5 a b c d e first second third fourth fifth =
    fifth ∙ ap (λ w. noted_on w e) fourth ∙ sym (fold-append lower w3 d e)
    ∙ ap (λ w. noted_on w (d ++ e)) third ∙ sym (fold-append lower w2 c (d ++ e))
    ∙ ap (λ w. noted_on w (c ++ (d ++ e))) second ∙ sym (fold-append lower w1 b (c ++ (d ++ e)))
    ∙ ap (λ w. noted_on w (b ++ (c ++ (d ++ e)))) first ∙ sym (fold-append lower w0 a (b ++ (c ++ (d ++ e))))

-- what is none in the end was none all along
pub was_none : (found : Option Wrong) (wrongs : List Wrong) → fold lower found wrongs ≡ None → found ≡ None
was_none found [] none = none
was_none found (next ∷ wrongs) none = chosen found (was_none (lower found next) wrongs none)
  where
    chosen : (f : Option Wrong) → lower f next ≡ None → f ≡ None
    chosen None is = refl
    chosen (Some first) is = by_test (nat_lt next.line first.line) is
      where
        by_test : (test : Bool) → cond test (Some next) (Some first) ≡ None → Some first ≡ None
        by_test true is = cc
        by_test false is = cc

-- ══ A name without a fault is text ══

word_byte_is_small : (byte : ℕ) → is_word_byte byte ≡ true → byte < 128
word_byte_is_small byte is = grind (arith, nat_tests)

both_first : (a b : Bool) → (a && b) ≡ true → a ≡ true
both_first true b is = refl
both_first false b is = cc

both_second : (a b : Bool) → (a && b) ≡ true → b ≡ true
both_second true b is = is
both_second false b is = cc

all_small : (bytes : List ℕ) → list_all is_word_byte bytes ≡ true → IsAscii bytes
all_small [] is i = IsAscii-nil i
all_small (byte ∷ more) is zero = word_byte_is_small byte (both_first (is_word_byte byte) (list_all is_word_byte more) is)
all_small (byte ∷ more) is (suc i) = all_small more (both_second (is_word_byte byte) (list_all is_word_byte more) is) i

name_utf8 : (bytes : List ℕ) → is_name bytes ≡ true → is_utf8 bytes ≡ true
name_utf8 [] is = cc
name_utf8 (byte ∷ more) is = is_utf8-from_IsUtf8 (byte ∷ more) (IsUtf8-from_ascii (byte ∷ more) (all_small (byte ∷ more) is))

no_front : {X : Type 0} (xs ys : List X) → xs ++ ys ≡ [] → xs ≡ []
no_front [] ys none = refl
no_front (x ∷ xs) ys none = cc

no_back : {X : Type 0} (xs ys : List X) → xs ++ ys ≡ [] → ys ≡ []
no_back [] ys none = none
no_back (x ∷ xs) ys none = cc

name_right : (text : List ℕ) (earlier : List lines.Section) (section : lines.Section) → is_entry_of (codes "name") section ≡ true → entry_wrongs text earlier section ≡ [] → is_name (name_value section) ≡ true
name_right text earlier section named none = chosen (not (is_entry section.head.bytes) || is_again earlier section) none
  where
    under : (test : Bool) → cond test (under_wrongs section.under) (wrong section.head.number fault.Syntax ∷ []) ≡ [] → test ≡ true
    under true none = refl
    under false none = cc

    same : (entry keyed : Bool) → (entry && keyed) ≡ true → keyed ≡ true
    same true keyed is = is
    same false keyed is = cc

    word : key_of section.head.bytes ≡ codes "name"
    word = (bytes_eq-Decides (key_of section.head.bytes) (codes "name")).0 (same (is_entry section.head.bytes) (bytes_eq (key_of section.head.bytes) (codes "name")) named)

    chosen : (test : Bool) → cond test (wrong section.head.number fault.Syntax ∷ []) (keyed_wrongs text (key_spelled (key_of section.head.bytes)) section) ≡ [] → is_name (name_value section) ≡ true
    chosen true none = cc
    chosen false none = under (is_name (name_value section)) (sym (ap (λ bytes. keyed_wrongs text (key_spelled bytes) section) word) ∙ none)

pub name_is_text : (text : List ℕ) (earlier sections : List lines.Section) → entries_wrongs text earlier sections ≡ []
    → is_utf8 (option_map_or name_value (find (is_entry_of (codes "name")) sections) []) ≡ true
name_is_text text earlier [] none = is_utf8-from_IsUtf8 [] IsUtf8-nil
name_is_text text earlier (section ∷ sections) none =
    chosen (is_entry_of (codes "name") section) refl
    (name_is_text text (earlier ++ section ∷ []) sections (no_back (entry_wrongs text earlier section) (entries_wrongs text (earlier ++ section ∷ []) sections) none))
  where
    chosen : (test : Bool) → is_entry_of (codes "name") section ≡ test → is_utf8 (option_map_or name_value (find (is_entry_of (codes "name")) sections) []) ≡ true
        → is_utf8 (option_map_or name_value (cond test (Some section) (find (is_entry_of (codes "name")) sections)) []) ≡ true
    chosen true is more =
        name_utf8 (name_value section) (name_right text earlier section is (no_front (entry_wrongs text earlier section) (entries_wrongs text (earlier ++ section ∷ []) sections) none))
    chosen false is more = more
