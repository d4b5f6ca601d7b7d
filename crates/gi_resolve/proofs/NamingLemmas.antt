-- The word at the front, and the number that a name gets.
use Rattle.std.proofs.Common.{◌≡◌, ℕ, ◌<◌, Bool, true, false, List, [], ◌∷◌, ◌++◌, length, get_or, take, Option, Some, None, Result, Ok, Err, refl, sym, ap, subst, ◌∙◌, arith}
use Rattle.std.specs.Prelude.{IfOk, OnOk, is_some, unwrap_or, bytes_eq, if◌then◌else◌}
use Rattle.std.proofs.lemmas.List.{length-append}
use Rattle.std.proofs.lemmas.List.Quantifiers.{position-Some}
use Rattle.std.proofs.Math.Seq.{get_or-append_seam}
use Rattle.std.specs.Str.{IsAscii, IsUtf8, is_utf8}
use Rattle.std.proofs.lemmas.Str.{IsUtf8-from_ascii}
use Rattle.std.proofs.lemmas.Str.Ascii.{IsAscii-nil, IsAscii-cons}
use Rattle.std.proofs.lemmas.Slice.Eq.{bytes_eq-Decides}
use Rattle.std.proofs.lemmas.Bool.Decides.{nat_tests}
use Rattle.gi_llt.specs.declared.Memory.{Memory}
use Rattle.gi_llt.specs.Tokens.{is_word_byte, run_of}
use Rattle.gi_mir.specs.Names.{number_of, with_name}
use Rattle.gi_spelling.specs.Named.{Extends}
use Rattle.gi_spelling.proofs.NamedLemmas.{name_kept}
use Rattle.gi_resolve.specs.Meant.{IsNumberOf}

pub take-run : (test : ℕ → Bool) (xs : List ℕ) → take (length (run_of test xs)) xs ≡ run_of test xs
take-run test [] = refl
take-run test (x ∷ xs) = chosen (test x) (take-run test xs)
  where
    chosen : (passes : Bool) → take (length (run_of test xs)) xs ≡ run_of test xs
        → take (length (if passes then x ∷ run_of test xs else [])) (x ∷ xs) ≡ (if passes then x ∷ run_of test xs else [])
    chosen true later = ap (λ ys. x ∷ ys) later
    chosen false later = refl

pub name-number : (names : List (List ℕ)) (name : List ℕ) → IsNumberOf (with_name names name) name (unwrap_or (number_of names name) (length names))
name-number names name = chosen (number_of names name) refl
  where
    chosen : (found : Option ℕ) → number_of names name ≡ found → IsNumberOf (if is_some found then names else names ++ name ∷ []) name (unwrap_or found (length names))
    chosen (Some place) is =
        let at = position-Some (bytes_eq name) names place [] is in
        record { within = at.0; named = sym ((bytes_eq-Decides name (get_or names place [])).0 at.1) }
    chosen None is = record {
      within = omega (arith, length-append names (name ∷ []));
      named = get_or-append_seam names name [] [];
    }

word_byte-ascii : (byte : ℕ) → is_word_byte byte ≡ true → byte < 128
word_byte-ascii byte is = grind (arith, nat_tests)

ascii_more : (byte : ℕ) (bytes : List ℕ) → IsAscii (run_of is_word_byte bytes) → (test : Bool) → is_word_byte byte ≡ test
    → IsAscii (if test then byte ∷ run_of is_word_byte bytes else [])
ascii_more byte bytes later true is = IsAscii-cons byte (run_of is_word_byte bytes) (word_byte-ascii byte is) later
ascii_more byte bytes later false is = IsAscii-nil

ascii : (bytes : List ℕ) → IsAscii (run_of is_word_byte bytes)
ascii [] = IsAscii-nil
ascii (byte ∷ bytes) = ascii_more byte bytes (ascii bytes) (is_word_byte byte) refl

pub word-utf8 : (bytes : List ℕ) → IsUtf8 (run_of is_word_byte bytes)
word-utf8 bytes = IsUtf8-from_ascii (run_of is_word_byte bytes) (ascii bytes)

pub number-named : (names new : List (List ℕ)) (name bytes : List ℕ) (result : Result ℕ Memory) → name ≡ bytes → OnOk result (new ≡ with_name names name)
    → IfOk result (λ number. number ≡ unwrap_or (number_of names name) (length names)) → IfOk result (λ number. is_utf8 bytes ≡ true → IsNumberOf new bytes number)
number-named names new name bytes (Err memory) same grown is = tt
number-named names new name bytes (Ok number) same grown is = λ text. rw (grown, is) (subst (λ those. IsNumberOf (with_name names name) those (unwrap_or (number_of names name) (length names))) same (name-number names name))

-- a number stays where names grow
pub number-kept : (old new : List (List ℕ)) (name : List ℕ) (number : ℕ) → Extends old new → IsNumberOf old name number → IsNumberOf new name number
number-kept old new name number grows is = record {
  within = rw grows.grown (omega (arith, length-append old grows.more, is.within));
  named = rw grows.grown (name_kept old grows.more number is.within ∙ is.named);
}
