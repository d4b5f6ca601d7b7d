-- What the tokens of a printer are made of: digits, names, and what stands before and after them.
use Rattle.std.proofs.Common.{◌≡◌, ℕ, zero, suc, ◌<◌, ◌/◌, ◌%◌, Bool, true, false, List, [], ◌∷◌, ◌++◌, sym, refl, ap, subst, inl, inr, arith}
use Rattle.std.specs.Prelude.{◌⊎◌, ◌||◌, ◌&&◌, not, ◌==◌, replicate, decimal, ℤ, pos, negsuc, codes}
use Rattle.std.specs.Fmt.{digits, digits_onto, digit_glyph, signed_decimal}
use Rattle.std.specs.List.{list_all}
use Rattle.std.specs.Cmp.Derive.{both_true}
use Rattle.std.proofs.lemmas.Bool.{and_parts, or_cases, cond_both, not-true, false≢true, eqb-true}
use Rattle.std.proofs.lemmas.Bool.Decides.{nat_tests}
use Rattle.std.proofs.lemmas.List.Folds.{list_all-append}
use Rattle.gi_llt.specs.Tokens.{LexemeKind, Word, Number, Register, Physical, Global, Routine, Quoted, Metadata, Mark, is_digit, is_word_start, is_word_byte, Piece, Token, Spaces, piece_bytes, is_formed, is_ended, IsApart}
use Rattle.gi_llt.proofs.Pieces.{is_stopped, digit_word_byte, all_word_bytes, no_word_no_digit, one_of}

-- one or more digits
abbrev pub is_digits : List ℕ → Bool
is_digits [] = false
is_digits (digit ∷ digits) = is_digit digit && list_all is_digit digits

digit_at : (n : ℕ) → n < 10 → is_digit (digit_glyph false n) ≡ true
digit_at n small = grind (arith, nat_tests)

glyph_digit : (n : ℕ) → is_digit (digit_glyph false (n % 10)) ≡ true
glyph_digit n = digit_at (n % 10) (omega arith)

digits_all : (digits : List ℕ) → is_digits digits ≡ true → list_all is_digit digits ≡ true
digits_all [] some = refl
digits_all (digit ∷ digits) some = some

onto_digits : (fuel n : ℕ) (after : List ℕ) → is_digits after ≡ true → is_digits (digits_onto fuel 10 false n after) ≡ true
onto_digits zero n after some = some
onto_digits (suc fuel) n after some =
    let more : is_digits (digit_glyph false (n % 10) ∷ after) ≡ true = both_true (glyph_digit n) (digits_all after some) in
    cond_both (n / 10 == 0) (digit_glyph false (n % 10) ∷ after) (digits_onto fuel 10 false (n / 10) (digit_glyph false (n % 10) ∷ after))
    (λ ds. is_digits ds ≡ true) (λ last. more) (λ further. onto_digits fuel (n / 10) (digit_glyph false (n % 10) ∷ after) more)

-- a printed number is one or more digits
pub decimal_digits : (n : ℕ) → is_digits (decimal n) ≡ true
unfolding digits
decimal_digits n =
    let first : is_digits (digit_glyph false (n % 10) ∷ []) ≡ true = both_true (glyph_digit n) refl in
    cond_both (n / 10 == 0) (digit_glyph false (n % 10) ∷ []) (digits_onto 63 10 false (n / 10) (digit_glyph false (n % 10) ∷ []))
    (λ ds. is_digits ds ≡ true) (λ last. first) (λ further. onto_digits 63 (n / 10) (digit_glyph false (n % 10) ∷ []) first)

-- digits as a number, with a sign or without, and behind a mark or letters
number_formed : (digits : List ℕ) → is_digits digits ≡ true → is_formed Number digits ≡ true
number_formed [] some = some
number_formed (digit ∷ []) some = (and_parts (is_digit digit) true some).0
number_formed (digit ∷ next ∷ more) some =
    let outer = and_parts (is_digit digit) (is_digit next && list_all is_digit more) some in
    let inner = and_parts (is_digit next) (list_all is_digit more) outer.1 in
    rw (outer.0, inner.0, inner.1) refl

negative_formed : (digits : List ℕ) → is_digits digits ≡ true → is_formed Number (45 ∷ digits) ≡ true
negative_formed [] some = absurd (false≢true some)
negative_formed (digit ∷ more) some = some

pub all_words : (digits : List ℕ) → is_digits digits ≡ true → list_all is_word_byte digits ≡ true
all_words digits some = all_word_bytes digits (digits_all digits some)

pub decimal_words : (n : ℕ) → list_all is_word_byte (decimal n) ≡ true
decimal_words n = all_words (decimal n) (decimal_digits n)

pub decimal_number : (n : ℕ) → is_formed Number (decimal n) ≡ true
decimal_number n = number_formed (decimal n) (decimal_digits n)

pub signed_decimal_number : (z : ℤ) → is_formed Number (signed_decimal z) ≡ true
signed_decimal_number (pos n) = decimal_number n
signed_decimal_number (negsuc n) = negative_formed (decimal (suc n)) (decimal_digits (suc n))

register_formed : (digits : List ℕ) → is_digits digits ≡ true → is_formed Register (37 ∷ digits) ≡ true
register_formed [] some = absurd (false≢true some)
register_formed (digit ∷ more) some = all_words (digit ∷ more) some

pub decimal_register : (n : ℕ) → is_formed Register (37 ∷ decimal n) ≡ true
decimal_register n = register_formed (decimal n) (decimal_digits n)

-- what begins with no word byte makes no token longer
pub ended_from_stopped : (kind : LexemeKind) (rest : List ℕ) → is_stopped is_word_byte rest ≡ true → is_ended kind rest ≡ true
ended_from_stopped kind [] stopped = refl
ended_from_stopped Mark (byte ∷ rest) stopped = ap not (no_word_no_digit byte (not-true (is_word_byte byte) stopped))
ended_from_stopped Quoted (byte ∷ rest) stopped = refl
ended_from_stopped _ (byte ∷ rest) stopped = stopped

-- what is written in pieces that stand apart has no line feed
abbrev pub is_no_feed : ℕ → Bool
is_no_feed byte = not (byte == 10)

word_no_feed : (byte : ℕ) → is_word_byte byte ≡ true → is_no_feed byte ≡ true
word_no_feed byte word = grind (arith, nat_tests)

start_no_feed : (byte : ℕ) → is_word_start byte ≡ true → is_no_feed byte ≡ true
start_no_feed byte start = grind (arith, nat_tests)

digit_no_feed : (byte : ℕ) → is_digit byte ≡ true → is_no_feed byte ≡ true
digit_no_feed byte digit = word_no_feed byte (digit_word_byte byte digit)

pub words_no_feed : (bytes : List ℕ) → list_all is_word_byte bytes ≡ true → list_all is_no_feed bytes ≡ true
words_no_feed [] all = refl
words_no_feed (byte ∷ bytes) all =
    let parts = and_parts (is_word_byte byte) (list_all is_word_byte bytes) all in
    both_true (word_no_feed byte parts.0) (words_no_feed bytes parts.1)

digits_no_feed : (bytes : List ℕ) → list_all is_digit bytes ≡ true → list_all is_no_feed bytes ≡ true
digits_no_feed bytes all = words_no_feed bytes (all_word_bytes bytes all)

same_no_feed : (byte sign : ℕ) → (byte == sign) ≡ true → is_no_feed sign ≡ true → is_no_feed byte ≡ true
same_no_feed byte sign same fine = let P : ℕ → Type 0 = λ b. is_no_feed b ≡ true in subst P (sym (eqb-true byte sign same)) fine

name_no_feed : (sign byte next : ℕ) (more : List ℕ) → is_no_feed sign ≡ true → (byte == sign && is_word_byte next && list_all is_word_byte more) ≡ true
    → list_all is_no_feed (byte ∷ next ∷ more) ≡ true
name_no_feed sign byte next more fine formed =
    let outer = and_parts (byte == sign && is_word_byte next) (list_all is_word_byte more) formed in
    let inner = and_parts (byte == sign) (is_word_byte next) outer.0 in
    both_true (same_no_feed byte sign inner.0 fine) (both_true (word_no_feed next inner.1) (words_no_feed more outer.1))

formed_no_feed : (kind : LexemeKind) (bytes : List ℕ) → is_formed kind bytes ≡ true → list_all is_no_feed bytes ≡ true
formed_no_feed kind [] formed = refl
formed_no_feed Word (byte ∷ more) formed =
    let parts = and_parts (is_word_start byte) (list_all is_word_byte more) formed in
    both_true (start_no_feed byte parts.0) (words_no_feed more parts.1)
formed_no_feed Number (byte ∷ []) formed = both_true (digit_no_feed byte formed) refl
formed_no_feed Number (byte ∷ digit ∷ more) formed =
    let outer = and_parts ((is_digit byte || byte == 45) && is_digit digit) (list_all is_digit more) formed in
    let inner = and_parts (is_digit byte || byte == 45) (is_digit digit) outer.0 in
    both_true (first (or_cases (is_digit byte) (byte == 45) inner.0)) (both_true (digit_no_feed digit inner.1) (digits_no_feed more outer.1))
  where
    first : (is_digit byte ≡ true) ⊎ ((byte == 45) ≡ true) → is_no_feed byte ≡ true
    first (inl plain) = digit_no_feed byte plain
    first (inr minus) = same_no_feed byte 45 minus refl
formed_no_feed Register (byte ∷ []) formed = absurd (false≢true formed)
formed_no_feed Register (byte ∷ next ∷ more) formed = name_no_feed 37 byte next more refl formed
formed_no_feed Physical (byte ∷ []) formed = absurd (false≢true formed)
formed_no_feed Physical (byte ∷ next ∷ more) formed = name_no_feed 36 byte next more refl formed
formed_no_feed Global (byte ∷ []) formed = absurd (false≢true formed)
formed_no_feed Global (byte ∷ next ∷ more) formed = name_no_feed 64 byte next more refl formed
formed_no_feed Routine (byte ∷ []) formed = absurd (false≢true formed)
formed_no_feed Routine (byte ∷ next ∷ more) formed = name_no_feed 38 byte next more refl formed
formed_no_feed Quoted (byte ∷ more) formed = absurd (false≢true formed)
formed_no_feed Metadata (byte ∷ more) formed =
    let parts = and_parts (byte == 33) (list_all is_word_byte more) formed in
    both_true (same_no_feed byte 33 parts.0 refl) (words_no_feed more parts.1)
formed_no_feed Mark (byte ∷ []) formed =
    let P : ℕ → Type 0 = λ b. is_no_feed b ≡ true in
    both_true (one_of P byte (codes "()[]{}<>,=:*+-#.|")
    (refl, (refl, (refl, (refl, (refl, (refl, (refl, (refl, (refl, (refl, (refl, (refl, (refl, (refl, (refl, (refl, (refl, tt)))))))))))))))))
    formed) refl
formed_no_feed Mark (byte ∷ next ∷ more) formed = absurd (false≢true formed)

pub spaces_no_feed : (count : ℕ) → list_all is_no_feed (replicate count 32) ≡ true
spaces_no_feed zero = refl
spaces_no_feed (suc count) = spaces_no_feed count

pub append_no_feed : (xs ys : List ℕ) → list_all is_no_feed xs ≡ true → list_all is_no_feed ys ≡ true → list_all is_no_feed (xs ++ ys) ≡ true
append_no_feed xs ys first second = rw (list_all-append is_no_feed xs ys) (both_true first second)

pub pieces_no_feed : (pieces : List Piece) → IsApart pieces → list_all is_no_feed (piece_bytes pieces) ≡ true
pieces_no_feed [] apart = refl
pieces_no_feed (Token token ∷ pieces) apart =
    append_no_feed token.bytes (piece_bytes pieces) (formed_no_feed token.kind token.bytes apart.0) (pieces_no_feed pieces apart.2)
pieces_no_feed (Spaces count ∷ pieces) apart =
    append_no_feed (replicate count 32) (piece_bytes pieces) (spaces_no_feed count) (pieces_no_feed pieces apart)
