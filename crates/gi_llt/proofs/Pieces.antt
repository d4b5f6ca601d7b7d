-- What is written in pieces that stand apart is read as their tokens.
use Rattle.std.proofs.Common.{◌≡◌, ℕ, zero, suc, Bool, true, false, List, [], ◌∷◌, ◌++◌, length, Option, Some, sym, refl, ap, ◌∙◌, subst, inl, inr, arith}
use Rattle.std.specs.Prelude.{◌||◌, ◌&&◌, not, ◌⊎◌, ◌==◌, replicate, option_map, codes, ⊤}
use Rattle.std.specs.List.{list_any, list_all}
use Rattle.std.specs.Cmp.Derive.{both_true}
use Rattle.std.proofs.lemmas.Bool.{and_parts, or_cases, not-true, false≢true, eqb-true}
use Rattle.std.proofs.lemmas.Bool.Decides.{nat_tests}
use Rattle.gi_llt.specs.Tokens.{LexemeKind, Word, Number, Register, Physical, Global, Routine, Quoted, Metadata, Mark, Lexeme, lexeme, is_digit, is_word_start, is_word_byte, is_mark, OfNumber, OfName, start_of, run_of, past_run, FoundToken, found_some, found_minus, found_number, found, tokens_past, tokens_of, Piece, Token, Spaces, piece_bytes, piece_lexemes, token, is_formed, is_ended, IsApart}

pub and_right_false : (b : Bool) → (b && false) ≡ false
and_right_false true = refl
and_right_false false = refl

-- what begins with nothing that passes a test
abbrev pub is_stopped : {X : Type 0} → (X → Bool) → List X → Bool
is_stopped test [] = true
is_stopped test (first ∷ rest) = not (test first)

-- a run that what follows it stops
pub run_of-append : {X : Type 0} (test : X → Bool) (xs ys : List X) → list_all test xs ≡ true → is_stopped test ys ≡ true → run_of test (xs ++ ys) ≡ xs
run_of-append test [] [] all stopped = refl
run_of-append test [] (y ∷ ys) all stopped = rw (not-true (test y) stopped) refl
run_of-append test (x ∷ xs) ys all stopped =
    let parts = and_parts (test x) (list_all test xs) all in
    rw parts.0 (ap (λ zs. x ∷ zs) (run_of-append test xs ys parts.1 stopped))

pub past_run-append : {X : Type 0} (test : X → Bool) (xs ys : List X) → list_all test xs ≡ true → is_stopped test ys ≡ true → past_run test (xs ++ ys) ≡ ys
past_run-append test [] [] all stopped = refl
past_run-append test [] (y ∷ ys) all stopped = rw (not-true (test y) stopped) refl
past_run-append test (x ∷ xs) ys all stopped =
    let parts = and_parts (test x) (list_all test xs) all in
    rw parts.0 (past_run-append test xs ys parts.1 stopped)

-- bytes that are skipped
pub tokens_past-append : (skipped rest : List ℕ) → tokens_past (skipped ++ rest) (length skipped) ≡ tokens_past rest 0
tokens_past-append [] rest = refl
tokens_past-append (byte ∷ skipped) rest = tokens_past-append skipped rest

-- the tests of bytes
pub digit_no_start : (byte : ℕ) → is_digit byte ≡ true → is_word_start byte ≡ false
digit_no_start byte digit = grind (arith, nat_tests)

pub digit_word_byte : (byte : ℕ) → is_digit byte ≡ true → is_word_byte byte ≡ true
digit_word_byte byte digit = grind (arith, nat_tests)

pub no_word_no_digit : (byte : ℕ) → is_word_byte byte ≡ false → is_digit byte ≡ false
no_word_no_digit byte other = grind (arith, nat_tests)

digit_no_letter : (byte : ℕ) → is_digit byte ≡ true → (byte == 120) ≡ false
digit_no_letter byte digit = grind (arith, nat_tests)

no_word_no_letter : (byte : ℕ) → is_word_byte byte ≡ false → (byte == 120) ≡ false
no_word_no_letter byte other = grind (arith, nat_tests)

pub stopped_digits : (rest : List ℕ) → is_stopped is_word_byte rest ≡ true → is_stopped is_digit rest ≡ true
stopped_digits [] stopped = refl
stopped_digits (byte ∷ rest) stopped = ap not (no_word_no_digit byte (not-true (is_word_byte byte) stopped))

pub all_word_bytes : (digits : List ℕ) → list_all is_digit digits ≡ true → list_all is_word_byte digits ≡ true
all_word_bytes [] all = refl
all_word_bytes (digit ∷ digits) all =
    let parts = and_parts (is_digit digit) (list_all is_digit digits) all in
    both_true (digit_word_byte digit parts.0) (all_word_bytes digits parts.1)

-- what stands at the front, by the first byte
start_of_digit : (byte : ℕ) → is_digit byte ≡ true → start_of byte ≡ OfNumber
start_of_digit byte digit = rw (digit_no_start byte digit, digit) refl

found_word : (byte : ℕ) (more rest : List ℕ) → is_word_start byte ≡ true → list_all is_word_byte more ≡ true → is_stopped is_word_byte rest ≡ true
    → found (start_of byte) byte (more ++ rest) ≡ FoundToken Word more
found_word byte more rest start all stopped = rw start (ap (FoundToken Word) (run_of-append is_word_byte more rest all stopped))

pub found_digit : (byte : ℕ) (rest : List ℕ) → is_stopped is_word_byte rest ≡ true → found_number byte rest ≡ FoundToken Number []
found_digit byte [] stopped = refl
found_digit byte (next ∷ rest) stopped =
    let other : is_word_byte next ≡ false = not-true (is_word_byte next) stopped in
    let no_letter : (byte == 48 && next == 120) ≡ false = rw (no_word_no_letter next other) (and_right_false (byte == 48)) in
    let no_digit : is_digit next ≡ false = no_word_no_digit next other in
    rw (no_letter, no_digit) refl

found_digits : (byte digit : ℕ) (more rest : List ℕ) → is_digit digit ≡ true → list_all is_digit more ≡ true → is_stopped is_word_byte rest ≡ true
    → found_number byte (digit ∷ (more ++ rest)) ≡ FoundToken Number (digit ∷ more)
found_digits byte digit more rest first all stopped =
    let no_letter : (byte == 48 && digit == 120) ≡ false = rw (digit_no_letter digit first) (and_right_false (byte == 48)) in
    let run : run_of is_digit ((digit ∷ more) ++ rest) ≡ digit ∷ more =
    run_of-append is_digit (digit ∷ more) rest (both_true first all) (stopped_digits rest stopped) in
    rw no_letter (ap (FoundToken Number) run)

found_minus_digits : (digit : ℕ) (more rest : List ℕ) → is_digit digit ≡ true → list_all is_digit more ≡ true → is_stopped is_word_byte rest ≡ true
    → found_minus (run_of is_digit (digit ∷ (more ++ rest))) ≡ FoundToken Number (digit ∷ more)
found_minus_digits digit more rest first all stopped =
    ap found_minus (run_of-append is_digit (digit ∷ more) rest (both_true first all) (stopped_digits rest stopped))

found_signed : (byte digit : ℕ) (more rest : List ℕ) → (is_digit byte ≡ true) ⊎ ((byte == 45) ≡ true) → is_digit digit ≡ true → list_all is_digit more ≡ true
    → is_stopped is_word_byte rest ≡ true → found (start_of byte) byte (digit ∷ (more ++ rest)) ≡ FoundToken Number (digit ∷ more)
found_signed byte digit more rest (inl plain) first all stopped = rw (start_of_digit byte plain) (found_digits byte digit more rest first all stopped)
found_signed byte digit more rest (inr minus) first all stopped =
    let P : ℕ → Type 0 = λ b. found (start_of b) b (digit ∷ (more ++ rest)) ≡ FoundToken Number (digit ∷ more) in
    subst P (sym (eqb-true byte 45 minus)) (found_minus_digits digit more rest first all stopped)

-- a name behind its mark
found_name : (kind : LexemeKind) (byte next : ℕ) (more rest : List ℕ) → start_of byte ≡ OfName kind → is_word_byte next ≡ true → list_all is_word_byte more ≡ true
    → is_stopped is_word_byte rest ≡ true → found (start_of byte) byte (next ∷ (more ++ rest)) ≡ FoundToken kind (next ∷ more)
found_name kind byte next more rest start first all stopped =
    rw start (ap (found_some kind) (run_of-append is_word_byte (next ∷ more) rest (both_true first all) stopped))

-- P of each of a list, and of what is one of them
abbrev pub Each : (P : ℕ → Type 0) → List ℕ → Type 0
Each P [] = ⊤
Each P (x ∷ xs) = P x × Each P xs

pub one_of : (P : ℕ → Type 0) (byte : ℕ) (xs : List ℕ) → Each P xs → list_any (λ x. byte == x) xs ≡ true → P byte
one_of P byte [] each any = absurd (false≢true any)
one_of P byte (x ∷ xs) each any = one_or_later (or_cases (byte == x) (list_any (λ x. byte == x) xs) any) (one_of P byte xs each.1)
  where
    one_or_later : ((byte == x) ≡ true) ⊎ (list_any (λ x. byte == x) xs ≡ true) → (list_any (λ x. byte == x) xs ≡ true → P byte) → P byte
    one_or_later (inl same) after = subst P (sym (eqb-true byte x same)) each.0
    one_or_later (inr later) after = after later

found_mark : (byte : ℕ) (rest : List ℕ) → is_mark byte ≡ true → is_stopped is_digit rest ≡ true → found (start_of byte) byte rest ≡ FoundToken Mark []
found_mark byte rest marked stopped =
    let P : ℕ → Type 0 = λ b. found (start_of b) b rest ≡ FoundToken Mark [] in
    let minus : P 45 = ap found_minus (run_of-append is_digit [] rest refl stopped) in
    one_of P byte (codes "()[]{}<>,=:*+-#.|")
    (refl, (refl, (refl, (refl, (refl, (refl, (refl, (refl, (refl, (refl, (refl, (refl, (refl, (minus, (refl, (refl, (refl, tt)))))))))))))))))
    marked

-- the kinds whose tokens a word byte would make longer
abbrev is_wordy : LexemeKind → Bool
is_wordy Mark = false
is_wordy Quoted = false
is_wordy _ = true

ended_stopped : (kind : LexemeKind) (rest : List ℕ) → is_wordy kind ≡ true → is_ended kind rest ≡ true → is_stopped is_word_byte rest ≡ true
ended_stopped kind [] wordy ended = refl
ended_stopped Mark (byte ∷ rest) wordy ended = absurd (false≢true wordy)
ended_stopped Quoted (byte ∷ rest) wordy ended = absurd (false≢true wordy)
ended_stopped _ (byte ∷ rest) wordy ended = ended

mark_stopped : (rest : List ℕ) → is_ended Mark rest ≡ true → is_stopped is_digit rest ≡ true
mark_stopped [] ended = refl
mark_stopped (byte ∷ rest) ended = ended

found_formed_name : (kind : LexemeKind) (sign byte next : ℕ) (more rest : List ℕ) → start_of sign ≡ OfName kind
    → (byte == sign && is_word_byte next && list_all is_word_byte more) ≡ true → is_stopped is_word_byte rest ≡ true
    → found (start_of byte) byte (next ∷ (more ++ rest)) ≡ FoundToken kind (next ∷ more)
found_formed_name kind sign byte next more rest start formed stopped =
    let outer = and_parts (byte == sign && is_word_byte next) (list_all is_word_byte more) formed in
    let inner = and_parts (byte == sign) (is_word_byte next) outer.0 in
    let same : byte ≡ sign = eqb-true byte sign inner.0 in
    found_name kind byte next more rest (ap start_of same ∙ start) inner.1 outer.1 stopped

found_formed : (kind : LexemeKind) (byte : ℕ) (more rest : List ℕ) → is_formed kind (byte ∷ more) ≡ true → is_ended kind rest ≡ true
    → found (start_of byte) byte (more ++ rest) ≡ FoundToken kind more
found_formed Word byte more rest formed ended =
    let parts = and_parts (is_word_start byte) (list_all is_word_byte more) formed in
    found_word byte more rest parts.0 parts.1 (ended_stopped Word rest refl ended)
found_formed Number byte [] rest formed ended = rw (start_of_digit byte formed) (found_digit byte rest (ended_stopped Number rest refl ended))
found_formed Number byte (digit ∷ more) rest formed ended =
    let outer = and_parts ((is_digit byte || byte == 45) && is_digit digit) (list_all is_digit more) formed in
    let inner = and_parts (is_digit byte || byte == 45) (is_digit digit) outer.0 in
    found_signed byte digit more rest (or_cases (is_digit byte) (byte == 45) inner.0) inner.1 outer.1 (ended_stopped Number rest refl ended)
found_formed Register byte [] rest formed ended = absurd (false≢true formed)
found_formed Register byte (next ∷ more) rest formed ended = found_formed_name Register 37 byte next more rest refl formed (ended_stopped Register rest refl ended)
found_formed Physical byte [] rest formed ended = absurd (false≢true formed)
found_formed Physical byte (next ∷ more) rest formed ended = found_formed_name Physical 36 byte next more rest refl formed (ended_stopped Physical rest refl ended)
found_formed Global byte [] rest formed ended = absurd (false≢true formed)
found_formed Global byte (next ∷ more) rest formed ended = found_formed_name Global 64 byte next more rest refl formed (ended_stopped Global rest refl ended)
found_formed Routine byte [] rest formed ended = absurd (false≢true formed)
found_formed Routine byte (next ∷ more) rest formed ended = found_formed_name Routine 38 byte next more rest refl formed (ended_stopped Routine rest refl ended)
found_formed Quoted byte more rest formed ended = absurd (false≢true formed)
found_formed Metadata byte more rest formed ended =
    let parts = and_parts (byte == 33) (list_all is_word_byte more) formed in
    let P : ℕ → Type 0 = λ b. found (start_of b) b (more ++ rest) ≡ FoundToken Metadata more in
    subst P (sym (eqb-true byte 33 parts.0)) (ap (FoundToken Metadata) (run_of-append is_word_byte more rest parts.1 (ended_stopped Metadata rest refl ended)))
found_formed Mark byte [] rest formed ended = found_mark byte rest formed (mark_stopped rest ended)
found_formed Mark byte (next ∷ more) rest formed ended = absurd (false≢true formed)

-- a formed token is read, and then what follows it
abbrev pub with_token : Lexeme → Option (List Lexeme) → Option (List Lexeme)
with_token token tokens = option_map (λ more. token ∷ more) tokens

tokens_past-token : (kind : LexemeKind) (bytes rest : List ℕ) → is_formed kind bytes ≡ true → is_ended kind rest ≡ true
    → tokens_past (bytes ++ rest) 0 ≡ with_token (lexeme kind bytes) (tokens_past rest 0)
tokens_past-token kind [] rest formed ended = absurd (false≢true formed)
tokens_past-token kind (byte ∷ more) rest formed ended =
    rw (found_formed kind byte more rest formed ended) (ap (with_token (lexeme kind (byte ∷ more))) (tokens_past-append more rest))

-- spaces are passed over
pub tokens_past-spaces : (count : ℕ) (rest : List ℕ) → tokens_past (replicate count 32 ++ rest) 0 ≡ tokens_past rest 0
tokens_past-spaces zero rest = refl
tokens_past-spaces (suc count) rest = tokens_past-spaces count rest

-- what is written in pieces that stand apart is read as their tokens
pub tokens_of-pieces : (pieces : List Piece) → IsApart pieces → tokens_of (piece_bytes pieces) ≡ Some (piece_lexemes pieces)
tokens_of-pieces [] apart = refl
tokens_of-pieces (Token token ∷ pieces) apart =
    tokens_past-token token.kind token.bytes (piece_bytes pieces) apart.0 apart.1 ∙ ap (with_token token) (tokens_of-pieces pieces apart.2)
tokens_of-pieces (Spaces count ∷ pieces) apart = tokens_past-spaces count (piece_bytes pieces) ∙ tokens_of-pieces pieces apart
