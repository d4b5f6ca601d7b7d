-- What pieces of printed lines say: their tokens by what they are, and the names among these.
use Rattle.std.proofs.Common.{◌≡◌, ℕ, zero, suc, ◌-◌, ◌^◌, ◌<◌, ◌≤◌, Bool, true, false, List, [], ◌∷◌, ◌++◌, drop, Option, Some, None, refl, sym, ap, ◌∙◌, subst, arith, lit<, pos, negsuc, inl, inr}
use Rattle.gi_mir.specs.Names.{name_at}
use Rattle.std.specs.Prelude.{◌⊎◌, ◌||◌, ◌==◌, not, nat_lt, bytes_eq, filter_map, find, option_map, codes, decimal, ℤ, neg_ℤ, min}
use Rattle.std.specs.Fmt.{signed_decimal}
use Rattle.std.specs.List.{list_all}
use Rattle.std.specs.Cmp.Derive.{both_true}
use Rattle.std.proofs.lemmas.Bool.{and_parts, or_cases, and_right, not-true, false≢true}
use Rattle.std.proofs.lemmas.Bool.Decides.{nat_tests}
use Rattle.std.proofs.lemmas.List.{map-append}
use Rattle.std.proofs.lemmas.List.Elements.{filter_map-append}
use Rattle.std.proofs.lemmas.List.Folds.{list_all-append}
use Rattle.std.proofs.lemmas.Slice.Eq.{bytes_eq-Decides}
use Rattle.std.proofs.Math.Nat.{pow-le-pow_right}
use Rattle.gi_llt.specs.Bits.{signed}
use Rattle.gi_llt.specs.Tokens.{Number as OfNumber, Register as OfRegister, Routine as OfRoutine, Lexeme, lexeme, is_digit, Piece, Token, Spaces, piece_lexemes}
use Rattle.gi_llt.specs.declared.Llt.TheVariants.{Scalar}
use Rattle.gi_llt.proofs.Apart.{is_digits, decimal_digits}
use Rattle.gi_text.specs.Numbers.{value_after, is_too_great}
use Rattle.gi_mir.specs.declared.opcode.Opcode.{Opcode}
use Rattle.gi_mir.specs.declared.opcode.Opcode.TheVariants.{Copy}
use Rattle.gi_mir.specs.declared.operand.Pred.{Pred}
use Rattle.gi_mir.specs.declared.operand.Pred.TheVariants.{Eq}
use Rattle.gi_mir.specs.Formed.{is_constant_in_range}
use Rattle.gi_mir.specs.Row.{word_of as opcode_word, opcode_of}
use Rattle.gi_mir.specs.Routines.{routine_names}
use Rattle.gi_mir.proofs.Words.{opcode_of-word_of}
use Rattle.gi_spelling.specs.declared.token.Word.{Word}
use Rattle.gi_spelling.specs.declared.token.Word.TheVariants as word
use Rattle.gi_spelling.specs.declared.token.What.{What}
use Rattle.gi_spelling.specs.declared.token.What.TheVariants as what
use Rattle.gi_spelling.specs.Words.{words, fixed_word, what_of, whats, word_of, number_written, is_plain, is_plain_signed}
use Rattle.gi_spelling.specs.Printable.{is_whole}
use Rattle.gi_spelling.specs.Printed.{predicate_word}
use Rattle.gi_spelling.specs.Resolved.{whole_number, resolved_constant}
use Rattle.gi_spelling.proofs.Numerals.{numeral-decimal, decimal_value, decimal_plain}
use Rattle.gi_spelling.proofs.PlacedLines.{is_sized}
use Rattle.gi_spelling.proofs.PrintedTokens.{numeral_alone}
use Rattle.gi_spelling.proofs.SignedNumbers.{digit_no_minus, signed_low, WritesConstant, decimal_written, negative_written, decimal_sized, negative_sized, plain_constant, constant_written}
use Rattle.gi_spelling.proofs.TokenLists.{names_nothing}

-- ══ What pieces say ══

abbrev pub name_by : What → List ℕ → Option (List ℕ)
name_by what.Global bytes = Some (drop 1 bytes)
name_by w bytes = None

abbrev pub name_shown : Lexeme → Option (List ℕ)
name_shown l = name_by (what_of l) l.bytes

abbrev pub names_shown : List Lexeme → List (List ℕ)
names_shown lexemes = filter_map name_shown lexemes

pub record Says (pieces : List Piece) (ws : List What) (names : List (List ℕ)) : Type 0 where
  pub same : whats (piece_lexemes pieces) ≡ ws
  pub sized : list_all is_sized (piece_lexemes pieces) ≡ true
  pub named : names_shown (piece_lexemes pieces) ≡ names

pub says_nothing : Says [] [] []
says_nothing = record { same = refl; sized = refl; named = refl }

pub lexemes-append : (xs ys : List Piece) → piece_lexemes (xs ++ ys) ≡ piece_lexemes xs ++ piece_lexemes ys
lexemes-append [] ys = refl
lexemes-append (Token l ∷ xs) ys = ap (λ more. l ∷ more) (lexemes-append xs ys)
lexemes-append (Spaces count ∷ xs) ys = lexemes-append xs ys

pub says_both : (xs ys : List Piece) (ws vs : List What) (names more : List (List ℕ)) → Says xs ws names → Says ys vs more → Says (xs ++ ys) (ws ++ vs) (names ++ more)
says_both xs ys ws vs names more first second = record {
  same = ap whats (lexemes-append xs ys) ∙ (map-append what_of (piece_lexemes xs) (piece_lexemes ys) ∙ cc (first.same, second.same));
  sized = ap (list_all is_sized) (lexemes-append xs ys) ∙ (list_all-append is_sized (piece_lexemes xs) (piece_lexemes ys) ∙ both_true first.sized second.sized);
  named = ap names_shown (lexemes-append xs ys) ∙ (filter_map-append name_shown (piece_lexemes xs) (piece_lexemes ys) ∙ cc (first.named, second.named));
}

pub says_spaces : (count : ℕ) (pieces : List Piece) (ws : List What) (names : List (List ℕ)) → Says pieces ws names → Says (Spaces count ∷ pieces) ws names
says_spaces count pieces ws names later = record { same = later.same; sized = later.sized; named = later.named }

pub no_name : (w : What) (bytes : List ℕ) → names_nothing w ≡ true → name_by w bytes ≡ None
no_name what.Global bytes none = absurd (false≢true none)
no_name w bytes none = refl

-- a token before others
pub says_token : (l : Lexeme) (w : What) (pieces : List Piece) (ws : List What) (names : List (List ℕ)) → what_of l ≡ w → is_sized l ≡ true → names_nothing w ≡ true → Says pieces ws names
    → Says (Token l ∷ pieces) (w ∷ ws) names
says_token l w pieces ws names is sized none later =
    let nameless : name_shown l ≡ None = ap (λ v. name_by v l.bytes) is ∙ no_name w l.bytes none in
    record {
      same = cc (is, later.same);
      sized = both_true sized later.sized;
      named = rw nameless later.named;
    }

pub says_one : (l : Lexeme) (w : What) → what_of l ≡ w → is_sized l ≡ true → names_nothing w ≡ true → Says (Token l ∷ []) (w ∷ []) []
says_one l w is sized none = says_token l w [] [] [] is sized none says_nothing

-- ══ Words ══

-- no fixed word has this first byte and a digit behind it
abbrev begins_apart : (first : ℕ) → List ℕ → Bool
begins_apart first [] = true
begins_apart first (byte ∷ []) = true
begins_apart first (byte ∷ second ∷ more) = not (byte == first) || not (is_digit second)

digit_differs : (byte digit : ℕ) → is_digit byte ≡ false → is_digit digit ≡ true → (byte == digit) ≡ false
digit_differs byte digit other is = grind (arith, nat_tests)

apart_differs : (first digit : ℕ) (digits entry : List ℕ) → is_digit digit ≡ true → begins_apart first entry ≡ true → bytes_eq entry (first ∷ digit ∷ digits) ≡ false
apart_differs first digit digits [] is apart = refl
apart_differs first digit digits (byte ∷ []) is apart = and_right (byte == first) false refl
apart_differs first digit digits (byte ∷ second ∷ more) is apart = chosen (or_cases (not (byte == first)) (not (is_digit second)) apart)
  where
    chosen : (not (byte == first) ≡ true) ⊎ (not (is_digit second) ≡ true) → bytes_eq (byte ∷ second ∷ more) (first ∷ digit ∷ digits) ≡ false
    chosen (inl other) = rw (not-true (byte == first) other) refl
    chosen (inr letter) = rw (digit_differs second digit (not-true (is_digit second) letter) is) (and_right (byte == first) false refl)

no_entry : (first digit : ℕ) (digits : List ℕ) (entries : List (List ℕ × Word)) → is_digit digit ≡ true → list_all (λ entry. begins_apart first entry.0) entries ≡ true
    → find (λ entry. bytes_eq entry.0 (first ∷ digit ∷ digits)) entries ≡ None
no_entry first digit digits [] is all = refl
no_entry first digit digits (entry ∷ entries) is all =
    let parts = and_parts (begins_apart first entry.0) (list_all (λ entry. begins_apart first entry.0) entries) all in
    rw (apart_differs first digit digits entry.0 is parts.0) (no_entry first digit digits entries is parts.1)

no_fixed_word : (first : ℕ) (digits : List ℕ) → is_digits digits ≡ true → list_all (λ entry. begins_apart first entry.0) words ≡ true → fixed_word (first ∷ digits) ≡ None
no_fixed_word first [] some all = absurd (false≢true some)
no_fixed_word first (digit ∷ digits) some all =
    let parts = and_parts (is_digit digit) (list_all is_digit digits) some in
    ap (option_map (λ (entry : List ℕ × Word). entry.1)) (no_entry first digit digits words parts.0 all)

-- `s32` and `i32`
pub scalar_is : (bits : ℕ) → bits ≤ 65535 → word_of (115 ∷ decimal bits) ≡ word.Type (Scalar bits)
unfolding opcode_of
scalar_is bits within = rw (no_fixed_word 115 (decimal bits) (decimal_digits bits) refl, numeral-decimal 65535 bits (omega arith) (omega arith)) refl

pub integer_is : (bits : ℕ) → bits ≤ 65535 → word_of (105 ∷ decimal bits) ≡ word.Integer bits
unfolding opcode_of
integer_is bits within = rw (no_fixed_word 105 (decimal bits) (decimal_digits bits) refl, numeral-decimal 65535 bits (omega arith) (omega arith)) refl

-- the word of every opcode
no_op_word : (op : Opcode) → fixed_word (opcode_word op) ≡ None
no_op_word Copy = refl
no_op_word _ = refl

pub op_is : (op : Opcode) → word_of (opcode_word op) ≡ word.Opcode op
op_is op = rw (no_op_word op, opcode_of-word_of op) refl

pub predicate_is : (pred : Pred) → word_of (predicate_word pred) ≡ word.Predicate pred
predicate_is Eq = refl
predicate_is _ = refl

-- ══ Names with a mark before them ══

pub frame_is : (n : ℕ) → n < 4294967295 → what_of (lexeme OfRegister (codes "%stack." ++ decimal n)) ≡ what.Frame n
frame_is n within = rw (numeral_alone 4294967294 n (omega arith) (omega arith)) refl

pub routine_is : (place : ℕ) → nat_lt place 10 ≡ true → what_of (lexeme OfRoutine (38 ∷ name_at routine_names place)) ≡ what.Routine place
routine_is zero within = refl
routine_is (suc zero) within = refl
routine_is (suc (suc zero)) within = refl
routine_is (suc (suc (suc zero))) within = refl
routine_is (suc (suc (suc (suc zero)))) within = refl
routine_is (suc (suc (suc (suc (suc zero))))) within = refl
routine_is (suc (suc (suc (suc (suc (suc zero)))))) within = refl
routine_is (suc (suc (suc (suc (suc (suc (suc zero))))))) within = refl
routine_is (suc (suc (suc (suc (suc (suc (suc (suc zero)))))))) within = refl
routine_is (suc (suc (suc (suc (suc (suc (suc (suc (suc zero))))))))) within = refl
routine_is (suc (suc (suc (suc (suc (suc (suc (suc (suc (suc n)))))))))) within =
    let below : suc (suc (suc (suc (suc (suc (suc (suc (suc (suc n))))))))) < 10 = grind (arith, nat_tests) in
    absurd (omega (arith, below))

-- ══ Numbers ══

no_minus : (digits : List ℕ) → is_digits digits ≡ true → is_plain digits ≡ true → is_plain_signed digits ≡ true
no_minus [] some plain = plain
no_minus (digit ∷ more) some plain = rw (digit_no_minus digit (and_parts (is_digit digit) (list_all is_digit more) some).0) plain

pub decimal_signed : (n : ℕ) → n < 10 ^ 64 → is_plain_signed (decimal n) ≡ true
decimal_signed n within = no_minus (decimal n) (decimal_digits n) (decimal_plain n within)

some_differs : (n : ℕ) → suc n < 10 ^ 64 → bytes_eq (decimal (suc n)) (48 ∷ []) ≡ false
some_differs n within = chosen (bytes_eq (decimal (suc n)) (48 ∷ [])) refl
  where
    chosen : (same : Bool) → bytes_eq (decimal (suc n)) (48 ∷ []) ≡ same → same ≡ false
    chosen false is = refl
    chosen true is =
        let bytes : decimal (suc n) ≡ 48 ∷ [] = (bytes_eq-Decides (decimal (suc n)) (48 ∷ [])).0 is in
        let value : suc n ≡ 0 = sym (decimal_value (suc n) within) ∙ ap (value_after 10 0) bytes in
        absurd (omega (arith, value))

pub negative_signed : (n : ℕ) → suc n < 10 ^ 64 → is_plain_signed (signed_decimal (negsuc n)) ≡ true
negative_signed n within = rw (decimal_plain (suc n) within, some_differs n within) refl

-- a whole number is read as itself
pub record WritesWhole (value : ℤ) : Type 0 where
  pub sized : is_too_great OfNumber (signed_decimal value) ≡ false
  pub plain : is_plain_signed (signed_decimal value) ≡ true
  pub means : whole_number (number_written (signed_decimal value)) ≡ value

pub whole_written : (value : ℤ) → is_whole value ≡ true → WritesWhole value
whole_written (pos n) whole =
    let below : n < 2 ^ 127 = grind (arith, nat_tests) in
    let least : min n (2 ^ 127 - 1) ≡ n = omega (arith, below) in
    record {
      sized = decimal_sized n (omega (arith, below));
      plain = decimal_signed n (omega (arith, below));
      means = ap whole_number (decimal_written n (omega (arith, below))) ∙ ap pos least;
    }
whole_written (negsuc n) whole =
    let below : n < 2 ^ 127 = grind (arith, nat_tests) in
    let least : min (suc n) (2 ^ 127) ≡ suc n = omega (arith, below) in
    record {
      sized = negative_sized n (omega (arith, below));
      plain = negative_signed n (omega (arith, below));
      means = ap whole_number (negative_written n (omega (arith, below))) ∙ ap (λ size. neg_ℤ (pos size)) least;
    }

-- a constant of more than 128 bits, whose bits are those of a number below 2 ^ 128
great_constant : (k value : ℕ) → 128 ≤ k → value < 2 ^ 128 → WritesConstant (suc k) value (signed_decimal (signed (suc k) value))
great_constant k value great within =
    let half : 2 ^ 128 ≤ 2 ^ k = pow-le-pow_right (lit< tt) great in
    let grown : 2 ^ k ≤ 2 ^ suc k = pow-le-pow_right (lit< tt) (omega arith) in
    let below : value < 2 ^ k = omega arith in
    let all : value < 2 ^ suc k = omega arith in
    subst (λ z. WritesConstant (suc k) value (signed_decimal z)) (sym (signed_low k value below)) (record {
      sized = decimal_sized value within;
      means = ap (resolved_constant (suc k)) (decimal_written value (omega arith)) ∙ plain_constant (suc k) value all;
    })

pub any_constant : (bits value : ℕ) → value < 2 ^ 128 → is_constant_in_range bits value ≡ true → WritesConstant bits value (signed_decimal (signed bits value))
any_constant zero value within range =
    let none : value < 1 = grind (arith, nat_tests) in
    let zero_is : value ≡ 0 = omega (arith, none) in
    subst (λ v. WritesConstant 0 v (signed_decimal (signed 0 v))) (sym zero_is) (record {
      sized = decimal_sized 0 (omega arith);
      means = ap (resolved_constant 0) (decimal_written 0 (omega arith));
    })
any_constant (suc k) value within range = chosen (nat_lt k 128) refl
  where
    chosen : (small : Bool) → nat_lt k 128 ≡ small → WritesConstant (suc k) value (signed_decimal (signed (suc k) value))
    chosen true is =
        let below : k < 128 = grind (arith, nat_tests) in
        let few : nat_lt 128 (suc k) ≡ false = grind (arith, nat_tests) in
        let fits : nat_lt value (2 ^ suc k) ≡ true = (rw few at range) in
        constant_written k value below (let v : value < 2 ^ suc k = grind (arith, nat_tests) in v)
    chosen false is = great_constant k value (let g : 128 ≤ k = grind (arith, nat_tests) in g) within
