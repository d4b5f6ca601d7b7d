-- What a line is by its bytes.
use Rattle.std.proofs.Common.{◌≡◌, ℕ, ◌+◌, ◌-◌, ◌<◌, ◌≤◌, Bool, true, false, cond, List, [], ◌∷◌, ◌++◌, Some, None, length, take, refl, sym, ap, ◌∙◌, subst, arith, get_or}
use Rattle.std.specs.Prelude.{⊤, ◌==◌, ◌||◌, ◌&&◌, ◌≢◌, Option, option_map, codes, bytes_eq}
use Rattle.std.proofs.lemmas.Bool.Decides.{nat_tests}
use Rattle.std.proofs.lemmas.Slice.Eq.{bytes_eq-Decides}
use Rattle.std.proofs.lemmas.List.{take_more}
use Rattle.gi_llt.specs.Tokens.{Lexeme, Number, lexeme, is_blank, is_word_start, is_word_byte, is_digit, is_mark, past_run, run_of, tokens_of, tokens_past, tokens_from, start_of, found, Found, FoundBlank, FoundComment, FoundToken, FoundNothing, found_number, found_hexadecimal, found_minus, found_some, found_quoted, through, is_hexadecimal_digit, Register, Physical, Global, Routine, OfBlank, OfComment, OfWord, OfNumber, OfMinus, OfName, OfQuoted, OfMetadata, OfMark, OfNothing, Start}
use Rattle.gi_spelling.specs.Lines.{is_empty_line, key_of, with_byte, without_last_blanks, is_bar_behind_blanks}
use Rattle.gi_mir_read.proofs.RunCuts.{take_run}

-- the key of a line that begins one
pub key_run : (first : ℕ) (rest : List ℕ) → is_word_start first ≡ true → run_of is_word_byte (first ∷ rest) ≡ key_of (first ∷ rest)
key_run first rest is = rw is refl

-- ══ A line without a token ══

abbrev pub is_empty_rest : List ℕ → Bool
is_empty_rest [] = true
is_empty_rest (first ∷ rest) = first == 59

abbrev IsToken : Found → Type 0
IsToken FoundBlank = ⊥
IsToken FoundComment = ⊥
IsToken (FoundToken kind more) = ⊤
IsToken FoundNothing = ⊤

not_empty : (f : Found) (first : ℕ) (after : ℕ → Option (List Lexeme)) → IsToken f → is_empty_line (tokens_from f first after) ≡ false
not_empty FoundBlank first after token = absurd token
not_empty FoundComment first after token = absurd token
not_empty (FoundToken kind more) first after token = chosen (after (length more))
  where
    chosen : (tokens : Option (List Lexeme)) → is_empty_line (option_map (λ ts. lexeme kind (first ∷ more) ∷ ts) tokens) ≡ false
    chosen None = refl
    chosen (Some tokens) = refl
not_empty FoundNothing first after token = refl

abbrev IsTokenStart : Start → Type 0
IsTokenStart OfBlank = ⊥
IsTokenStart OfComment = ⊥
IsTokenStart s = ⊤

number_token : (first : ℕ) (rest : List ℕ) → IsToken (found_number first rest)
number_token first [] = tt
number_token first (byte ∷ rest) = chosen (first == 48) (byte == 120) (run_of is_hexadecimal_digit rest)
  where
    chosen : (zero x : Bool) (digits : List ℕ)
        → IsToken (cond (zero && x) (found_hexadecimal (run_of is_digit (byte ∷ rest)) digits) (FoundToken Number (run_of is_digit (byte ∷ rest))))
    chosen false x digits = tt
    chosen true false digits = tt
    chosen true true [] = tt
    chosen true true (digit ∷ digits) = tt

start_token : (s : Start) (first : ℕ) (rest : List ℕ) → IsTokenStart s → IsToken (found s first rest)
start_token OfBlank first rest token = absurd token
start_token OfComment first rest token = absurd token
start_token OfWord first rest token = tt
start_token OfNumber first rest token = number_token first rest
start_token OfMinus first rest token = chosen (run_of is_digit rest)
  where
    chosen : (digits : List ℕ) → IsToken (found_minus digits)
    chosen [] = tt
    chosen (digit ∷ digits) = tt
start_token (OfName kind) first rest token = chosen (run_of is_word_byte rest)
  where
    chosen : (bytes : List ℕ) → IsToken (found_some kind bytes)
    chosen [] = tt
    chosen (byte ∷ bytes) = tt
start_token OfQuoted first rest token = chosen (through first rest)
  where
    chosen : (bytes : Option (List ℕ)) → IsToken (found_quoted bytes)
    chosen None = tt
    chosen (Some bytes) = tt
start_token OfMetadata first rest token = tt
start_token OfMark first rest token = tt
start_token OfNothing first rest token = tt

byte_token : (byte : ℕ) → is_blank byte ≡ false → (byte == 59) ≡ false → IsTokenStart (start_of byte)
byte_token byte no_blank no_comment =
    chosen (is_word_start byte) (is_digit byte) (is_blank byte) (byte == 59) (byte == 45) (byte == 37) (byte == 36) (byte == 64) (byte == 38) (byte == 34) (byte == 39) (byte == 33) (is_mark byte) no_blank no_comment
  where
    last : (quoted single metadata mark : Bool) → IsTokenStart (cond (quoted || single) OfQuoted (cond metadata OfMetadata (cond mark OfMark OfNothing)))
    last true single metadata mark = tt
    last false true metadata mark = tt
    last false false true mark = tt
    last false false false true = tt
    last false false false false = tt

    chosen : (word digit blank comment minus register physical global routine quoted single metadata mark : Bool) → blank ≡ false → comment ≡ false
        → IsTokenStart (cond word OfWord (cond digit OfNumber (cond blank OfBlank (cond comment OfComment (cond minus OfMinus (cond register (OfName Register)
        (cond physical (OfName Physical) (cond global (OfName Global) (cond routine (OfName Routine) (cond (quoted || single) OfQuoted (cond metadata OfMetadata (cond mark OfMark OfNothing))))))))))))
    chosen true d b c m r p g o q s t k nb nc = tt
    chosen false true b c m r p g o q s t k nb nc = tt
    chosen false false true c m r p g o q s t k nb nc = cc
    chosen false false false true m r p g o q s t k nb nc = cc
    chosen false false false false true r p g o q s t k nb nc = tt
    chosen false false false false false true p g o q s t k nb nc = tt
    chosen false false false false false false true g o q s t k nb nc = tt
    chosen false false false false false false false true o q s t k nb nc = tt
    chosen false false false false false false false false true q s t k nb nc = tt
    chosen false false false false false false false false false q s t k nb nc = last q s t k

blank_start : (byte : ℕ) → is_blank byte ≡ true → start_of byte ≡ OfBlank
blank_start byte blank = chosen (byte == 32) refl (byte == 9) refl (byte == 13) refl blank
  where
    at : (k : ℕ) → (byte == k) ≡ true → start_of k ≡ OfBlank → start_of byte ≡ OfBlank
    at k is same = let e : byte ≡ k = grind (arith, nat_tests) in ap start_of e ∙ same

    chosen : (space : Bool) → (byte == 32) ≡ space → (tab : Bool) → (byte == 9) ≡ tab → (back : Bool) → (byte == 13) ≡ back → (space || tab || back) ≡ true → start_of byte ≡ OfBlank
    chosen true is tab is_tab back is_back blank = at 32 is refl
    chosen false is true is_tab back is_back blank = at 9 is_tab refl
    chosen false is false is_tab true is_back blank = at 13 is_back refl
    chosen false is false is_tab false is_back blank = cc

comment_start : (byte : ℕ) → (byte == 59) ≡ true → start_of byte ≡ OfComment
comment_start byte is = let e : byte ≡ 59 = grind (arith, nat_tests) in ap start_of e

pub empty_line : (line : List ℕ) → is_empty_rest (past_run is_blank line) ≡ is_empty_line (tokens_of line)
empty_line [] = refl
empty_line (byte ∷ rest) = chosen (is_blank byte) refl (byte == 59) refl (empty_line rest)
  where
    chosen : (blank : Bool) → is_blank byte ≡ blank → (comment : Bool) → (byte == 59) ≡ comment → is_empty_rest (past_run is_blank rest) ≡ is_empty_line (tokens_of rest)
        → is_empty_rest (cond blank (past_run is_blank rest) (byte ∷ rest)) ≡ is_empty_line (tokens_of (byte ∷ rest))
    chosen true is comment is_comment more = more ∙ ap (λ s. is_empty_line (tokens_from (found s byte rest) byte (tokens_past rest))) (sym (blank_start byte is))
    chosen false is true is_comment more = is_comment ∙ ap (λ s. is_empty_line (tokens_from (found s byte rest) byte (tokens_past rest))) (sym (comment_start byte is_comment))
    chosen false is false is_comment more = is_comment ∙ sym (not_empty (found (start_of byte) byte rest) byte (tokens_past rest) (start_token (start_of byte) byte rest (byte_token byte is is_comment)))

-- ══ Blanks at the end ══

blank_behind : (xs : List ℕ) (byte : ℕ) → is_blank byte ≡ true → without_last_blanks (xs ++ byte ∷ []) ≡ without_last_blanks xs
blank_behind [] byte is = rw is refl
blank_behind (x ∷ xs) byte is = ap (with_byte x) (blank_behind xs byte is)

other_behind : (xs : List ℕ) (byte : ℕ) → is_blank byte ≡ false → without_last_blanks (xs ++ byte ∷ []) ≡ xs ++ byte ∷ []
other_behind [] byte is = rw is refl
other_behind (x ∷ []) byte is = ap (with_byte x) (other_behind [] byte is)
other_behind (x ∷ y ∷ xs) byte is = ap (with_byte x) (other_behind (y ∷ xs) byte is)

-- one blank less, and the end of the walk
pub less_blank : (bytes : List ℕ) (end : ℕ) → 0 < end → end ≤ length bytes → is_blank (get_or bytes (end - 1) 0) ≡ true
    → without_last_blanks (take (end - 1) bytes) ≡ without_last_blanks (take end bytes)
less_blank bytes end some within is =
    let same : end - 1 + 1 ≡ end = omega arith in
    let more : take end bytes ≡ take (end - 1) bytes ++ get_or bytes (end - 1) 0 ∷ [] = ap (λ n. take n bytes) (sym same) ∙ take_more bytes (end - 1) 0 (omega arith) in
    sym (ap without_last_blanks more ∙ blank_behind (take (end - 1) bytes) (get_or bytes (end - 1) 0) is)

pub no_more_blanks : (bytes : List ℕ) (end : ℕ) → 0 < end → end ≤ length bytes → is_blank (get_or bytes (end - 1) 0) ≡ false
    → take end bytes ≡ without_last_blanks (take end bytes)
no_more_blanks bytes end some within is =
    let same : end - 1 + 1 ≡ end = omega arith in
    let more : take end bytes ≡ take (end - 1) bytes ++ get_or bytes (end - 1) 0 ∷ [] = ap (λ n. take n bytes) (sym same) ∙ take_more bytes (end - 1) 0 (omega arith) in
    more ∙ sym (ap without_last_blanks more ∙ other_behind (take (end - 1) bytes) (get_or bytes (end - 1) 0) is)

-- ══ The beginning of an IR block ══

abbrev pub is_dash : ℕ → Bool
is_dash byte = byte == 45

dash_is_no_blank : (byte : ℕ) → (byte == 45) ≡ true → is_blank byte ≡ false
dash_is_no_blank byte is = let e : byte ≡ 45 = grind (arith, nat_tests) in ap is_blank e

three_dashes : (rest : List ℕ) → is_bar_behind_blanks rest ≡ (bytes_eq (45 ∷ 45 ∷ 45 ∷ run_of is_dash rest) (codes "---") && is_bar_behind_blanks (past_run is_dash rest))
three_dashes [] = refl
three_dashes (byte ∷ rest) = chosen (is_dash byte) refl
  where
    chosen : (dash : Bool) → is_dash byte ≡ dash → is_bar_behind_blanks (byte ∷ rest)
        ≡ (bytes_eq (45 ∷ 45 ∷ 45 ∷ cond dash (byte ∷ run_of is_dash rest) []) (codes "---") && is_bar_behind_blanks (cond dash (past_run is_dash rest) (byte ∷ rest)))
    chosen true is = ap (λ blank. blank && bytes_eq (past_run is_blank rest) (124 ∷ [])) (dash_is_no_blank byte is)
    chosen false is = refl

pub dashes_then : (bytes rest : List ℕ) → bytes ≡ codes "---" ++ rest → is_bar_behind_blanks rest ≡ (bytes_eq (run_of is_dash bytes) (codes "---") && is_bar_behind_blanks (past_run is_dash bytes))
dashes_then bytes rest is =
    subst (λ b. is_bar_behind_blanks rest ≡ (bytes_eq (run_of is_dash b) (codes "---") && is_bar_behind_blanks (past_run is_dash b))) (sym is) (three_dashes rest)

run_and_past : (pass : ℕ → Bool) (xs : List ℕ) → xs ≡ run_of pass xs ++ past_run pass xs
run_and_past pass [] = refl
run_and_past pass (x ∷ xs) = chosen (pass x) (run_and_past pass xs)
  where
    chosen : (test : Bool) → xs ≡ run_of pass xs ++ past_run pass xs → x ∷ xs ≡ cond test (x ∷ run_of pass xs) [] ++ cond test (past_run pass xs) (x ∷ xs)
    chosen true more = ap (λ ys. x ∷ ys) more
    chosen false more = refl

pub no_dashes : (bytes : List ℕ) → ((rest : List ℕ) → bytes ≢ codes "---" ++ rest) → false ≡ (bytes_eq (run_of is_dash bytes) (codes "---") && is_bar_behind_blanks (past_run is_dash bytes))
no_dashes bytes other = chosen (bytes_eq (run_of is_dash bytes) (codes "---")) refl
  where
    chosen : (same : Bool) → bytes_eq (run_of is_dash bytes) (codes "---") ≡ same → false ≡ (same && is_bar_behind_blanks (past_run is_dash bytes))
    chosen true is =
        absurd (other (past_run is_dash bytes) (run_and_past is_dash bytes ∙ ap (λ run. run ++ past_run is_dash bytes) ((bytes_eq-Decides (run_of is_dash bytes) (codes "---")).0 is)))
    chosen false is = refl

pub empty_at : (rest : List ℕ) → 1 ≤ length rest → (get_or rest 0 0 == 59) ≡ is_empty_rest rest
empty_at [] some = absurd (omega arith)
empty_at (first ∷ rest) some = refl

pub none_left : (rest : List ℕ) → length rest < 1 → true ≡ is_empty_rest rest
none_left [] none = refl
none_left (first ∷ rest) none = absurd (omega arith)

pub key_taken : (line : List ℕ) (count : ℕ) → 1 ≤ length line → is_word_start (get_or line 0 0) ≡ true → count ≡ length (run_of is_word_byte line) → take count line ≡ key_of line
key_taken [] count some is run = absurd (omega arith)
key_taken (first ∷ rest) count some is run = ap (λ n. take n (first ∷ rest)) run ∙ take_run is_word_byte (first ∷ rest) ∙ key_run first rest is
