-- What stands at the front of a line is its first bytes.
use Rattle.std.proofs.Common.{◌≡◌, ℕ, suc, ◌+◌, ◌≤◌, Bool, true, false, List, [], ◌∷◌, ◌++◌, length, Option, Some, None, refl, sym, ap, subst, arith, length-append, get_or, drop, take, ◌-◌}
use Rattle.std.proofs.lemmas.List.{take_rest}
use Rattle.std.specs.Prelude.{⊤, option_map, ◌&&◌, ◌==◌, if◌then◌else◌}
use Rattle.std.specs.List.{position}
use Rattle.std.proofs.lemmas.Bool.{and_parts, eqb-true}
use Rattle.gi_llt.specs.Tokens.{LexemeKind, Number, is_digit, is_hexadecimal_digit, is_word_byte, run_of, past_run, through, Start, OfBlank, OfComment, OfWord, OfNumber, OfMinus, OfName, OfQuoted, OfMetadata, OfMark, OfNothing, start_of, Found, FoundBlank, FoundComment, FoundToken, FoundNothing, found, found_some, found_minus, found_hexadecimal, found_number, found_quoted}
use Rattle.gi_text.specs.declared.step.Step.{Step}
use Rattle.gi_text.specs.declared.step.Step.TheVariants as step
use Rattle.gi_text.specs.declared.token.TokenKind.TheVariants as kind
use Rattle.gi_text.specs.Steps.{step_of, step_at, taken_by}
use Rattle.gi_text.proofs.RunLemmas.{run_split, through_position, through_split}

-- the bytes of a token after its first are the first of the rest
abbrev pub IsFront : Found → List ℕ → Type 0
IsFront (FoundToken kind more) rest = (later : List ℕ) × (rest ≡ more ++ later)
IsFront FoundBlank rest = ⊤
IsFront FoundComment rest = ⊤
IsFront FoundNothing rest = ⊤

front_some : (kind : LexemeKind) (run later rest : List ℕ) → rest ≡ run ++ later → IsFront (found_some kind run) rest
front_some kind [] later rest split = tt
front_some kind (byte ∷ more) later rest split = (later, split)

front_minus : (run later rest : List ℕ) → rest ≡ run ++ later → IsFront (found_minus run) rest
front_minus [] later rest split = (rest, refl)
front_minus (digit ∷ more) later rest split = (later, split)

front_hexadecimal : (digits past run later rest : List ℕ) (byte : ℕ) → byte ≡ 120 → byte ∷ rest ≡ digits ++ past → rest ≡ run ++ later → IsFront (found_hexadecimal digits run) (byte ∷ rest)
front_hexadecimal digits past [] later rest byte x split hexadecimal = (past, split)
front_hexadecimal digits past (digit ∷ more) later rest byte x split hexadecimal =
    (later, subst (λ b. b ∷ rest ≡ 120 ∷ digit ∷ more ++ later) (sym x) (ap (λ ys. 120 ∷ ys) hexadecimal))

front_number : (first : ℕ) (rest : List ℕ) → IsFront (found_number first rest) rest
front_number first [] = ([], refl)
front_number first (byte ∷ rest) = chosen (first == 48 && byte == 120) refl
  where
    chosen : (test : Bool) → (first == 48 && byte == 120) ≡ test
        → IsFront (if test then found_hexadecimal (run_of is_digit (byte ∷ rest)) (run_of is_hexadecimal_digit rest) else FoundToken Number (run_of is_digit (byte ∷ rest))) (byte ∷ rest)
    chosen true is =
        front_hexadecimal (run_of is_digit (byte ∷ rest)) (past_run is_digit (byte ∷ rest)) (run_of is_hexadecimal_digit rest) (past_run is_hexadecimal_digit rest) rest byte
        (eqb-true byte 120 (and_parts (first == 48) (byte == 120) is).1) (run_split is_digit (byte ∷ rest)) (run_split is_hexadecimal_digit rest)
    chosen false is = (past_run is_digit (byte ∷ rest), run_split is_digit (byte ∷ rest))

front_quoted : (r : Option (List ℕ)) (rest : List ℕ) → ((more : List ℕ) → r ≡ Some more → (later : List ℕ) × (rest ≡ more ++ later)) → IsFront (found_quoted r) rest
front_quoted None rest split = tt
front_quoted (Some more) rest split = split more refl

pub front_found : (start : Start) (first : ℕ) (rest : List ℕ) → IsFront (found start first rest) rest
front_found OfBlank first rest = tt
front_found OfComment first rest = tt
front_found OfWord first rest = (past_run is_word_byte rest, run_split is_word_byte rest)
front_found OfNumber first rest = front_number first rest
front_found OfMinus first rest = front_minus (run_of is_digit rest) (past_run is_digit rest) rest (run_split is_digit rest)
front_found (OfName kind) first rest = front_some kind (run_of is_word_byte rest) (past_run is_word_byte rest) rest (run_split is_word_byte rest)
front_found OfQuoted first rest = front_quoted (through first rest) rest (through_split first rest)
front_found OfMetadata first rest = (past_run is_word_byte rest, run_split is_word_byte rest)
front_found OfMark first rest = (rest, refl)
front_found OfNothing first rest = tt

taken_within : (f : Found) (rest : List ℕ) → IsFront f rest → taken_by (step_of f) ≤ suc (length rest)
taken_within FoundBlank rest front = omega arith
taken_within FoundComment rest front = omega arith
taken_within (FoundToken kind more) rest front =
    let lengths : length rest ≡ length (more ++ front.0) = ap length front.1 in
    omega (arith, lengths, length-append more front.0)
taken_within FoundNothing rest front = omega arith

-- a step takes no more bytes than there are
pub step_within : (bytes : List ℕ) → taken_by (step_at bytes) ≤ length bytes
step_within [] = omega arith
step_within (first ∷ rest) = taken_within (found (start_of first) first rest) rest (front_found (start_of first) first rest)

-- from a quotation mark to the next one
by_length : (r : Option (List ℕ)) (k : ℕ) → option_map (λ bytes. 0 + length bytes) r ≡ Some (k + 1) → step.Token kind.Quoted (k + 1) ≡ step_of (found_quoted r)
by_length None k same = cc
by_length (Some more) k same =
    let lengths : 0 + length more ≡ k + 1 = cc in
    let lengths' : k + 1 ≡ length more = omega (arith, lengths) in
    ap (λ n. step.Token kind.Quoted n) lengths'

by_none : (r : Option (List ℕ)) → option_map (λ bytes. 0 + length bytes) r ≡ None → step.Nothing ≡ step_of (found_quoted r)
by_none None same = refl
by_none (Some more) same = cc

pub quoted_some : (first : ℕ) (rest : List ℕ) (k : ℕ) → Some k ≡ position (λ other. other == first) rest → step.Token kind.Quoted (k + 1) ≡ step_of (found_quoted (through first rest))
quoted_some first rest k found = by_length (through first rest) k (rw (through_position first rest) (ap (option_map (λ k. k + 1)) (sym found)))

pub quoted_none : (first : ℕ) (rest : List ℕ) → None ≡ position (λ other. other == first) rest → step.Nothing ≡ step_of (found_quoted (through first rest))
quoted_none first rest found = by_none (through first rest) (rw (through_position first rest) (ap (option_map (λ k. k + 1)) (sym found)))

step_within_at : (s : Step) (bytes : List ℕ) → 1 ≤ length bytes → s ≡ step_of (found (start_of (get_or bytes 0 0)) (get_or bytes 0 0) (drop 1 bytes)) → taken_by s ≤ length bytes
step_within_at s [] some is = absurd (let no : 1 ≤ 0 = some in omega arith)
step_within_at s (first ∷ rest) some is = subst (λ t. taken_by t ≤ suc (length rest)) (sym is) (step_within (first ∷ rest))

pub step_within_rest : (s : Step) (bytes : List ℕ) → 1 ≤ length bytes → s ≡ step_of (found (start_of (get_or bytes 0 0)) (get_or bytes 0 0) (take (length bytes - 1) (drop 1 bytes))) → taken_by s ≤ length bytes
step_within_rest s bytes some is =
    step_within_at s bytes some (subst (λ rest. s ≡ step_of (found (start_of (get_or bytes 0 0)) (get_or bytes 0 0) rest)) (take_rest bytes 1) is)
