-- What a token can write: no number is past its bound.
use Rattle.std.proofs.Common.{◌≡◌, ℕ, Bool, true, false, List, [], ◌∷◌, length, Option, Some, None, refl, arith}
use Rattle.std.specs.Prelude.{◌^◌, ◌==◌, nat_lt, nat_le, nat_eq, min, if◌then◌else◌, unwrap_or, option_map, bytes_eq, find, drop, codes}
use Rattle.std.specs.List.{list_all, starts_with, position_or_len}
use Rattle.std.specs.Option.{option_map_or, option_or}
use Rattle.std.proofs.lemmas.Bool.{and_parts}
use Rattle.std.proofs.lemmas.Bool.Decides.{nat_tests}
use Rattle.gi_llt.specs.Tokens.{LexemeKind, is_digit, run_of, past_run}
use Rattle.gi_llt.specs.Tokens.{Word as OfWord, Number as OfNumber, Register as OfRegister, Physical as OfPhysical, Global as OfGlobal, Routine as OfRoutine, Quoted as OfQuoted, Metadata as OfMetadata, Mark as OfMark}
use Rattle.gi_llt.specs.declared.Llt.TheVariants.{Scalar}
use Rattle.gi_text.specs.Numbers.{value_after, is_too_great}
use Rattle.gi_mir.specs.Row.{opcode_of}
use Rattle.gi_mir.specs.Routines.{routine_names}
use Rattle.gi_mir.specs.declared.opcode.Opcode.{Opcode}
use Rattle.gi_spelling.specs.Printable.{is_writable_type}
use Rattle.gi_spelling.specs.Words.{is_plain, numeral, greatest_register, greatest_width, greatest_block, words, fixed_word, width_behind, is_pointed_name, numeral_before_name, behind, block_head, word_of, register_token, physical_of, routine_token, marks, mark_token, what_by}
use Rattle.gi_spelling.specs.declared.token.Word.{Word}
use Rattle.gi_spelling.specs.declared.token.Word.TheVariants as word
use Rattle.gi_spelling.specs.declared.token.What.{What}
use Rattle.gi_spelling.specs.declared.token.What.TheVariants as what

-- a word and a token that isn't the name of a global
abbrev pub is_bounded_word : Word → Bool
is_bounded_word (word.Type ty) = is_writable_type ty
is_bounded_word (word.Integer bits) = nat_le bits greatest_width
is_bounded_word (word.BlockHead number) = nat_le number greatest_block
is_bounded_word w = true

abbrev pub is_bounded : What → Bool
is_bounded (what.Word w) = is_bounded_word w
is_bounded (what.Number number plain) = nat_lt number.size (2 ^ 128)
is_bounded (what.Register number) = nat_le number greatest_register
is_bounded (what.Block number) = nat_le number greatest_block
is_bounded (what.Frame number) = nat_le number greatest_register
is_bounded (what.Physical number) = nat_lt number 32
is_bounded (what.Routine place) = nat_lt place (length routine_names)
is_bounded what.Global = false
is_bounded w = true

-- ══ What may be there ══

record Fine {X : Type 0} (p : X → Bool) (o : Option X) : Type 0 where
  all : option_map_or p o true ≡ true

map_fine : {X Y : Type 0} (p : X → Bool) (q : Y → Bool) (f : X → Y) → ((x : X) → p x ≡ true → q (f x) ≡ true) → (o : Option X) → Fine p o → Fine q (option_map f o)
map_fine p q f one None fine = record { all = refl }
map_fine p q f one (Some x) fine = record { all = one x fine.all }

or_fine : {X : Type 0} {p : X → Bool} {a b : Option X} → Fine p a → Fine p b → Fine p (option_or a b)
or_fine {a = None} first second = second
or_fine {a = Some x} first second = record { all = first.all }

unwrap_fine : {X : Type 0} {p : X → Bool} {o : Option X} (d : X) → p d ≡ true → Fine p o → p (unwrap_or o d) ≡ true
unwrap_fine {o = None} d default fine = default
unwrap_fine {o = Some x} d default fine = fine.all

map_or_fine : {X Y : Type 0} (p : X → Bool) (q : Y → Bool) (f : X → Y) → ((x : X) → p x ≡ true → q (f x) ≡ true) → (o : Option X) (d : Y) → Fine p o → q d ≡ true → q (option_map_or f o d) ≡ true
map_or_fine p q f one None d fine default = default
map_or_fine p q f one (Some x) d fine default = one x fine.all

any_fine : {X : Type 0} (o : Option X) → Fine (λ (x : X). true) o
any_fine None = record { all = refl }
any_fine (Some x) = record { all = refl }

then_fine : {X Y : Type 0} (p : Y → Bool) (f : X → Option Y) → ((x : X) → Fine p (f x)) → (o : Option X) → Fine p (option_map_or f o None)
then_fine p f one None = record { all = refl }
then_fine p f one (Some x) = one x

test_fine : {X : Type 0} {p : X → Bool} {o : Option X} (b : Bool) → Fine p o → Fine p (if b then o else None)
test_fine true fine = fine
test_fine false fine = record { all = refl }

find_fine : {X : Type 0} (p test : X → Bool) (xs : List X) → list_all p xs ≡ true → Fine p (find test xs)
find_fine p test [] all = record { all = refl }
find_fine p test (x ∷ xs) all = let parts = and_parts (p x) (list_all p xs) all in chosen (test x) parts.0 (find_fine p test xs parts.1)
  where
    chosen : (t : Bool) → p x ≡ true → Fine p (find test xs) → Fine p (if t then Some x else find test xs)
    chosen true is later = record { all = is }
    chosen false is later = later

-- ══ Numbers ══

abbrev at_most : ℕ → ℕ → Bool
at_most bound n = nat_le n bound

numeral_fine : (bound : ℕ) (bytes : List ℕ) → Fine (at_most bound) (numeral bound bytes)
numeral_fine bound bytes = test_fine (is_plain bytes) (record { all = least (value_after 10 0 bytes) })
  where
    least : (n : ℕ) → nat_le (min n bound) bound ≡ true
    least n = grind (arith, nat_tests)

named_numeral_fine : (bound : ℕ) (bytes : List ℕ) → Fine (at_most bound) (numeral_before_name bound bytes)
named_numeral_fine bound bytes = chosen (is_pointed_name (past_run is_digit bytes))
  where
    chosen : (b : Bool) → Fine (at_most bound) (if b then numeral bound (run_of is_digit bytes) else numeral bound bytes)
    chosen true = numeral_fine bound (run_of is_digit bytes)
    chosen false = numeral_fine bound bytes

width_fine : (first : ℕ) (bytes : List ℕ) → Fine (at_most greatest_width) (width_behind first bytes)
width_fine first [] = record { all = refl }
width_fine first (byte ∷ rest) = test_fine (byte == first) (numeral_fine greatest_width rest)

-- ══ Words ══

abbrev entry_word : List ℕ × Word → Word
entry_word entry = entry.1

fixed_fine : (bytes : List ℕ) → Fine is_bounded_word (fixed_word bytes)
fixed_fine bytes =
    map_fine (λ (entry : List ℕ × Word). is_bounded_word entry.1) is_bounded_word entry_word (λ entry fine. fine) (find (λ (entry : List ℕ × Word). bytes_eq entry.0 bytes) words)
    (find_fine (λ (entry : List ℕ × Word). is_bounded_word entry.1) (λ (entry : List ℕ × Word). bytes_eq entry.0 bytes) words refl)

word_bounded : (bytes : List ℕ) → is_bounded_word (word_of bytes) ≡ true
word_bounded bytes =
    let opcode = map_fine (λ (op : Opcode). true) is_bounded_word (λ (op : Opcode). word.Opcode op) (λ op fine. refl) (opcode_of bytes) (any_fine (opcode_of bytes)) in
    let type = map_fine (at_most greatest_width) is_bounded_word (λ (bits : ℕ). word.Type (Scalar bits)) (λ bits fine. fine) (width_behind 115 bytes) (width_fine 115 bytes) in
    let integer = map_fine (at_most greatest_width) is_bounded_word (λ (bits : ℕ). word.Integer bits) (λ bits fine. fine) (width_behind 105 bytes) (width_fine 105 bytes) in
    let head = map_fine (at_most greatest_block) is_bounded_word (λ (number : ℕ). word.BlockHead number) (λ number fine. fine) (block_head bytes)
    (then_fine (at_most greatest_block) (numeral_before_name greatest_block) (named_numeral_fine greatest_block) (behind (codes "bb.") bytes)) in
    let debug : Fine is_bounded_word (if starts_with nat_eq bytes (codes "DBG_") then Some word.Debug else None) = test_fine (starts_with nat_eq bytes (codes "DBG_")) (record { all = refl }) in
    unwrap_fine word.Unknown refl (or_fine (fixed_fine bytes) (or_fine opcode (or_fine type (or_fine integer (or_fine head debug)))))

-- ══ Tokens ══

register_bounded : (bytes : List ℕ) → is_bounded (register_token bytes) ≡ true
register_bounded bytes =
    let register = map_fine (at_most greatest_register) is_bounded (λ (number : ℕ). what.Register number) (λ number fine. fine) (numeral greatest_register bytes) (numeral_fine greatest_register bytes) in
    let block = map_fine (at_most greatest_block) is_bounded (λ (number : ℕ). what.Block number) (λ number fine. fine) (option_map_or (numeral greatest_block) (behind (codes "bb.") bytes) None)
    (then_fine (at_most greatest_block) (numeral greatest_block) (numeral_fine greatest_block) (behind (codes "bb.") bytes)) in
    let frame = map_fine (at_most greatest_register) is_bounded (λ (number : ℕ). what.Frame number) (λ number fine. fine) (option_map_or (numeral_before_name greatest_register) (behind (codes "stack.") bytes) None)
    (then_fine (at_most greatest_register) (numeral_before_name greatest_register) (named_numeral_fine greatest_register) (behind (codes "stack.") bytes)) in
    unwrap_fine what.Other refl (or_fine register (or_fine block frame))

physical_bounded : (number : Option ℕ) → is_bounded (physical_of number) ≡ true
physical_bounded None = refl
physical_bounded (Some number) = chosen (nat_lt number 32) refl
  where
    chosen : (b : Bool) → nat_lt number 32 ≡ b → is_bounded (if b then what.Physical number else what.Other) ≡ true
    chosen true is = is
    chosen false is = refl

routine_bounded : (bytes : List ℕ) → is_bounded (routine_token bytes) ≡ true
routine_bounded bytes = chosen (nat_lt (position_or_len (bytes_eq bytes) routine_names) (length routine_names)) refl
  where
    chosen : (b : Bool) → nat_lt (position_or_len (bytes_eq bytes) routine_names) (length routine_names) ≡ b
        → is_bounded (option_map_or (λ place. what.Routine place) (if b then Some (position_or_len (bytes_eq bytes) routine_names) else None) what.UnknownRoutine) ≡ true
    chosen true is = is
    chosen false is = refl

mark_bounded : (bytes : List ℕ) → is_bounded (mark_token bytes) ≡ true
mark_bounded [] = refl
mark_bounded (byte ∷ more) =
    map_or_fine (λ (entry : ℕ × What). is_bounded entry.1) is_bounded (λ (entry : ℕ × What). entry.1) (λ entry fine. fine) (find (λ (entry : ℕ × What). entry.0 == byte) marks) what.Other
    (find_fine (λ (entry : ℕ × What). is_bounded entry.1) (λ (entry : ℕ × What). entry.0 == byte) marks refl) refl

abbrev pub is_global_kind : LexemeKind → Bool
is_global_kind OfGlobal = true
is_global_kind kind = false

pub kind_bounded : (kind : LexemeKind) (bytes : List ℕ) → is_too_great kind bytes ≡ false → is_global_kind kind ≡ false → is_bounded (what_by kind bytes) ≡ true
kind_bounded OfWord bytes sized other = word_bounded bytes
kind_bounded OfNumber bytes sized other = grind (arith, nat_tests)
kind_bounded OfRegister bytes sized other = register_bounded (drop 1 bytes)
kind_bounded OfPhysical bytes sized other = physical_bounded (option_map_or (numeral 32) (behind (codes "x") (drop 1 bytes)) None)
kind_bounded OfGlobal bytes sized other = absurd (cc)
kind_bounded OfRoutine bytes sized other = routine_bounded (drop 1 bytes)
kind_bounded OfQuoted bytes sized other = refl
kind_bounded OfMetadata bytes sized other = refl
kind_bounded OfMark bytes sized other = mark_bounded bytes
