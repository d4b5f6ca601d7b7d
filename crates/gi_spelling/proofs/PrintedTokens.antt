-- What the tokens of printed lines are.
use Rattle.std.proofs.Common.{◌≡◌, ℕ, ◌+◌, ◌^◌, ◌<◌, true, List, [], ◌∷◌, ◌++◌, Some, map, refl, ap, ◌∙◌, arith}
use Rattle.std.specs.Prelude.{decimal, codes, nat_lt}
use Rattle.std.specs.List.{list_all}
use Rattle.std.proofs.lemmas.Bool.{and_parts}
use Rattle.std.proofs.lemmas.Bool.Decides.{nat_tests}
use Rattle.gi_llt.specs.Tokens.{lexeme, Register, Physical, is_digit, past_run, Piece, Spaces, piece_bytes, piece_lexemes, IsApart}
use Rattle.gi_llt.proofs.Pieces.{tokens_of-pieces}
use Rattle.gi_llt.proofs.Apart.{is_digits, decimal_digits}
use Rattle.gi_mir.specs.Row.{opcode_of}
use Rattle.gi_spelling.specs.declared.token.Word.TheVariants as word
use Rattle.gi_spelling.specs.declared.token.What.{What}
use Rattle.gi_spelling.specs.declared.token.What.TheVariants as what
use Rattle.gi_spelling.specs.Words.{what_of, whats, numeral_before_name, word_of}
use Rattle.gi_spelling.specs.Printed.{listed, block_pieces, physical_pieces, block_head_pieces, successors_pieces, liveins_pieces}
use Rattle.gi_spelling.specs.Spelling.{word_what, listed_whats, block_whats, physical_whats}
use Rattle.gi_spelling.proofs.Numerals.{numeral-decimal}
use Rattle.gi_spelling.proofs.PlacedLines.{is_sized, Reads}
use Rattle.gi_spelling.proofs.BlockLines.{head_apart, successors_apart, liveins_apart}

-- ══ Tokens with a number ══

pub register_is : (n : ℕ) → n < 4294967295 → what_of (lexeme Register (37 ∷ decimal n)) ≡ what.Register n
register_is n within = rw (numeral-decimal 4294967294 n (omega arith) (omega arith)) refl

pub physical_is : (n : ℕ) → nat_lt n 32 ≡ true → what_of (lexeme Physical (36 ∷ 120 ∷ decimal n)) ≡ what.Physical n
physical_is n within =
    let small : n < 32 = grind (arith, nat_tests) in
    rw (numeral-decimal 32 n (omega arith) (omega arith), within) refl

pub block_is : (n : ℕ) → n < 4294901760 → what_of (lexeme Register (codes "%bb." ++ decimal n)) ≡ what.Block n
block_is n within = rw (numeral-decimal 4294901759 n (omega arith) (omega arith)) refl

past_digits : (bytes : List ℕ) → list_all is_digit bytes ≡ true → past_run is_digit bytes ≡ []
past_digits [] all = refl
past_digits (byte ∷ bytes) all =
    let parts = and_parts (is_digit byte) (list_all is_digit bytes) all in
    rw parts.0 (past_digits bytes parts.1)

all_digits : (bytes : List ℕ) → is_digits bytes ≡ true → list_all is_digit bytes ≡ true
all_digits [] some = refl
all_digits (byte ∷ bytes) some = some

pub numeral_alone : (bound n : ℕ) → n < 10 ^ 64 → n < bound + 1 → numeral_before_name bound (decimal n) ≡ Some n
numeral_alone bound n within small = rw (past_digits (decimal n) (all_digits (decimal n) (decimal_digits n))) (numeral-decimal bound n within small)

pub head_is : (n : ℕ) → n < 4294901760 → word_of (codes "bb." ++ decimal n) ≡ word.BlockHead n
unfolding opcode_of
head_is n within = rw (numeral_alone 4294901759 n (omega arith) (omega arith)) refl

-- ══ Lines ══

-- a line of pieces, some spaces in
pub reads_pieces : (count : ℕ) (pieces : List Piece) (ws : List What) → IsApart pieces → list_all is_sized (piece_lexemes pieces) ≡ true → whats (piece_lexemes pieces) ≡ ws
    → Reads (piece_bytes (Spaces count ∷ pieces)) ws
reads_pieces count pieces ws apart sized same = record { lexemes = piece_lexemes pieces; read = tokens_of-pieces (Spaces count ∷ pieces) apart; sized = sized; same = same }

pub reads_head : (place : ℕ) → place < 4294901760 → Reads (piece_bytes (Spaces 2 ∷ block_head_pieces place)) (word_what (word.BlockHead place) ∷ what.Colon ∷ [])
reads_head place within =
    reads_pieces 2 (block_head_pieces place) (word_what (word.BlockHead place) ∷ what.Colon ∷ []) (head_apart place) refl
    (ap (λ w. word_what w ∷ what.Colon ∷ []) (head_is place within))

blocks_whats : (numbers : List ℕ) → list_all (λ n. nat_lt n 4294901760) numbers ≡ true → whats (piece_lexemes (listed (block_pieces numbers))) ≡ listed_whats (map block_whats numbers)
blocks_whats [] below = refl
blocks_whats (n ∷ []) below =
    let first : nat_lt n 4294901760 ≡ true = (and_parts (nat_lt n 4294901760) true below).0 in
    let within : n < 4294901760 = grind (arith, nat_tests) in
    ap (λ w. w ∷ []) (block_is n within)
blocks_whats (n ∷ next ∷ numbers) below =
    let parts = and_parts (nat_lt n 4294901760) (list_all (λ n. nat_lt n 4294901760) (next ∷ numbers)) below in
    let first : nat_lt n 4294901760 ≡ true = parts.0 in
    let within : n < 4294901760 = grind (arith, nat_tests) in
    ap (λ w. w ∷ what.Comma ∷ whats (piece_lexemes (listed (block_pieces (next ∷ numbers))))) (block_is n within)
    ∙ ap (λ ws. what.Block n ∷ what.Comma ∷ ws) (blocks_whats (next ∷ numbers) parts.1)

blocks_sized : (numbers : List ℕ) → list_all is_sized (piece_lexemes (listed (block_pieces numbers))) ≡ true
blocks_sized [] = refl
blocks_sized (n ∷ []) = refl
blocks_sized (n ∷ next ∷ numbers) = blocks_sized (next ∷ numbers)

physicals_whats : (numbers : List ℕ) → list_all (λ n. nat_lt n 32) numbers ≡ true → whats (piece_lexemes (listed (physical_pieces numbers))) ≡ listed_whats (map physical_whats numbers)
physicals_whats [] below = refl
physicals_whats (n ∷ []) below = ap (λ w. w ∷ []) (physical_is n (and_parts (nat_lt n 32) true below).0)
physicals_whats (n ∷ next ∷ numbers) below =
    let parts = and_parts (nat_lt n 32) (list_all (λ n. nat_lt n 32) (next ∷ numbers)) below in
    ap (λ w. w ∷ what.Comma ∷ whats (piece_lexemes (listed (physical_pieces (next ∷ numbers))))) (physical_is n parts.0)
    ∙ ap (λ ws. what.Physical n ∷ what.Comma ∷ ws) (physicals_whats (next ∷ numbers) parts.1)

physicals_sized : (numbers : List ℕ) → list_all is_sized (piece_lexemes (listed (physical_pieces numbers))) ≡ true
physicals_sized [] = refl
physicals_sized (n ∷ []) = refl
physicals_sized (n ∷ next ∷ numbers) = physicals_sized (next ∷ numbers)

pub reads_successors : (numbers : List ℕ) → list_all (λ n. nat_lt n 4294901760) numbers ≡ true
    → Reads (piece_bytes (Spaces 4 ∷ successors_pieces numbers)) (word_what word.Successors ∷ what.Colon ∷ listed_whats (map block_whats numbers))
reads_successors [] below = reads_pieces 4 (successors_pieces []) (word_what word.Successors ∷ what.Colon ∷ []) (successors_apart []) refl refl
reads_successors (n ∷ numbers) below =
    reads_pieces 4 (successors_pieces (n ∷ numbers)) (word_what word.Successors ∷ what.Colon ∷ listed_whats (map block_whats (n ∷ numbers))) (successors_apart (n ∷ numbers))
    (blocks_sized (n ∷ numbers)) (ap (λ ws. word_what word.Successors ∷ what.Colon ∷ ws) (blocks_whats (n ∷ numbers) below))

pub reads_liveins : (number : ℕ) (numbers : List ℕ) → list_all (λ n. nat_lt n 32) (number ∷ numbers) ≡ true
    → Reads (piece_bytes (Spaces 4 ∷ liveins_pieces (number ∷ numbers))) (word_what word.Liveins ∷ what.Colon ∷ listed_whats (map physical_whats (number ∷ numbers)))
reads_liveins n numbers below =
    reads_pieces 4 (liveins_pieces (n ∷ numbers)) (word_what word.Liveins ∷ what.Colon ∷ listed_whats (map physical_whats (n ∷ numbers))) (liveins_apart (n ∷ numbers))
    (physicals_sized (n ∷ numbers)) (ap (λ ws. word_what word.Liveins ∷ what.Colon ∷ ws) (physicals_whats (n ∷ numbers) below))
