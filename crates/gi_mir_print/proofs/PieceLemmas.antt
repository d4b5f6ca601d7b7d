-- The bytes of pieces in a row.
use Rattle.std.proofs.Common.{◌≡◌, ℕ, ◌-◌, ◌^◌, ◌<◌, ◌≤◌, Bool, true, false, List, [], ◌∷◌, ◌++◌, Some, refl, sym, ap, ◌∙◌, append_assoc, append-nil, arith}
use Rattle.std.specs.Prelude.{codes, decimal, replicate, nat_lt, pos, neg_ℤ, if◌then◌else◌}
use Rattle.std.specs.Fmt.{signed_decimal}
use Rattle.std.proofs.Math.Nat.{pow-le-pow_right}
use Rattle.std.proofs.lemmas.Bool.{ltb-true, ltb-false, lt-ltb}
use Rattle.gi_llt.specs.Bits.{signed}
use Rattle.gi_llt.specs.Tokens.{Piece, Token, Spaces, piece_bytes}
use Rattle.gi_llt.specs.declared.Llt.{Llt}
use Rattle.gi_llt.specs.declared.Llt.TheVariants.{Scalar, Pointer}
use Rattle.gi_mir.specs.declared.operand.MemOp.{MemOp}
use Rattle.gi_spelling.specs.Printed.{type_piece, mark, bracketed, align_pieces, usual_align, memory_pieces, listed, sources_pieces, defined_pieces}

pub piece_bytes_append : (ps qs : List Piece) → piece_bytes (ps ++ qs) ≡ piece_bytes ps ++ piece_bytes qs
piece_bytes_append [] qs = refl
piece_bytes_append (Token t ∷ ps) qs = ap (λ bs. t.bytes ++ bs) (piece_bytes_append ps qs) ∙ sym (append_assoc t.bytes (piece_bytes ps) (piece_bytes qs))
piece_bytes_append (Spaces n ∷ ps) qs = ap (λ bs. replicate n 32 ++ bs) (piece_bytes_append ps qs) ∙ sym (append_assoc (replicate n 32) (piece_bytes ps) (piece_bytes qs))

-- the bytes of a type
abbrev pub type_bytes : Llt → List ℕ
type_bytes (Scalar bits) = 115 ∷ decimal bits
type_bytes Pointer = codes "p0"

pub type_first : (ty : Llt) (ps : List Piece) → piece_bytes (type_piece ty ∷ ps) ≡ type_bytes ty ++ piece_bytes ps
type_first (Scalar bits) ps = refl
type_first Pointer ps = refl

bracketed_more : (ty : Llt) (more : List Piece) → piece_bytes (type_piece ty ∷ mark 41 ∷ (more ++ (mark 41 ∷ [])))
    ≡ piece_bytes (type_piece ty ∷ mark 41 ∷ []) ++ (piece_bytes more ++ (41 ∷ []))
bracketed_more ty more =
    type_first ty (mark 41 ∷ (more ++ (mark 41 ∷ [])))
    ∙ ap (λ bs. type_bytes ty ++ (41 ∷ bs)) (piece_bytes_append more (mark 41 ∷ []))
    ∙ sym (append_assoc (type_bytes ty) (41 ∷ []) (piece_bytes more ++ (41 ∷ [])))
    ∙ ap (λ bs. bs ++ (piece_bytes more ++ (41 ∷ []))) (sym (type_first ty (mark 41 ∷ [])))

-- the bytes of a memory operand
pub access_bytes : (memory : MemOp) → (codes " :: (" ++ ((if memory.load then codes "load" else codes "store") ++ (32 ∷ [])))
    ++ (piece_bytes (bracketed (type_piece memory.ty ∷ [])) ++ (piece_bytes (align_pieces memory.align (usual_align memory.ty)) ++ (41 ∷ [])))
    ≡ piece_bytes (memory_pieces (Some memory))
access_bytes memory =
    ap (λ bs. codes " :: (" ++ bs) (append_assoc (if memory.load then codes "load" else codes "store") (32 ∷ [])
    (piece_bytes (bracketed (type_piece memory.ty ∷ [])) ++ (piece_bytes (align_pieces memory.align (usual_align memory.ty)) ++ (41 ∷ []))))
    ∙ sym (ap (λ bs. codes " :: (" ++ ((if memory.load then codes "load" else codes "store") ++ (32 ∷ 40 ∷ bs)))
    (bracketed_more memory.ty (align_pieces memory.align (usual_align memory.ty))))

-- pieces with bytes before the first, and `, ` before each other
abbrev pub led : (lead : List ℕ) → List (List Piece) → List ℕ
led lead [] = []
led lead (cell ∷ cells) = lead ++ (piece_bytes cell ++ led (codes ", ") cells)

pub listed_led : (cells : List (List Piece)) → piece_bytes (listed cells) ≡ led [] cells
listed_led [] = refl
listed_led (first ∷ []) = sym (append-nil (piece_bytes first))
listed_led (first ∷ second ∷ more) =
    piece_bytes_append first (mark 44 ∷ Spaces 1 ∷ listed (second ∷ more))
    ∙ ap (λ bs. piece_bytes first ++ (44 ∷ 32 ∷ bs)) (listed_led (second ∷ more))

pub sources_led : (cells : List (List Piece)) → piece_bytes (sources_pieces cells) ≡ led (codes " ") cells
sources_led [] = refl
sources_led (first ∷ more) = ap (λ bs. 32 ∷ bs) (listed_led (first ∷ more))

-- what stands before a name, and what ends the definitions
abbrev pub equals_sign : {X : Type 0} → List X → List ℕ
equals_sign [] = []
equals_sign (first ∷ more) = codes " = "

pub defined_led : (cells : List (List Piece)) → piece_bytes (defined_pieces cells) ≡ led [] cells ++ equals_sign cells
defined_led [] = refl
defined_led (first ∷ more) =
    piece_bytes_append (listed (first ∷ more)) (Spaces 1 ∷ mark 61 ∷ Spaces 1 ∷ [])
    ∙ ap (λ bs. bs ++ (32 ∷ 61 ∷ 32 ∷ [])) (listed_led (first ∷ more))

-- a value of no bits is 0
none_at : (value : ℕ) (b : Bool) → nat_lt value 1 ≡ b → signed_decimal (if b then pos value else neg_ℤ (pos (1 - value))) ≡ decimal 0
none_at value true h = let z : value ≡ 0 = omega (arith, ltb-true value 1 h) in rw z refl
none_at value false h = let z : 1 - value ≡ 0 = omega (arith, ltb-false value 1 h) in rw z refl

pub signed_none : (value : ℕ) → signed_decimal (signed 0 value) ≡ decimal 0
signed_none value = none_at value (nat_lt value 1) refl

-- a value of more bits than any number has is never below 0
pub signed_wide : (bits value : ℕ) → 128 < bits → value < 2 ^ 128 → signed bits value ≡ pos value
signed_wide bits value wide small =
    let two : 0 < 2 = omega arith in
    let far : 128 ≤ bits - 1 = omega arith in
    let above : 2 ^ 128 ≤ 2 ^ (bits - 1) = pow-le-pow_right two far in
    let below : value < 2 ^ (bits - 1) = omega (arith, small, above) in
    ap (λ b. if b then pos value else neg_ℤ (pos (2 ^ bits - value))) (lt-ltb value (2 ^ (bits - 1)) below)
