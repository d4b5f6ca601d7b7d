-- Rules of the combiners as rewrites, at types of n bits. The flags are those of the root, and of the definition that was
-- looked at. Constants are numbers below 2 ^ n.
use Rattle.std.specs.Prelude.{ℕ, ◌-◌, ◌^◌, ◌==◌, if◌then◌else◌, [], ◌∷◌}
use Rattle.gi_llt.specs.Signs.{negated}
use Rattle.gi_llt.specs.declared.Llt.{Llt}
use Rattle.gi_llt.specs.declared.Llt.TheVariants.{Pointer}
use Rattle.gi_mir.specs.declared.opcode.Opcode.{Opcode}
use Rattle.gi_mir.specs.declared.opcode.Opcode.TheVariants as op
use Rattle.gi_mir.specs.declared.operand.Flags.{Flags}
use Rattle.gi_mir.specs.declared.operand.Pred.{Pred}
use Rattle.gi_mir.specs.declared.operand.Operand.TheVariants as operand
use Rattle.gi_rule_values.specs.Data.{OperationData, RewriteData}
use Rattle.gi_rule_values.specs.Forms.{constant, flagged, holds, number, on_one, on_two, rewrite, s}
use Rattle.gi_rule_values.specs.declared.rewrite.Slot.TheVariants.{At, Stands}

-- two registers of n bits, the second a constant
abbrev pub by_constant : Flags → Flags → Opcode → (n c : ℕ) → OperationData → RewriteData
by_constant flags more root n c made =
    rewrite (s n ∷ s n ∷ []) (holds 1 (constant more n c) ∷ []) (flagged flags root (At 0 ∷ At 1 ∷ []) (s n ∷ [])) (made ∷ []) 2

-- the same with a constant of its own in what is made
abbrev pub by_another : Flags → Flags → Opcode → (n c : ℕ) → (another : ℕ) → Opcode → RewriteData
by_another flags more root n c another made =
    rewrite (s n ∷ s n ∷ []) (holds 1 (constant more n c) ∷ []) (flagged flags root (At 0 ∷ At 1 ∷ []) (s n ∷ []))
    (number n another ∷ on_two made 0 2 (s n) ∷ []) 3

-- G_MUL x, 2 ^ k: G_SHL x, k
abbrev pub mul_to_shl : Flags → Flags → (n k : ℕ) → RewriteData
mul_to_shl flags more n k = by_another flags more op.GenericMultiply n (2 ^ k) k op.GenericShiftLeft

-- G_UDIV x, 2 ^ k: G_LSHR x, k
abbrev pub udiv_to_lshr : Flags → Flags → (n k : ℕ) → RewriteData
udiv_to_lshr flags more n k = by_another flags more op.GenericUnsignedDivide n (2 ^ k) k op.GenericLogicalShiftRight

-- G_SUB x, c: G_ADD x, -c
abbrev pub sub_to_add : Flags → Flags → (n c : ℕ) → RewriteData
sub_to_add flags more n c = by_another flags more op.GenericSubtract n c (negated n c) op.GenericAdd

-- G_UREM x, 2 ^ k: G_AND x, 2 ^ k - 1
abbrev pub urem_to_mask : Flags → Flags → (n k : ℕ) → RewriteData
urem_to_mask flags more n k = by_another flags more op.GenericUnsignedRemainder n (2 ^ k) (2 ^ k - 1) op.GenericAnd

-- x with 0, or with 1: x
abbrev pub right_identity : Opcode → Flags → Flags → (n c : ℕ) → RewriteData
right_identity root flags more n c = by_constant flags more root n c (on_one op.Copy 0 (s n))

-- G_PTR_ADD p, 0: p
abbrev pub pointer_identity : Flags → Flags → (x : ℕ) → RewriteData
pointer_identity flags more x =
    rewrite (Pointer ∷ s x ∷ []) (holds 1 (constant more x 0) ∷ []) (flagged flags op.GenericPointerAdd (At 0 ∷ At 1 ∷ []) (Pointer ∷ []))
    (on_one op.Copy 0 Pointer ∷ []) 2

-- G_SUB x, x and G_XOR x, x: 0
abbrev pub same_to_zero : Opcode → Flags → (n : ℕ) → RewriteData
same_to_zero root flags n = rewrite (s n ∷ []) [] (flagged flags root (At 0 ∷ At 0 ∷ []) (s n ∷ [])) (number n 0 ∷ []) 1

-- G_TRUNC of an extension of x from n bits to m, back to n bits: x
abbrev pub cut_extension : Opcode → Flags → Flags → (n m : ℕ) → RewriteData
cut_extension extend flags more n m =
    rewrite (s n ∷ s m ∷ []) (holds 1 (flagged more extend (At 0 ∷ []) (s m ∷ [])) ∷ []) (flagged flags op.GenericTruncate (At 1 ∷ []) (s n ∷ []))
    (on_one op.Copy 0 (s n) ∷ []) 2

-- G_MUL x, 0 and G_AND x, 0: the zero
abbrev pub binop_to_zero : Opcode → Flags → Flags → (n : ℕ) → RewriteData
binop_to_zero root flags more n = by_constant flags more root n 0 (on_one op.Copy 1 (s n))

-- G_AND x, x and G_OR x, x: x
abbrev pub binop_same : Opcode → Flags → (n : ℕ) → RewriteData
binop_same root flags n = rewrite (s n ∷ []) [] (flagged flags root (At 0 ∷ At 0 ∷ []) (s n ∷ [])) (on_one op.Copy 0 (s n) ∷ []) 1

-- G_SELECT c, x, x: x
abbrev pub select_same : Flags → (c : ℕ) → Llt → RewriteData
select_same flags c type =
    rewrite (s c ∷ type ∷ []) [] (flagged flags op.GenericSelect (At 0 ∷ At 1 ∷ At 1 ∷ []) (type ∷ [])) (on_one op.Copy 1 type ∷ []) 2

-- G_SELECT of a constant: the value that it takes
abbrev pub select_constant : Flags → Flags → (c value : ℕ) → Llt → RewriteData
select_constant flags more c value type =
    rewrite (s c ∷ type ∷ type ∷ []) (holds 0 (constant more c value) ∷ []) (flagged flags op.GenericSelect (At 0 ∷ At 1 ∷ At 2 ∷ []) (type ∷ []))
    (on_one op.Copy (if value == 0 then 2 else 1) type ∷ []) 3

-- G_AND x, 1, where x is a comparison's result: x
abbrev pub icmp_and_one : Flags → Flags → Flags → Pred → Llt → (n : ℕ) → RewriteData
icmp_and_one flags more other pred type n =
    rewrite (s n ∷ s n ∷ type ∷ type ∷ [])
    (holds 0 (flagged more op.GenericCompare (Stands (operand.Predicate pred) ∷ At 2 ∷ At 3 ∷ []) (s n ∷ [])) ∷ holds 1 (constant other n 1) ∷ [])
    (flagged flags op.GenericAnd (At 0 ∷ At 1 ∷ []) (s n ∷ [])) (on_one op.Copy 0 (s n) ∷ []) 4

-- ══ Folds ══

-- an operation on two constants is the constant that it gives
abbrev pub constant_fold : Opcode → Flags → Flags → Flags → (l a m b n value : ℕ) → RewriteData
constant_fold root flags first second l a m b n value =
    rewrite (s l ∷ s m ∷ []) (holds 0 (constant first l a) ∷ holds 1 (constant second m b) ∷ []) (flagged flags root (At 0 ∷ At 1 ∷ []) (s n ∷ []))
    (number n value ∷ []) 2

-- a cast of a constant of m bits
abbrev pub constant_fold_cast : Opcode → Flags → Flags → (m c n value : ℕ) → RewriteData
constant_fold_cast cast flags more m c n value =
    rewrite (s m ∷ []) (holds 0 (constant more m c) ∷ []) (flagged flags cast (At 0 ∷ []) (s n ∷ [])) (number n value ∷ []) 1
