-- Rules of the legaliser that widen operations of n bits to w, as rewrites.
use Rattle.std.specs.Prelude.{ℕ, pos, [], ◌∷◌}
use Rattle.gi_llt.specs.Bits.{sign_extended}
use Rattle.gi_mir.specs.declared.opcode.Opcode.{Opcode}
use Rattle.gi_mir.specs.declared.opcode.Opcode.TheVariants as op
use Rattle.gi_mir.specs.declared.operand.Flags.{Flags}
use Rattle.gi_llt.specs.declared.Llt.{Llt}
use Rattle.gi_mir.specs.declared.operand.Operand.TheVariants as operand
use Rattle.gi_mir.specs.declared.operand.Pred.{Pred}
use Rattle.gi_mir.specs.declared.operand.Pred.TheVariants.{Sge, Sgt, Sle, Slt}
use Rattle.gi_rule_values.specs.Data.{RewriteData}
use Rattle.gi_rule_values.specs.Forms.{compare, constant, flagged, in_register, number, on_one, on_two, plain, rewrite, s}
use Rattle.gi_rule_values.specs.declared.rewrite.Slot.TheVariants.{At, Stands}

-- the operands are extended, and the operation is made at w bits and cut back
abbrev pub widen_two : Opcode → (first second : Opcode) → Flags → (n w : ℕ) → RewriteData
widen_two root first second flags n w =
    rewrite (s n ∷ s n ∷ []) [] (flagged flags root (At 0 ∷ At 1 ∷ []) (s n ∷ []))
    (on_one first 0 (s w) ∷ on_one second 1 (s w) ∷ on_two root 2 3 (s w) ∷ on_one op.GenericTruncate 4 (s n) ∷ []) 5

abbrev pub widen_add : Flags → (n w : ℕ) → RewriteData
widen_add flags n w = widen_two op.GenericAdd op.GenericAnyExtend op.GenericAnyExtend flags n w

abbrev pub widen_lshr : Flags → (n w : ℕ) → RewriteData
widen_lshr flags n w = widen_two op.GenericLogicalShiftRight op.GenericZeroExtend op.GenericZeroExtend flags n w

abbrev pub widen_sdiv : Flags → (n w : ℕ) → RewriteData
widen_sdiv flags n w = widen_two op.GenericSignedDivide op.GenericSignExtend op.GenericSignExtend flags n w

-- a constant is extended with its sign, and cut back
abbrev pub widen_constant : Flags → (n w value : ℕ) → RewriteData
widen_constant flags n w value = rewrite [] [] (constant flags n value) (number w (sign_extended n w value) ∷ on_one op.GenericTruncate 0 (s n) ∷ []) 1

abbrev pub widen_sub : Flags → (n w : ℕ) → RewriteData
widen_sub flags n w = widen_two op.GenericSubtract op.GenericAnyExtend op.GenericAnyExtend flags n w

abbrev pub widen_mul : Flags → (n w : ℕ) → RewriteData
widen_mul flags n w = widen_two op.GenericMultiply op.GenericAnyExtend op.GenericAnyExtend flags n w

abbrev pub widen_and : Flags → (n w : ℕ) → RewriteData
widen_and flags n w = widen_two op.GenericAnd op.GenericAnyExtend op.GenericAnyExtend flags n w

abbrev pub widen_or : Flags → (n w : ℕ) → RewriteData
widen_or flags n w = widen_two op.GenericOr op.GenericAnyExtend op.GenericAnyExtend flags n w

abbrev pub widen_xor : Flags → (n w : ℕ) → RewriteData
widen_xor flags n w = widen_two op.GenericXor op.GenericAnyExtend op.GenericAnyExtend flags n w

abbrev pub widen_shl : Flags → (n w : ℕ) → RewriteData
widen_shl flags n w = widen_two op.GenericShiftLeft op.GenericAnyExtend op.GenericZeroExtend flags n w

abbrev pub widen_ashr : Flags → (n w : ℕ) → RewriteData
widen_ashr flags n w = widen_two op.GenericArithmeticShiftRight op.GenericSignExtend op.GenericZeroExtend flags n w

abbrev pub widen_udiv : Flags → (n w : ℕ) → RewriteData
widen_udiv flags n w = widen_two op.GenericUnsignedDivide op.GenericZeroExtend op.GenericZeroExtend flags n w

abbrev pub widen_urem : Flags → (n w : ℕ) → RewriteData
widen_urem flags n w = widen_two op.GenericUnsignedRemainder op.GenericZeroExtend op.GenericZeroExtend flags n w

abbrev pub widen_srem : Flags → (n w : ℕ) → RewriteData
widen_srem flags n w = widen_two op.GenericSignedRemainder op.GenericSignExtend op.GenericSignExtend flags n w

-- ══ Other operations ══

abbrev pub widen_ctpop : Flags → (n w : ℕ) → RewriteData
widen_ctpop flags n w =
    rewrite (s n ∷ []) [] (flagged flags op.GenericPopulationCount (At 0 ∷ []) (s n ∷ []))
    (on_one op.GenericZeroExtend 0 (s w) ∷ on_one op.GenericPopulationCount 1 (s w) ∷ on_one op.GenericTruncate 2 (s n) ∷ []) 3

abbrev pub widen_sext_inreg : Flags → (n w k : ℕ) → RewriteData
widen_sext_inreg flags n w k =
    rewrite (s n ∷ []) [] (flagged flags op.GenericSignExtendInRegister (At 0 ∷ Stands (operand.Int (pos k)) ∷ []) (s n ∷ []))
    (on_one op.GenericAnyExtend 0 (s w) ∷ in_register 1 k (s w) ∷ on_one op.GenericTruncate 2 (s n) ∷ []) 3

-- the values, and a condition of c bits
abbrev pub widen_select : Flags → (c n w : ℕ) → RewriteData
widen_select flags c n w =
    rewrite (s c ∷ s n ∷ s n ∷ []) [] (flagged flags op.GenericSelect (At 0 ∷ At 1 ∷ At 2 ∷ []) (s n ∷ []))
    (on_one op.GenericAnyExtend 1 (s w) ∷ on_one op.GenericAnyExtend 2 (s w)
    ∷ plain op.GenericSelect (At 0 ∷ At 3 ∷ At 4 ∷ []) (s w) ∷ on_one op.GenericTruncate 5 (s n) ∷ []) 6

-- a condition of one bit, extended to a word
abbrev pub widen_condition : Flags → (x : ℕ) → Llt → RewriteData
widen_condition flags x type =
    rewrite (s 1 ∷ type ∷ type ∷ []) [] (flagged flags op.GenericSelect (At 0 ∷ At 1 ∷ At 2 ∷ []) (type ∷ []))
    (on_one op.GenericZeroExtend 0 (s x) ∷ plain op.GenericSelect (At 3 ∷ At 1 ∷ At 2 ∷ []) type ∷ []) 4

-- a comparison's bit, made as a word and cut
abbrev pub widen_icmp_result : Flags → Pred → Llt → (x : ℕ) → RewriteData
widen_icmp_result flags pred type x =
    rewrite (type ∷ type ∷ []) [] (flagged flags op.GenericCompare (Stands (operand.Predicate pred) ∷ At 0 ∷ At 1 ∷ []) (s 1 ∷ []))
    (compare pred 0 1 (s x) ∷ on_one op.GenericTruncate 2 (s 1) ∷ []) 3

-- a comparison's operands, with their signs where it looks at them
abbrev pub extension_for : Pred → Opcode
extension_for Sgt = op.GenericSignExtend
extension_for Sge = op.GenericSignExtend
extension_for Slt = op.GenericSignExtend
extension_for Sle = op.GenericSignExtend
extension_for pred = op.GenericZeroExtend

abbrev pub widen_icmp : Flags → Pred → (n w k : ℕ) → RewriteData
widen_icmp flags pred n w k =
    rewrite (s n ∷ s n ∷ []) [] (flagged flags op.GenericCompare (Stands (operand.Predicate pred) ∷ At 0 ∷ At 1 ∷ []) (s k ∷ []))
    (on_one (extension_for pred) 0 (s w) ∷ on_one (extension_for pred) 1 (s w) ∷ compare pred 2 3 (s k) ∷ []) 4

-- an extension from m bits to k, made to w bits and cut
abbrev pub widen_cast : Opcode → Flags → (m k w : ℕ) → RewriteData
widen_cast cast flags m k w =
    rewrite (s m ∷ []) [] (flagged flags cast (At 0 ∷ []) (s k ∷ [])) (on_one cast 0 (s w) ∷ on_one op.GenericTruncate 1 (s k) ∷ []) 2

abbrev pub widen_implicit_def : Flags → (n w : ℕ) → RewriteData
widen_implicit_def flags n w =
    rewrite [] [] (flagged flags op.GenericImplicitDef [] (s n ∷ [])) (plain op.GenericImplicitDef [] (s w) ∷ on_one op.GenericTruncate 0 (s n) ∷ []) 1
