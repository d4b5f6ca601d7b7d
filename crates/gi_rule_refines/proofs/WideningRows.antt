-- Rules of the legaliser that widen are good.
use Rattle.std.proofs.Common.{◌≡◌, ℕ, ◌*◌, ◌^◌, ◌≤◌, ◌<◌, [], ◌∷◌, true, false, nat_lt, refl, arith, le-leb, lt-ltb}
use Rattle.std.proofs.lemmas.Bool.Decides.{nat_tests}
use Rattle.gi_llt.specs.Bits.{sign_extended, signed, wrapped}
use Rattle.gi_llt.specs.Llt.{width_of}
use Rattle.gi_llt.specs.declared.Llt.{Llt}
use Rattle.gi_mir.specs.Types.{is_any, is_condition}
use Rattle.gi_mir.specs.declared.opcode.Opcode.{Opcode}
use Rattle.gi_mir.specs.declared.opcode.Opcode.TheVariants as op
use Rattle.gi_mir.specs.declared.operand.Flags.{Flags}
use Rattle.gi_mir.specs.declared.operand.Pred.{Pred}
use Rattle.gi_mir.specs.declared.operand.Pred.TheVariants.{Eq, Ne, Sge, Sgt, Sle, Slt, Uge, Ugt, Ule, Ult}
use Rattle.gi_rule_values.specs.Data.{RewriteData}
use Rattle.gi_rule_refines.specs.Stages.{IsGoodRewriteAt}
use Rattle.gi_rule_refines.specs.declared.stages.RuleStage.TheVariants as at
use Rattle.gi_rule_values.specs.Forms.{s}
use Rattle.gi_rule_values.specs.Widening.{extension_for, widen_add, widen_and, widen_ashr, widen_cast, widen_condition, widen_constant, widen_ctpop, widen_icmp, widen_icmp_result, widen_implicit_def, widen_lshr, widen_mul, widen_or, widen_sdiv, widen_select, widen_sext_inreg, widen_shl, widen_srem, widen_sub, widen_udiv, widen_urem, widen_xor}
use Rattle.gi_rule_values.proofs.Numbers.{same}
use Rattle.gi_rule_values.proofs.Widening.{widen_add_sound, widen_constant_sound, widen_lshr_sound, widen_sdiv_sound}
use Rattle.gi_rule_values.proofs.WideningMore.{widen_and_sound, widen_anyext_sound, widen_ashr_sound, widen_condition_sound, widen_ctpop_sound, widen_icmp_result_sound, widen_icmp_sound, widen_implicit_def_sound, widen_mul_sound, widen_or_sound, widen_select_sound, widen_sext_inreg_sound, widen_sext_sound, widen_shl_sound, widen_srem_sound, widen_sub_sound, widen_udiv_sound, widen_urem_sound, widen_xor_sound, widen_zext_sound}
use Rattle.gi_rule_refines.proofs.Passing.{good_by, passes, same_type_itself, word_condition}
use Rattle.gi_meaning.proofs.Numbers.{unsigned_below}
use Rattle.gi_rule_values.specs.Forms.{compare, flagged, on_one, rewrite}
use Rattle.gi_mir.specs.declared.operand.Operand.TheVariants as operand
use Rattle.gi_rule_values.specs.declared.rewrite.Slot.TheVariants.{At, Stands}

-- ══ A comparison's extensions ══

by_extension : (pred : Pred) (claim : Opcode → Type 0) → claim op.GenericZeroExtend → claim op.GenericSignExtend → claim (extension_for pred)
by_extension Eq claim zeros signs = zeros
by_extension Ne claim zeros signs = zeros
by_extension Ugt claim zeros signs = zeros
by_extension Uge claim zeros signs = zeros
by_extension Ult claim zeros signs = zeros
by_extension Ule claim zeros signs = zeros
by_extension Sgt claim zeros signs = signs
by_extension Sge claim zeros signs = signs
by_extension Slt claim zeros signs = signs
by_extension Sle claim zeros signs = signs

-- the row with any extension
abbrev icmp_widened : Opcode → Flags → Pred → (n w k : ℕ) → RewriteData
icmp_widened extend flags pred n w k =
    rewrite (s n ∷ s n ∷ []) [] (flagged flags op.GenericCompare (Stands (operand.Predicate pred) ∷ At 0 ∷ At 1 ∷ []) (s k ∷ []))
    (on_one extend 0 (s w) ∷ on_one extend 1 (s w) ∷ compare pred 2 3 (s k) ∷ []) 4

-- ══ The rows ══

pub widen_add_good : (x : ℕ) (flags : Flags) (n w : ℕ) → 1 ≤ n → n < w → w ≤ 2 * x → IsGoodRewriteAt x at.Before (widen_add flags n w)
widen_add_good x flags n w some less few =
    good_by x at.Before (widen_add flags n w) (rw (same w, le-leb 1 w (omega (arith, some, less)), le-leb w (2 * x) few, lt-ltb 1 w (omega (arith, some, less)), le-leb 1 n some, le-leb n (2 * x) (omega (arith, less, few)), lt-ltb n w less, same n, lt-ltb n (2 * x) (omega (arith, less, few))) refl) (widen_add_sound x flags n w less)

pub widen_lshr_good : (x : ℕ) (flags : Flags) (n w : ℕ) → 1 ≤ n → n < w → w ≤ 2 * x → IsGoodRewriteAt x at.Before (widen_lshr flags n w)
widen_lshr_good x flags n w some less few =
    good_by x at.Before (widen_lshr flags n w) (rw (same w, le-leb 1 w (omega (arith, some, less)), le-leb w (2 * x) few, lt-ltb 1 w (omega (arith, some, less)), le-leb 1 n some, le-leb n (2 * x) (omega (arith, less, few)), lt-ltb n w less, same n, lt-ltb n (2 * x) (omega (arith, less, few)), le-leb n w (omega (arith, less)), le-leb w w (omega arith)) refl) (widen_lshr_sound x flags n w less)

pub widen_constant_good : (x : ℕ) (flags : Flags) (n w value : ℕ) → 1 ≤ n → n < w → w ≤ 2 * x → value < 2 ^ n → IsGoodRewriteAt x at.Before (widen_constant flags n w value)
widen_constant_good x flags n w value some less few fits =
    good_by x at.Before (widen_constant flags n w value) (rw (same w, le-leb 1 w (omega (arith, some, less)), le-leb w (2 * x) few, same n, lt-ltb n (2 * x) (omega (arith, less, few)), le-leb 1 n some, le-leb n (2 * x) (omega (arith, less, few)), lt-ltb n w less, lt-ltb (sign_extended n w value) (2 ^ w) (unsigned_below w (signed n (wrapped n value)))) refl) (widen_constant_sound x flags n w value some less fits)

pub widen_sub_good : (x : ℕ) (flags : Flags) (n w : ℕ) → 1 ≤ n → n < w → w ≤ 2 * x → IsGoodRewriteAt x at.Before (widen_sub flags n w)
widen_sub_good x flags n w some less few =
    good_by x at.Before (widen_sub flags n w) (rw (same w, le-leb 1 w (omega (arith, some, less)), le-leb w (2 * x) few, lt-ltb 1 w (omega (arith, some, less)), le-leb 1 n some, le-leb n (2 * x) (omega (arith, less, few)), lt-ltb n w less, same n, lt-ltb n (2 * x) (omega (arith, less, few))) refl) (widen_sub_sound x flags n w less)

pub widen_mul_good : (x : ℕ) (flags : Flags) (n w : ℕ) → 1 ≤ n → n < w → w ≤ x → IsGoodRewriteAt x at.Before (widen_mul flags n w)
widen_mul_good x flags n w some less few =
    let word : nat_lt x w ≡ false = grind (arith, nat_tests, few) in
    good_by x at.Before (widen_mul flags n w) (rw (word, same w, le-leb 1 w (omega (arith, some, less)), le-leb w (2 * x) (omega (arith, few)), lt-ltb 1 w (omega (arith, some, less)), le-leb 1 n some, le-leb n (2 * x) (omega (arith, less, few)), lt-ltb n w less, same n, lt-ltb n (2 * x) (omega (arith, less, few))) refl) (widen_mul_sound x flags n w less)

pub widen_and_good : (x : ℕ) (flags : Flags) (n w : ℕ) → 1 ≤ n → n < w → w ≤ 2 * x → IsGoodRewriteAt x at.Before (widen_and flags n w)
widen_and_good x flags n w some less few =
    good_by x at.Before (widen_and flags n w) (rw (same w, le-leb 1 w (omega (arith, some, less)), le-leb w (2 * x) few, lt-ltb 1 w (omega (arith, some, less)), le-leb 1 n some, le-leb n (2 * x) (omega (arith, less, few)), lt-ltb n w less, same n, lt-ltb n (2 * x) (omega (arith, less, few)), le-leb w w (omega arith)) refl) (widen_and_sound x flags n w less)

pub widen_or_good : (x : ℕ) (flags : Flags) (n w : ℕ) → 1 ≤ n → n < w → w ≤ 2 * x → IsGoodRewriteAt x at.Before (widen_or flags n w)
widen_or_good x flags n w some less few =
    good_by x at.Before (widen_or flags n w) (rw (same w, le-leb 1 w (omega (arith, some, less)), le-leb w (2 * x) few, lt-ltb 1 w (omega (arith, some, less)), le-leb 1 n some, le-leb n (2 * x) (omega (arith, less, few)), lt-ltb n w less, same n, lt-ltb n (2 * x) (omega (arith, less, few)), le-leb w w (omega arith)) refl) (widen_or_sound x flags n w less)

pub widen_xor_good : (x : ℕ) (flags : Flags) (n w : ℕ) → 1 ≤ n → n < w → w ≤ 2 * x → IsGoodRewriteAt x at.Before (widen_xor flags n w)
widen_xor_good x flags n w some less few =
    good_by x at.Before (widen_xor flags n w) (rw (same w, le-leb 1 w (omega (arith, some, less)), le-leb w (2 * x) few, lt-ltb 1 w (omega (arith, some, less)), le-leb 1 n some, le-leb n (2 * x) (omega (arith, less, few)), lt-ltb n w less, same n, lt-ltb n (2 * x) (omega (arith, less, few)), le-leb w w (omega arith)) refl) (widen_xor_sound x flags n w less)

pub widen_shl_good : (x : ℕ) (flags : Flags) (n w : ℕ) → 1 ≤ n → n < w → w ≤ 2 * x → IsGoodRewriteAt x at.Before (widen_shl flags n w)
widen_shl_good x flags n w some less few =
    good_by x at.Before (widen_shl flags n w) (rw (same w, le-leb 1 w (omega (arith, some, less)), le-leb w (2 * x) few, lt-ltb 1 w (omega (arith, some, less)), le-leb 1 n some, le-leb n (2 * x) (omega (arith, less, few)), lt-ltb n w less, same n, lt-ltb n (2 * x) (omega (arith, less, few)), le-leb n w (omega (arith, less))) refl) (widen_shl_sound x flags n w less)

pub widen_ashr_good : (x : ℕ) (flags : Flags) (n w : ℕ) → 1 ≤ n → n < w → w ≤ 2 * x → IsGoodRewriteAt x at.Before (widen_ashr flags n w)
widen_ashr_good x flags n w some less few =
    good_by x at.Before (widen_ashr flags n w) (rw (same w, le-leb 1 w (omega (arith, some, less)), le-leb w (2 * x) few, lt-ltb 1 w (omega (arith, some, less)), le-leb 1 n some, le-leb n (2 * x) (omega (arith, less, few)), lt-ltb n w less, same n, lt-ltb n (2 * x) (omega (arith, less, few)), le-leb n w (omega (arith, less))) refl) (widen_ashr_sound x flags n w some less)

pub widen_ctpop_good : (x : ℕ) (flags : Flags) (n w : ℕ) → 1 ≤ n → n < w → w ≤ 2 * x → IsGoodRewriteAt x at.Before (widen_ctpop flags n w)
widen_ctpop_good x flags n w some less few =
    good_by x at.Before (widen_ctpop flags n w) (rw (same w, le-leb 1 w (omega (arith, some, less)), le-leb w (2 * x) few, lt-ltb 1 w (omega (arith, some, less)), le-leb 1 n some, le-leb n (2 * x) (omega (arith, less, few)), lt-ltb n w less, same n, lt-ltb n (2 * x) (omega (arith, less, few)), le-leb n w (omega (arith, less)), le-leb w w (omega arith)) refl) (widen_ctpop_sound x flags n w less)

pub widen_sext_inreg_good : (x : ℕ) (flags : Flags) (n w k : ℕ) → 1 ≤ n → n < w → w ≤ 2 * x → k ≤ n → IsGoodRewriteAt x at.Before (widen_sext_inreg flags n w k)
widen_sext_inreg_good x flags n w k some less few within =
    good_by x at.Before (widen_sext_inreg flags n w k) (rw (same w, le-leb 1 w (omega (arith, some, less)), le-leb w (2 * x) few, lt-ltb 1 w (omega (arith, some, less)), le-leb 1 n some, le-leb n (2 * x) (omega (arith, less, few)), lt-ltb n w less, same n, lt-ltb n (2 * x) (omega (arith, less, few))) refl) (widen_sext_inreg_sound x flags n w k within less)

pub widen_select_good : (x : ℕ) (flags : Flags) (c n w : ℕ) → 1 ≤ n → n < w → w ≤ 2 * x → is_condition x (s c) ≡ true → IsGoodRewriteAt x at.Before (widen_select flags c n w)
widen_select_good x flags c n w some less few condition =
    good_by x at.Before (widen_select flags c n w) (rw (same w, le-leb 1 w (omega (arith, some, less)), le-leb w (2 * x) few, lt-ltb 1 w (omega (arith, some, less)), le-leb 1 n some, le-leb n (2 * x) (omega (arith, less, few)), lt-ltb n w less, same n, lt-ltb n (2 * x) (omega (arith, less, few)), condition, le-leb w w (omega arith)) refl) (widen_select_sound x flags c n w less)

pub widen_condition_good : (x : ℕ) (flags : Flags) (type : Llt) → 2 ≤ x → is_any x type ≡ true → IsGoodRewriteAt x at.Before (widen_condition flags x type)
widen_condition_good x flags type some kind =
    good_by x at.Before (widen_condition flags x type) (rw (word_condition x (omega (arith, some)), le-leb 1 x (omega (arith, some)), le-leb x (2 * x) (omega arith), lt-ltb 1 x (omega (arith, some)), le-leb 1 (2 * x) (omega (arith, some)), kind, same_type_itself type, le-leb (width_of x type) (width_of x type) (omega arith)) refl) (widen_condition_sound x flags type)

pub widen_icmp_result_good : (x : ℕ) (flags : Flags) (pred : Pred) (type : Llt) → 2 ≤ x → is_any x type ≡ true → IsGoodRewriteAt x at.Before (widen_icmp_result flags pred type x)
widen_icmp_result_good x flags pred type some kind =
    good_by x at.Before (widen_icmp_result flags pred type x) (rw (word_condition x (omega (arith, some)), le-leb 1 x (omega (arith, some)), le-leb x (2 * x) (omega arith), lt-ltb 1 x (omega (arith, some)), le-leb 1 (2 * x) (omega (arith, some)), lt-ltb 1 (2 * x) (omega (arith, some)), kind, same_type_itself type) refl) (widen_icmp_result_sound x flags pred type)

pub widen_icmp_good : (x : ℕ) (flags : Flags) (pred : Pred) (n w k : ℕ) → 1 ≤ n → n < w → w ≤ 2 * x → 1 ≤ k → is_condition x (s k) ≡ true → IsGoodRewriteAt x at.Before (widen_icmp flags pred n w k)
widen_icmp_good x flags pred n w k some less few bits condition =
    good_by x at.Before (widen_icmp flags pred n w k)
    (by_extension pred (λ extend. passes x at.Before (icmp_widened extend flags pred n w k) ≡ true)
    (rw (condition, same w, le-leb 1 w (omega (arith, some, less)), le-leb w (2 * x) few, lt-ltb 1 w (omega (arith, some, less)), le-leb 1 n some, le-leb n (2 * x) (omega (arith, less, few)), lt-ltb n w less, le-leb n w (omega (arith, less)), lt-ltb 0 k bits, same k) refl)
    (rw (condition, same w, le-leb 1 w (omega (arith, some, less)), le-leb w (2 * x) few, lt-ltb 1 w (omega (arith, some, less)), le-leb 1 n some, le-leb n (2 * x) (omega (arith, less, few)), lt-ltb n w less, lt-ltb 0 k bits, same k) refl)) (widen_icmp_sound x flags pred n w k some less)

pub widen_anyext_good : (x : ℕ) (flags : Flags) (m k w : ℕ) → 1 ≤ m → m < k → k < w → w ≤ 2 * x → IsGoodRewriteAt x at.Before (widen_cast op.GenericAnyExtend flags m k w)
widen_anyext_good x flags m k w some less larger few =
    good_by x at.Before (widen_cast op.GenericAnyExtend flags m k w) (rw (le-leb 1 w (omega (arith, some, less, larger)), le-leb w (2 * x) few, lt-ltb 1 w (omega (arith, some, less, larger)), le-leb 1 m some, le-leb m (2 * x) (omega (arith, less, larger, few)), lt-ltb m w (omega (arith, less, larger)), same k, le-leb 1 k (omega (arith, some, less)), le-leb k (2 * x) (omega (arith, larger, few)), lt-ltb k (2 * x) (omega (arith, larger, few)), lt-ltb k w larger) refl) (widen_anyext_sound x flags m k w less larger)

pub widen_zext_good : (x : ℕ) (flags : Flags) (m k w : ℕ) → 1 ≤ m → m < k → k < w → w ≤ 2 * x → IsGoodRewriteAt x at.Before (widen_cast op.GenericZeroExtend flags m k w)
widen_zext_good x flags m k w some less larger few =
    good_by x at.Before (widen_cast op.GenericZeroExtend flags m k w) (rw (le-leb 1 w (omega (arith, some, less, larger)), le-leb w (2 * x) few, lt-ltb 1 w (omega (arith, some, less, larger)), le-leb 1 m some, le-leb m (2 * x) (omega (arith, less, larger, few)), lt-ltb m w (omega (arith, less, larger)), same k, le-leb 1 k (omega (arith, some, less)), le-leb k (2 * x) (omega (arith, larger, few)), lt-ltb k (2 * x) (omega (arith, larger, few)), lt-ltb k w larger, le-leb m w (omega (arith, less, larger))) refl) (widen_zext_sound x flags m k w less larger)

pub widen_sext_good : (x : ℕ) (flags : Flags) (m k w : ℕ) → 1 ≤ m → m < k → k < w → w ≤ 2 * x → IsGoodRewriteAt x at.Before (widen_cast op.GenericSignExtend flags m k w)
widen_sext_good x flags m k w some less larger few =
    good_by x at.Before (widen_cast op.GenericSignExtend flags m k w) (rw (le-leb 1 w (omega (arith, some, less, larger)), le-leb w (2 * x) few, lt-ltb 1 w (omega (arith, some, less, larger)), le-leb 1 m some, le-leb m (2 * x) (omega (arith, less, larger, few)), lt-ltb m w (omega (arith, less, larger)), same k, le-leb 1 k (omega (arith, some, less)), le-leb k (2 * x) (omega (arith, larger, few)), lt-ltb k (2 * x) (omega (arith, larger, few)), lt-ltb k w larger) refl) (widen_sext_sound x flags m k w less larger)

pub widen_implicit_def_good : (x : ℕ) (flags : Flags) (n w : ℕ) → 1 ≤ n → n < w → w ≤ 2 * x → IsGoodRewriteAt x at.Before (widen_implicit_def flags n w)
widen_implicit_def_good x flags n w some less few =
    good_by x at.Before (widen_implicit_def flags n w) (rw (le-leb 1 w (omega (arith, some, less)), le-leb w (2 * x) few, same n, lt-ltb n (2 * x) (omega (arith, less, few)), le-leb 1 n some, le-leb n (2 * x) (omega (arith, less, few)), lt-ltb n w less) refl) (widen_implicit_def_sound x flags n w)

pub widen_sdiv_good : (x : ℕ) (flags : Flags) (n w : ℕ) → 1 ≤ n → n < w → w ≤ 2 * x → IsGoodRewriteAt x at.Before (widen_sdiv flags n w)
widen_sdiv_good x flags n w some less few =
    good_by x at.Before (widen_sdiv flags n w) (rw (same w, le-leb 1 w (omega (arith, some, less)), le-leb w (2 * x) few, lt-ltb 1 w (omega (arith, some, less)), le-leb 1 n some, le-leb n (2 * x) (omega (arith, less, few)), lt-ltb n w less, same n, lt-ltb n (2 * x) (omega (arith, less, few))) refl) (widen_sdiv_sound x flags n w some less)

pub widen_srem_good : (x : ℕ) (flags : Flags) (n w : ℕ) → 1 ≤ n → n < w → w ≤ 2 * x → IsGoodRewriteAt x at.Before (widen_srem flags n w)
widen_srem_good x flags n w some less few =
    good_by x at.Before (widen_srem flags n w) (rw (same w, le-leb 1 w (omega (arith, some, less)), le-leb w (2 * x) few, lt-ltb 1 w (omega (arith, some, less)), le-leb 1 n some, le-leb n (2 * x) (omega (arith, less, few)), lt-ltb n w less, same n, lt-ltb n (2 * x) (omega (arith, less, few))) refl) (widen_srem_sound x flags n w some less)

pub widen_udiv_good : (x : ℕ) (flags : Flags) (n w : ℕ) → 1 ≤ n → n < w → w ≤ 2 * x → IsGoodRewriteAt x at.Before (widen_udiv flags n w)
widen_udiv_good x flags n w some less few =
    good_by x at.Before (widen_udiv flags n w) (rw (same w, le-leb 1 w (omega (arith, some, less)), le-leb w (2 * x) few, lt-ltb 1 w (omega (arith, some, less)), le-leb 1 n some, le-leb n (2 * x) (omega (arith, less, few)), lt-ltb n w less, same n, lt-ltb n (2 * x) (omega (arith, less, few)), le-leb n w (omega (arith, less)), le-leb w w (omega arith)) refl) (widen_udiv_sound x flags n w less)

pub widen_urem_good : (x : ℕ) (flags : Flags) (n w : ℕ) → 1 ≤ n → n < w → w ≤ 2 * x → IsGoodRewriteAt x at.Before (widen_urem flags n w)
widen_urem_good x flags n w some less few =
    good_by x at.Before (widen_urem flags n w) (rw (same w, le-leb 1 w (omega (arith, some, less)), le-leb w (2 * x) few, lt-ltb 1 w (omega (arith, some, less)), le-leb 1 n some, le-leb n (2 * x) (omega (arith, less, few)), lt-ltb n w less, same n, lt-ltb n (2 * x) (omega (arith, less, few)), le-leb n w (omega (arith, less)), le-leb w w (omega arith)) refl) (widen_urem_sound x flags n w less)
