-- Rules of the combiners are good.
use Rattle.std.proofs.Common.{if◌then◌else◌, ◌≡◌, ℕ, ◌-◌, ◌*◌, ◌^◌, ◌≤◌, ◌<◌, ◌==◌, List, [], ◌∷◌, true, false, refl, arith, le-leb, lt-ltb, Bool}
use Rattle.gi_llt.specs.Bits.{sign_extended, signed, wrapped}
use Rattle.gi_llt.specs.Signs.{negated}
use Rattle.gi_llt.specs.declared.Llt.{Llt}
use Rattle.gi_meaning.specs.Argument.{Argument, Value}
use Rattle.gi_meaning.specs.Given.{Given, one}
use Rattle.gi_meaning.specs.Meaning.{Generic, meaning_of}
use Rattle.gi_mir.specs.Types.{is_any}
use Rattle.gi_mir.specs.declared.opcode.Opcode.{Opcode}
use Rattle.gi_mir.specs.declared.opcode.Opcode.TheVariants as op
use Rattle.gi_mir.specs.declared.operand.Flags.{Flags}
use Rattle.gi_mir.specs.declared.operand.Pred.{Pred}
use Rattle.gi_rule_values.specs.Data.{RewriteData}
use Rattle.gi_rule_refines.specs.Stages.{IsGoodRewriteAt}
use Rattle.gi_rule_refines.specs.declared.stages.RuleStage.TheVariants as at
use Rattle.gi_change_valid.specs.Numbers.{computes}
use Rattle.gi_rule_values.specs.Combining.{binop_same, binop_to_zero, constant_fold, constant_fold_cast, cut_extension, icmp_and_one, mul_to_shl, pointer_identity, right_identity, same_to_zero, select_constant, select_same, sub_to_add, udiv_to_lshr, urem_to_mask}
use Rattle.gi_rule_values.specs.Forms.{s, constant, flagged, holds, on_one, rewrite}
use Rattle.gi_rule_values.proofs.Combining.{add_zero_sound, ashr_zero_sound, cut_anyext_sound, cut_sext_sound, cut_zext_sound, lshr_zero_sound, mul_one_sound, mul_to_shl_sound, or_zero_sound, pointer_identity_sound, sdiv_one_sound, shl_zero_sound, sub_same_sound, sub_to_add_sound, sub_zero_sound, udiv_one_sound, udiv_to_lshr_sound, urem_to_mask_sound, xor_same_sound, xor_zero_sound}
use Rattle.gi_rule_values.proofs.CombiningMore.{and_same_sound, and_zero_sound, constant_fold_sound, fold_anyext_sound, fold_sext_sound, fold_trunc_sound, fold_zext_sound, icmp_and_one_sound, mul_zero_sound, or_same_sound, select_constant_sound, select_same_sound}
use Rattle.gi_rule_values.proofs.Numbers.{below_power, below_wider, same}
use Rattle.gi_rule_refines.proofs.Passing.{good_by, mask_below, negated_below, passes, same_type_itself}
use Rattle.std.proofs.lemmas.Nat.{mod_below, pow_pos}
use Rattle.gi_meaning.proofs.Numbers.{unsigned_below}
use Rattle.gi_rule_values.specs.declared.rewrite.Slot.TheVariants.{At}

-- ══ A choice ══

-- the row with any place
abbrev constant_selected : (place : ℕ) → Flags → Flags → (c value : ℕ) → Llt → RewriteData
constant_selected place flags more c value type =
    rewrite (s c ∷ type ∷ type ∷ []) (holds 0 (constant more c value) ∷ []) (flagged flags op.GenericSelect (At 0 ∷ At 1 ∷ At 2 ∷ []) (type ∷ []))
    (on_one op.Copy place type ∷ []) 3

chosen : (claim : ℕ → Type 0) (none : Bool) → claim 2 → claim 1 → claim (if none then 2 else 1)
chosen claim true second first = second
chosen claim false second first = first

pub select_constant_good : (x : ℕ) (flags more : Flags) (c value : ℕ) (type : Llt) → is_any x type ≡ true → IsGoodRewriteAt x at.Before (select_constant flags more c value type)
select_constant_good x flags more c value type kind =
    good_by x at.Before (select_constant flags more c value type)
    (chosen (λ place. passes x at.Before (constant_selected place flags more c value type) ≡ true) (value == 0) (rw (kind, same_type_itself type) refl) (rw (kind, same_type_itself type) refl))
    (select_constant_sound x flags more c value type)

-- ══ The other rows ══

pub mul_to_shl_good : (x : ℕ) (flags more : Flags) (n k : ℕ) → 1 ≤ n → n ≤ 2 * x → k < n → IsGoodRewriteAt x at.Before (mul_to_shl flags more n k)
mul_to_shl_good x flags more n k some few less =
    good_by x at.Before (mul_to_shl flags more n k) (rw (same n, le-leb 1 n some, le-leb n (2 * x) few, lt-ltb k (2 ^ n) (omega (arith, less, below_power n))) refl) (mul_to_shl_sound x flags more n k less)

pub sub_to_add_good : (x : ℕ) (flags more : Flags) (n c : ℕ) → 1 ≤ n → n ≤ 2 * x → c < 2 ^ n → IsGoodRewriteAt x at.Before (sub_to_add flags more n c)
sub_to_add_good x flags more n c some few less =
    good_by x at.Before (sub_to_add flags more n c) (rw (same n, le-leb 1 n some, le-leb n (2 * x) few, lt-ltb (negated n c) (2 ^ n) (negated_below n c)) refl) (sub_to_add_sound x flags more n c less)

pub udiv_to_lshr_good : (x : ℕ) (flags more : Flags) (n k : ℕ) → 1 ≤ n → n ≤ 2 * x → k < n → IsGoodRewriteAt x at.Before (udiv_to_lshr flags more n k)
udiv_to_lshr_good x flags more n k some few less =
    good_by x at.Before (udiv_to_lshr flags more n k) (rw (same n, le-leb 1 n some, le-leb n (2 * x) few, lt-ltb k (2 ^ n) (omega (arith, less, below_power n)), le-leb n n (omega arith)) refl) (udiv_to_lshr_sound x flags more n k less)

pub urem_to_mask_good : (x : ℕ) (flags more : Flags) (n k : ℕ) → 1 ≤ n → n ≤ 2 * x → k < n → IsGoodRewriteAt x at.Before (urem_to_mask flags more n k)
urem_to_mask_good x flags more n k some few less =
    good_by x at.Before (urem_to_mask flags more n k) (rw (same n, le-leb 1 n some, le-leb n (2 * x) few, lt-ltb (2 ^ k - 1) (2 ^ n) (mask_below k n (omega (arith, less))), le-leb n n (omega arith)) refl) (urem_to_mask_sound x flags more n k)

pub add_zero_good : (x : ℕ) (flags more : Flags) (n : ℕ) → 1 ≤ n → n ≤ 2 * x → IsGoodRewriteAt x at.Before (right_identity op.GenericAdd flags more n 0)
add_zero_good x flags more n some few =
    good_by x at.Before (right_identity op.GenericAdd flags more n 0) (rw (same n, le-leb 1 n some, le-leb n (2 * x) few) refl) (add_zero_sound x flags more n)

pub sub_zero_good : (x : ℕ) (flags more : Flags) (n : ℕ) → 1 ≤ n → n ≤ 2 * x → IsGoodRewriteAt x at.Before (right_identity op.GenericSubtract flags more n 0)
sub_zero_good x flags more n some few =
    good_by x at.Before (right_identity op.GenericSubtract flags more n 0) (rw (same n, le-leb 1 n some, le-leb n (2 * x) few) refl) (sub_zero_sound x flags more n)

pub or_zero_good : (x : ℕ) (flags more : Flags) (n : ℕ) → 1 ≤ n → n ≤ 2 * x → IsGoodRewriteAt x at.Before (right_identity op.GenericOr flags more n 0)
or_zero_good x flags more n some few =
    good_by x at.Before (right_identity op.GenericOr flags more n 0) (rw (same n, le-leb 1 n some, le-leb n (2 * x) few) refl) (or_zero_sound x flags more n)

pub xor_zero_good : (x : ℕ) (flags more : Flags) (n : ℕ) → 1 ≤ n → n ≤ 2 * x → IsGoodRewriteAt x at.Before (right_identity op.GenericXor flags more n 0)
xor_zero_good x flags more n some few =
    good_by x at.Before (right_identity op.GenericXor flags more n 0) (rw (same n, le-leb 1 n some, le-leb n (2 * x) few) refl) (xor_zero_sound x flags more n)

pub shl_zero_good : (x : ℕ) (flags more : Flags) (n : ℕ) → 1 ≤ n → n ≤ 2 * x → IsGoodRewriteAt x at.Before (right_identity op.GenericShiftLeft flags more n 0)
shl_zero_good x flags more n some few =
    good_by x at.Before (right_identity op.GenericShiftLeft flags more n 0) (rw (same n, le-leb 1 n some, le-leb n (2 * x) few) refl) (shl_zero_sound x flags more n some)

pub lshr_zero_good : (x : ℕ) (flags more : Flags) (n : ℕ) → 1 ≤ n → n ≤ 2 * x → IsGoodRewriteAt x at.Before (right_identity op.GenericLogicalShiftRight flags more n 0)
lshr_zero_good x flags more n some few =
    good_by x at.Before (right_identity op.GenericLogicalShiftRight flags more n 0) (rw (same n, le-leb 1 n some, le-leb n (2 * x) few) refl) (lshr_zero_sound x flags more n some)

pub ashr_zero_good : (x : ℕ) (flags more : Flags) (n : ℕ) → 1 ≤ n → n ≤ 2 * x → IsGoodRewriteAt x at.Before (right_identity op.GenericArithmeticShiftRight flags more n 0)
ashr_zero_good x flags more n some few =
    good_by x at.Before (right_identity op.GenericArithmeticShiftRight flags more n 0) (rw (same n, le-leb 1 n some, le-leb n (2 * x) few) refl) (ashr_zero_sound x flags more n some)

pub mul_one_good : (x : ℕ) (flags more : Flags) (n : ℕ) → 1 ≤ n → n ≤ 2 * x → IsGoodRewriteAt x at.Before (right_identity op.GenericMultiply flags more n 1)
mul_one_good x flags more n some few =
    good_by x at.Before (right_identity op.GenericMultiply flags more n 1) (rw (same n, le-leb 1 n some, le-leb n (2 * x) few) refl) (mul_one_sound x flags more n)

pub udiv_one_good : (x : ℕ) (flags more : Flags) (n : ℕ) → 1 ≤ n → n ≤ 2 * x → IsGoodRewriteAt x at.Before (right_identity op.GenericUnsignedDivide flags more n 1)
udiv_one_good x flags more n some few =
    good_by x at.Before (right_identity op.GenericUnsignedDivide flags more n 1) (rw (same n, le-leb 1 n some, le-leb n (2 * x) few) refl) (udiv_one_sound x flags more n)

pub sdiv_one_good : (x : ℕ) (flags more : Flags) (n : ℕ) → 2 ≤ n → n ≤ 2 * x → IsGoodRewriteAt x at.Before (right_identity op.GenericSignedDivide flags more n 1)
sdiv_one_good x flags more n some few =
    good_by x at.Before (right_identity op.GenericSignedDivide flags more n 1) (rw (same n, le-leb 1 n (omega (arith, some)), le-leb n (2 * x) few) refl) (sdiv_one_sound x flags more n some)

pub pointer_identity_good : (x : ℕ) (flags more : Flags) → IsGoodRewriteAt x at.Before (pointer_identity flags more x)
pointer_identity_good x flags more = good_by x at.Before (pointer_identity flags more x) refl (pointer_identity_sound x flags more)

pub sub_same_good : (x : ℕ) (flags : Flags) (n : ℕ) → 1 ≤ n → n ≤ 2 * x → IsGoodRewriteAt x at.Before (same_to_zero op.GenericSubtract flags n)
sub_same_good x flags n some few =
    good_by x at.Before (same_to_zero op.GenericSubtract flags n) (rw (same n, le-leb 1 n some, le-leb n (2 * x) few, lt-ltb 0 (2 ^ n) (pow_pos n)) refl) (sub_same_sound x flags n)

pub xor_same_good : (x : ℕ) (flags : Flags) (n : ℕ) → 1 ≤ n → n ≤ 2 * x → IsGoodRewriteAt x at.Before (same_to_zero op.GenericXor flags n)
xor_same_good x flags n some few =
    good_by x at.Before (same_to_zero op.GenericXor flags n) (rw (same n, le-leb 1 n some, le-leb n (2 * x) few, lt-ltb 0 (2 ^ n) (pow_pos n)) refl) (xor_same_sound x flags n)

pub cut_anyext_good : (x : ℕ) (flags more : Flags) (n m : ℕ) → 1 ≤ n → n < m → m ≤ 2 * x → IsGoodRewriteAt x at.Before (cut_extension op.GenericAnyExtend flags more n m)
cut_anyext_good x flags more n m some less few =
    good_by x at.Before (cut_extension op.GenericAnyExtend flags more n m) (rw (same n, le-leb 1 n some, le-leb n (2 * x) (omega (arith, less, few))) refl) (cut_anyext_sound x flags more n m less)

pub cut_zext_good : (x : ℕ) (flags more : Flags) (n m : ℕ) → 1 ≤ n → n < m → m ≤ 2 * x → IsGoodRewriteAt x at.Before (cut_extension op.GenericZeroExtend flags more n m)
cut_zext_good x flags more n m some less few =
    good_by x at.Before (cut_extension op.GenericZeroExtend flags more n m) (rw (same n, le-leb 1 n some, le-leb n (2 * x) (omega (arith, less, few))) refl) (cut_zext_sound x flags more n m less)

pub cut_sext_good : (x : ℕ) (flags more : Flags) (n m : ℕ) → 1 ≤ n → n < m → m ≤ 2 * x → IsGoodRewriteAt x at.Before (cut_extension op.GenericSignExtend flags more n m)
cut_sext_good x flags more n m some less few =
    good_by x at.Before (cut_extension op.GenericSignExtend flags more n m) (rw (same n, le-leb 1 n some, le-leb n (2 * x) (omega (arith, less, few))) refl) (cut_sext_sound x flags more n m some less)

pub mul_zero_good : (x : ℕ) (flags more : Flags) (n : ℕ) → 1 ≤ n → n ≤ 2 * x → IsGoodRewriteAt x at.Before (binop_to_zero op.GenericMultiply flags more n)
mul_zero_good x flags more n some few =
    good_by x at.Before (binop_to_zero op.GenericMultiply flags more n) (rw (same n, le-leb 1 n some, le-leb n (2 * x) few) refl) (mul_zero_sound x flags more n)

pub and_zero_good : (x : ℕ) (flags more : Flags) (n : ℕ) → 1 ≤ n → n ≤ 2 * x → IsGoodRewriteAt x at.Before (binop_to_zero op.GenericAnd flags more n)
and_zero_good x flags more n some few =
    good_by x at.Before (binop_to_zero op.GenericAnd flags more n) (rw (same n, le-leb 1 n some, le-leb n (2 * x) few) refl) (and_zero_sound x flags more n)

pub and_same_good : (x : ℕ) (flags : Flags) (n : ℕ) → 1 ≤ n → n ≤ 2 * x → IsGoodRewriteAt x at.Before (binop_same op.GenericAnd flags n)
and_same_good x flags n some few =
    good_by x at.Before (binop_same op.GenericAnd flags n) (rw (same n, le-leb 1 n some, le-leb n (2 * x) few) refl) (and_same_sound x flags n)

pub or_same_good : (x : ℕ) (flags : Flags) (n : ℕ) → 1 ≤ n → n ≤ 2 * x → IsGoodRewriteAt x at.Before (binop_same op.GenericOr flags n)
or_same_good x flags n some few =
    good_by x at.Before (binop_same op.GenericOr flags n) (rw (same n, le-leb 1 n some, le-leb n (2 * x) few) refl) (or_same_sound x flags n)

pub select_same_good : (x : ℕ) (flags : Flags) (c : ℕ) (type : Llt) → is_any x type ≡ true → IsGoodRewriteAt x at.Before (select_same flags c type)
select_same_good x flags c type kind = good_by x at.Before (select_same flags c type) (rw (kind, same_type_itself type) refl) (select_same_sound x flags c type)

pub icmp_and_one_good : (x : ℕ) (flags more other : Flags) (pred : Pred) (type : Llt) (n : ℕ) → 1 ≤ n → n ≤ 2 * x → IsGoodRewriteAt x at.Before (icmp_and_one flags more other pred type n)
icmp_and_one_good x flags more other pred type n some few =
    good_by x at.Before (icmp_and_one flags more other pred type n) (rw (same n, le-leb 1 n some, le-leb n (2 * x) few) refl) (icmp_and_one_sound x flags more other pred type n)

pub fold_trunc_good : (x : ℕ) (flags more : Flags) (m c n : ℕ) → 1 ≤ n → n ≤ 2 * x → IsGoodRewriteAt x at.Before (constant_fold_cast op.GenericTruncate flags more m c n (wrapped n c))
fold_trunc_good x flags more m c n some few =
    good_by x at.Before (constant_fold_cast op.GenericTruncate flags more m c n (wrapped n c)) (rw (same n, le-leb 1 n some, le-leb n (2 * x) few, lt-ltb (wrapped n c) (2 ^ n) (mod_below c (2 ^ n) (pow_pos n))) refl) (fold_trunc_sound x flags more m c n)

pub fold_zext_good : (x : ℕ) (flags more : Flags) (m c n : ℕ) → m < n → n ≤ 2 * x → c < 2 ^ m → IsGoodRewriteAt x at.Before (constant_fold_cast op.GenericZeroExtend flags more m c n c)
fold_zext_good x flags more m c n less few fits =
    good_by x at.Before (constant_fold_cast op.GenericZeroExtend flags more m c n c) (rw (same n, le-leb 1 n (omega (arith, less, few, fits)), le-leb n (2 * x) few, lt-ltb c (2 ^ n) (below_wider m n c (omega (arith, less)) fits)) refl) (fold_zext_sound x flags more m c n less)

pub fold_sext_good : (x : ℕ) (flags more : Flags) (m c n : ℕ) → 1 ≤ n → n ≤ 2 * x → IsGoodRewriteAt x at.Before (constant_fold_cast op.GenericSignExtend flags more m c n (sign_extended m n c))
fold_sext_good x flags more m c n some few =
    good_by x at.Before (constant_fold_cast op.GenericSignExtend flags more m c n (sign_extended m n c)) (rw (same n, le-leb 1 n some, le-leb n (2 * x) few, lt-ltb (sign_extended m n c) (2 ^ n) (unsigned_below n (signed m (wrapped m c)))) refl) (fold_sext_sound x flags more m c n)

pub fold_anyext_good : (x : ℕ) (flags more : Flags) (m c n : ℕ) → 1 ≤ m → m < n → n ≤ 2 * x → IsGoodRewriteAt x at.Before (constant_fold_cast op.GenericAnyExtend flags more m c n (sign_extended m n c))
fold_anyext_good x flags more m c n some less few =
    good_by x at.Before (constant_fold_cast op.GenericAnyExtend flags more m c n (sign_extended m n c)) (rw (same n, le-leb 1 n (omega (arith, some, less)), le-leb n (2 * x) few, lt-ltb (sign_extended m n c) (2 ^ n) (unsigned_below n (signed m (wrapped m c)))) refl) (fold_anyext_sound x flags more m c n some less)

pub constant_fold_good : (x : ℕ) (root : Opcode) (flags first second : Flags) (l a m b n value : ℕ) (gives : List ℕ → List Argument → Given) → 1 ≤ n → n ≤ 2 * x → value < 2 ^ n → computes root ≡ true → meaning_of flags root ≡ Generic gives → gives (n ∷ []) (Value l a ∷ Value m b ∷ []) ≡ one value → IsGoodRewriteAt x at.Before (constant_fold root flags first second l a m b n value)
constant_fold_good x root flags first second l a m b n value gives some few fits plain_op means gives_it =
    good_by x at.Before (constant_fold root flags first second l a m b n value) (rw (same n, le-leb 1 n some, le-leb n (2 * x) few, lt-ltb value (2 ^ n) fits, plain_op, means) refl) (constant_fold_sound x root flags first second l a m b n value gives means gives_it)
