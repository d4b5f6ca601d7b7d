-- Rules of the legaliser that make an operation of others are good.
use Rattle.std.proofs.Common.{◌≡◌, ◌⊎◌, ℕ, ◌-◌, ◌*◌, ◌/◌, ◌%◌, ◌^◌, ◌≤◌, ◌<◌, true, refl, arith, le-leb, lt-ltb}
use Rattle.gi_mir.specs.Types.{is_condition, is_rotatable}
use Rattle.gi_mir.specs.declared.opcode.Opcode.TheVariants as op
use Rattle.gi_mir.specs.declared.operand.Flags.{Flags}
use Rattle.gi_mir.specs.declared.operand.Pred.TheVariants.{Sgt, Slt, Ugt, Ult}
use Rattle.gi_rule_refines.specs.Stages.{IsGoodRewriteAt}
use Rattle.gi_rule_refines.specs.declared.stages.RuleStage.TheVariants as at
use Rattle.gi_rule_values.specs.Forms.{s}
use Rattle.gi_rule_values.specs.Lowering.{lower_abs, lower_better, lower_bswap_32, lower_bswap_64, lower_ctpop_32, lower_ctpop_64, lower_rotate, lower_sext_inreg, lower_uadde, lower_uaddo, lower_usube, lower_usubo, lower_zero_undef, narrow_add, narrow_anyext, narrow_bswap, narrow_constant, narrow_implicit_def, narrow_logic, narrow_select, narrow_sub, narrow_zext}
use Rattle.gi_rule_values.proofs.Halves.{narrow_add_sound, narrow_anyext_sound, narrow_bswap_sound, narrow_constant_sound, narrow_implicit_def_sound, narrow_select_sound, narrow_sub_sound, narrow_zext_sound}
use Rattle.gi_rule_values.proofs.Lowering.{lower_abs_sound, lower_bswap_32_sound, lower_bswap_64_sound, lower_ctpop_32_sound, lower_ctpop_64_sound, lower_uadde_sound, narrow_and_sound, narrow_or_sound, narrow_xor_sound}
use Rattle.gi_rule_values.proofs.LoweringMore.{lower_ctlz_zero_undef_sound, lower_cttz_zero_undef_sound, lower_rotl_sound, lower_rotr_sound, lower_sext_inreg_sound, lower_smax_sound, lower_smin_sound, lower_uaddo_sound, lower_umax_sound, lower_umin_sound, lower_usube_sound, lower_usubo_sound}
use Rattle.gi_rule_values.proofs.Numbers.{below_power, same}
use Rattle.gi_rule_refines.proofs.Passing.{at_words, at_words_if, good_by, high_below, word_condition, word_some}
use Rattle.std.proofs.lemmas.Nat.{mod_below, pow_pos}

pub lower_uadde_good : (x : ℕ) (flags : Flags) (n : ℕ) → 2 ≤ n → n ≤ 2 * x → IsGoodRewriteAt x at.Before (lower_uadde flags n)
lower_uadde_good x flags n some few =
    good_by x at.Before (lower_uadde flags n) (rw (same n, lt-ltb 1 n (omega (arith, some)), le-leb 1 n (omega (arith, some)), le-leb n (2 * x) few, le-leb 1 (2 * x) (omega (arith, some, few))) refl) (lower_uadde_sound x flags n (omega (arith, some)))

pub lower_abs_good : (x : ℕ) (flags : Flags) (n : ℕ) → 1 ≤ n → n ≤ 2 * x → IsGoodRewriteAt x at.Before (lower_abs flags n)
lower_abs_good x flags n some few =
    good_by x at.Before (lower_abs flags n) (rw (same n, le-leb 1 n some, le-leb n (2 * x) few, lt-ltb (n - 1) (2 ^ n) (omega (arith, some, below_power n)), le-leb n n (omega arith)) refl) (lower_abs_sound x flags n some)

pub narrow_and_good : (x : ℕ) (flags : Flags) → (x ≡ 32) ⊎ (x ≡ 64) → IsGoodRewriteAt x at.Before (narrow_logic op.GenericAnd flags x)
narrow_and_good x flags word = at_words at.Before (λ x. narrow_logic op.GenericAnd flags x) refl refl x word (narrow_and_sound x flags)

pub narrow_or_good : (x : ℕ) (flags : Flags) → (x ≡ 32) ⊎ (x ≡ 64) → IsGoodRewriteAt x at.Before (narrow_logic op.GenericOr flags x)
narrow_or_good x flags word = at_words at.Before (λ x. narrow_logic op.GenericOr flags x) refl refl x word (narrow_or_sound x flags)

pub narrow_xor_good : (x : ℕ) (flags : Flags) → (x ≡ 32) ⊎ (x ≡ 64) → IsGoodRewriteAt x at.Before (narrow_logic op.GenericXor flags x)
narrow_xor_good x flags word = at_words at.Before (λ x. narrow_logic op.GenericXor flags x) refl refl x word (narrow_xor_sound x flags)

pub lower_bswap_32_good : (x : ℕ) (flags : Flags) → (x ≡ 32) ⊎ (x ≡ 64) → IsGoodRewriteAt x at.Before (lower_bswap_32 flags)
lower_bswap_32_good x flags word = at_words at.Before (λ x. lower_bswap_32 flags) refl refl x word (lower_bswap_32_sound x flags)

pub lower_bswap_64_good : (x : ℕ) (flags : Flags) → (x ≡ 32) ⊎ (x ≡ 64) → IsGoodRewriteAt x at.Before (lower_bswap_64 flags)
lower_bswap_64_good x flags word = at_words at.Before (λ x. lower_bswap_64 flags) refl refl x word (lower_bswap_64_sound x flags)

pub lower_ctpop_32_good : (x : ℕ) (flags : Flags) → (x ≡ 32) ⊎ (x ≡ 64) → IsGoodRewriteAt x at.Before (lower_ctpop_32 flags)
lower_ctpop_32_good x flags word = at_words at.Before (λ x. lower_ctpop_32 flags) refl refl x word (lower_ctpop_32_sound x flags)

pub lower_ctpop_64_good : (flags : Flags) → IsGoodRewriteAt 64 at.Before (lower_ctpop_64 flags)
lower_ctpop_64_good flags = good_by 64 at.Before (lower_ctpop_64 flags) refl (lower_ctpop_64_sound 64 flags)

pub lower_uaddo_good : (x : ℕ) (flags : Flags) (n : ℕ) → 1 ≤ n → n ≤ 2 * x → IsGoodRewriteAt x at.Before (lower_uaddo flags n)
lower_uaddo_good x flags n some few = good_by x at.Before (lower_uaddo flags n) (rw (same n, le-leb 1 n some, le-leb n (2 * x) few) refl) (lower_uaddo_sound x flags n)

pub lower_usubo_good : (x : ℕ) (flags : Flags) (n : ℕ) → 1 ≤ n → n ≤ 2 * x → IsGoodRewriteAt x at.Before (lower_usubo flags n)
lower_usubo_good x flags n some few = good_by x at.Before (lower_usubo flags n) (rw (same n, le-leb 1 n some, le-leb n (2 * x) few) refl) (lower_usubo_sound x flags n)

pub lower_usube_good : (x : ℕ) (flags : Flags) (n : ℕ) → 2 ≤ n → n ≤ 2 * x → IsGoodRewriteAt x at.Before (lower_usube flags n)
lower_usube_good x flags n some few =
    good_by x at.Before (lower_usube flags n) (rw (same n, lt-ltb 1 n (omega (arith, some)), le-leb 1 n (omega (arith, some)), le-leb n (2 * x) few, le-leb 1 (2 * x) (omega (arith, some, few))) refl) (lower_usube_sound x flags n (omega (arith, some)))

pub lower_smin_good : (x : ℕ) (flags : Flags) (n : ℕ) → 1 ≤ x → 1 ≤ n → n ≤ 2 * x → IsGoodRewriteAt x at.Before (lower_better op.GenericSignedMinimum Slt flags x n)
lower_smin_good x flags n word some few =
    good_by x at.Before (lower_better op.GenericSignedMinimum Slt flags x n) (rw (word_condition x word, le-leb 1 x word, same n, le-leb 1 n some, le-leb n (2 * x) few, le-leb n n (omega arith)) refl) (lower_smin_sound x flags n)

pub lower_smax_good : (x : ℕ) (flags : Flags) (n : ℕ) → 1 ≤ x → 1 ≤ n → n ≤ 2 * x → IsGoodRewriteAt x at.Before (lower_better op.GenericSignedMaximum Sgt flags x n)
lower_smax_good x flags n word some few =
    good_by x at.Before (lower_better op.GenericSignedMaximum Sgt flags x n) (rw (word_condition x word, le-leb 1 x word, same n, le-leb 1 n some, le-leb n (2 * x) few, le-leb n n (omega arith)) refl) (lower_smax_sound x flags n)

pub lower_umin_good : (x : ℕ) (flags : Flags) (n : ℕ) → 1 ≤ x → 1 ≤ n → n ≤ 2 * x → IsGoodRewriteAt x at.Before (lower_better op.GenericUnsignedMinimum Ult flags x n)
lower_umin_good x flags n word some few =
    good_by x at.Before (lower_better op.GenericUnsignedMinimum Ult flags x n) (rw (word_condition x word, le-leb 1 x word, same n, le-leb 1 n some, le-leb n (2 * x) few, le-leb n n (omega arith)) refl) (lower_umin_sound x flags n)

pub lower_umax_good : (x : ℕ) (flags : Flags) (n : ℕ) → 1 ≤ x → 1 ≤ n → n ≤ 2 * x → IsGoodRewriteAt x at.Before (lower_better op.GenericUnsignedMaximum Ugt flags x n)
lower_umax_good x flags n word some few =
    good_by x at.Before (lower_better op.GenericUnsignedMaximum Ugt flags x n) (rw (word_condition x word, le-leb 1 x word, same n, le-leb 1 n some, le-leb n (2 * x) few, le-leb n n (omega arith)) refl) (lower_umax_sound x flags n)

pub lower_rotl_good : (x : ℕ) (flags : Flags) (n : ℕ) → is_rotatable x (s n) ≡ true → IsGoodRewriteAt x at.Before (lower_rotate op.GenericRotateLeft op.GenericFunnelShiftLeft flags n)
lower_rotl_good x flags n kind =
    good_by x at.Before (lower_rotate op.GenericRotateLeft op.GenericFunnelShiftLeft flags n) (rw (kind, same n) refl) (lower_rotl_sound x flags n)

pub lower_rotr_good : (x : ℕ) (flags : Flags) (n : ℕ) → is_rotatable x (s n) ≡ true → IsGoodRewriteAt x at.Before (lower_rotate op.GenericRotateRight op.GenericFunnelShiftRight flags n)
lower_rotr_good x flags n kind =
    good_by x at.Before (lower_rotate op.GenericRotateRight op.GenericFunnelShiftRight flags n) (rw (kind, same n) refl) (lower_rotr_sound x flags n)

pub lower_ctlz_zero_undef_good : (x : ℕ) (flags : Flags) (n : ℕ) → 1 ≤ n → n ≤ 2 * x → IsGoodRewriteAt x at.Before (lower_zero_undef op.GenericCountLeadingZerosNotOfZero op.GenericCountLeadingZeros flags n)
lower_ctlz_zero_undef_good x flags n some few =
    good_by x at.Before (lower_zero_undef op.GenericCountLeadingZerosNotOfZero op.GenericCountLeadingZeros flags n) (rw (same n, le-leb 1 n some, le-leb n (2 * x) few, le-leb n n (omega arith)) refl) (lower_ctlz_zero_undef_sound x flags n)

pub lower_cttz_zero_undef_good : (x : ℕ) (flags : Flags) (n : ℕ) → 1 ≤ n → n ≤ 2 * x → IsGoodRewriteAt x at.Before (lower_zero_undef op.GenericCountTrailingZerosNotOfZero op.GenericCountTrailingZeros flags n)
lower_cttz_zero_undef_good x flags n some few =
    good_by x at.Before (lower_zero_undef op.GenericCountTrailingZerosNotOfZero op.GenericCountTrailingZeros flags n) (rw (same n, le-leb 1 n some, le-leb n (2 * x) few, le-leb n n (omega arith)) refl) (lower_cttz_zero_undef_sound x flags n)

pub lower_sext_inreg_good : (x : ℕ) (flags : Flags) (k : ℕ) → 1 ≤ k → k ≤ x → IsGoodRewriteAt x at.Before (lower_sext_inreg flags x k)
lower_sext_inreg_good x flags k some within =
    good_by x at.Before (lower_sext_inreg flags x k) (rw (same x, le-leb 1 x (omega (arith, some, within)), le-leb x (2 * x) (omega arith), lt-ltb (x - k) (2 ^ x) (omega (arith, below_power x))) refl) (lower_sext_inreg_sound x flags k some within)

pub narrow_add_good : (x : ℕ) (flags : Flags) → (x ≡ 32) ⊎ (x ≡ 64) → IsGoodRewriteAt x at.Before (narrow_add flags x)
narrow_add_good x flags word = at_words at.Before (λ x. narrow_add flags x) refl refl x word (narrow_add_sound x flags)

pub narrow_sub_good : (x : ℕ) (flags : Flags) → (x ≡ 32) ⊎ (x ≡ 64) → IsGoodRewriteAt x at.Before (narrow_sub flags x)
narrow_sub_good x flags word = at_words at.Before (λ x. narrow_sub flags x) refl refl x word (narrow_sub_sound x flags)

pub narrow_select_good : (x : ℕ) (flags : Flags) (c : ℕ) → (x ≡ 32) ⊎ (x ≡ 64) → is_condition x (s c) ≡ true → IsGoodRewriteAt x at.Before (narrow_select flags c x)
narrow_select_good x flags c word condition = at_words_if at.Before (λ x. narrow_select flags c x) (λ x. is_condition x (s c) ≡ true) (λ is. rw is refl) (λ is. rw is refl) x word condition (narrow_select_sound x flags c)

pub narrow_zext_good : (x : ℕ) (flags : Flags) → (x ≡ 32) ⊎ (x ≡ 64) → IsGoodRewriteAt x at.Before (narrow_zext flags x)
narrow_zext_good x flags word = at_words at.Before (λ x. narrow_zext flags x) refl refl x word (narrow_zext_sound x flags (word_some x word))

pub narrow_anyext_good : (x : ℕ) (flags : Flags) → (x ≡ 32) ⊎ (x ≡ 64) → IsGoodRewriteAt x at.Before (narrow_anyext flags x)
narrow_anyext_good x flags word = at_words at.Before (λ x. narrow_anyext flags x) refl refl x word (narrow_anyext_sound x flags (word_some x word))

pub narrow_implicit_def_good : (x : ℕ) (flags : Flags) → (x ≡ 32) ⊎ (x ≡ 64) → IsGoodRewriteAt x at.Before (narrow_implicit_def flags x)
narrow_implicit_def_good x flags word = at_words at.Before (λ x. narrow_implicit_def flags x) refl refl x word (narrow_implicit_def_sound x flags)

pub narrow_constant_good : (x : ℕ) (flags : Flags) (value : ℕ) → (x ≡ 32) ⊎ (x ≡ 64) → value < 2 ^ (2 * x) → IsGoodRewriteAt x at.Before (narrow_constant flags x value)
narrow_constant_good x flags value word fits =
    at_words_if at.Before (λ x. narrow_constant flags x value) (λ x. value < 2 ^ (2 * x))
    (λ less. rw (lt-ltb (value % 2 ^ 32) (2 ^ 32) (mod_below value (2 ^ 32) (pow_pos 32)), lt-ltb (value / 2 ^ 32) (2 ^ 32) (high_below 32 value less)) refl)
    (λ less. rw (lt-ltb (value % 2 ^ 64) (2 ^ 64) (mod_below value (2 ^ 64) (pow_pos 64)), lt-ltb (value / 2 ^ 64) (2 ^ 64) (high_below 64 value less)) refl) x word fits (narrow_constant_sound x flags value fits)

pub narrow_bswap_good : (x : ℕ) (flags : Flags) → (x ≡ 32) ⊎ (x ≡ 64) → IsGoodRewriteAt x at.Before (narrow_bswap flags 32)
narrow_bswap_good x flags word = at_words at.Before (λ x. narrow_bswap flags 32) refl refl x word (narrow_bswap_sound x flags)
