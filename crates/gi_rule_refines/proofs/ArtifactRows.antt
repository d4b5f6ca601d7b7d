-- Rules of the legaliser for casts and parts are good.
use Rattle.std.proofs.Common.{◌≡◌, ℕ, ◌-◌, ◌*◌, ◌^◌, ◌≤◌, ◌<◌, true, refl, arith, le-leb, lt-ltb}
use Rattle.gi_llt.specs.declared.Llt.{Llt}
use Rattle.gi_mir.specs.Types.{is_any}
use Rattle.gi_mir.specs.declared.opcode.Opcode.TheVariants as op
use Rattle.gi_mir.specs.declared.operand.Flags.{Flags}
use Rattle.gi_rule_refines.specs.Stages.{IsGoodRewriteAt}
use Rattle.gi_rule_refines.specs.declared.stages.RuleStage.TheVariants as at
use Rattle.gi_rule_values.specs.Artifacts.{anyext_of_trunc_narrower, anyext_of_trunc_same, anyext_of_trunc_wider, freeze_to_copy, sext_of_trunc_narrower, sext_of_trunc_same, sext_of_trunc_wider, trunc_of_merge, trunc_of_trunc, zext_of_trunc_narrower, zext_of_trunc_same, zext_of_trunc_wider}
use Rattle.gi_rule_values.proofs.Artifacts.{anyext_of_trunc_narrower_sound, anyext_of_trunc_same_sound, anyext_of_trunc_wider_sound, freeze_to_copy_sound, sext_of_trunc_narrower_sound, sext_of_trunc_same_sound, sext_of_trunc_wider_sound, trunc_of_trunc_sound, zext_of_trunc_narrower_sound, zext_of_trunc_same_sound, zext_of_trunc_wider_sound}
use Rattle.gi_rule_values.proofs.Halves.{trunc_of_merge_narrower_sound, trunc_of_merge_same_sound}
use Rattle.gi_rule_values.proofs.Numbers.{same}
use Rattle.gi_rule_refines.proofs.Passing.{good_by, mask_below, same_type_itself}

pub freeze_to_copy_good : (x : ℕ) (flags : Flags) (type : Llt) → is_any x type ≡ true → IsGoodRewriteAt x at.Before (freeze_to_copy flags type)
freeze_to_copy_good x flags type kind = good_by x at.Before (freeze_to_copy flags type) (rw (kind, same_type_itself type) refl) (freeze_to_copy_sound x flags type)

pub trunc_of_trunc_good : (x : ℕ) (flags more : Flags) (m w k : ℕ) → 1 ≤ k → k ≤ m → m < w → w ≤ 2 * x → IsGoodRewriteAt x at.Before (trunc_of_trunc flags more m w k)
trunc_of_trunc_good x flags more m w k some less larger few =
    good_by x at.Before (trunc_of_trunc flags more m w k) (rw (same k, le-leb 1 k some, le-leb k (2 * x) (omega (arith, less, larger, few)), lt-ltb k (2 * x) (omega (arith, less, larger, few)), le-leb 1 w (omega (arith, some, less, larger)), le-leb w (2 * x) few, lt-ltb k w (omega (arith, less, larger))) refl) (trunc_of_trunc_sound x flags more m w k less)

pub anyext_of_trunc_same_good : (x : ℕ) (flags more : Flags) (m k : ℕ) → m < k → k ≤ 2 * x → IsGoodRewriteAt x at.Before (anyext_of_trunc_same flags more m k)
anyext_of_trunc_same_good x flags more m k less few =
    good_by x at.Before (anyext_of_trunc_same flags more m k) (rw (same k, le-leb 1 k (omega (arith, less, few)), le-leb k (2 * x) few) refl) (anyext_of_trunc_same_sound x flags more m k less)

pub anyext_of_trunc_narrower_good : (x : ℕ) (flags more : Flags) (m w k : ℕ) → m < k → k < w → w ≤ 2 * x → IsGoodRewriteAt x at.Before (anyext_of_trunc_narrower flags more m w k)
anyext_of_trunc_narrower_good x flags more m w k less larger few =
    good_by x at.Before (anyext_of_trunc_narrower flags more m w k) (rw (same k, le-leb 1 k (omega (arith, less, larger, few)), le-leb k (2 * x) (omega (arith, larger, few)), lt-ltb k (2 * x) (omega (arith, larger, few)), le-leb 1 w (omega (arith, less, larger, few)), le-leb w (2 * x) few, lt-ltb k w larger) refl) (anyext_of_trunc_narrower_sound x flags more m w k less larger)

pub anyext_of_trunc_wider_good : (x : ℕ) (flags more : Flags) (m w k : ℕ) → 1 ≤ m → m < w → w < k → k ≤ 2 * x → IsGoodRewriteAt x at.Before (anyext_of_trunc_wider flags more m w k)
anyext_of_trunc_wider_good x flags more m w k some less larger few =
    good_by x at.Before (anyext_of_trunc_wider flags more m w k) (rw (same k, le-leb 1 k (omega (arith, some, less, larger)), le-leb k (2 * x) few, lt-ltb 1 k (omega (arith, some, less, larger)), le-leb 1 w (omega (arith, some, less)), le-leb w (2 * x) (omega (arith, larger, few)), lt-ltb w k larger) refl) (anyext_of_trunc_wider_sound x flags more m w k less larger)

pub zext_of_trunc_same_good : (x : ℕ) (flags more : Flags) (m k : ℕ) → m < k → k ≤ 2 * x → IsGoodRewriteAt x at.Before (zext_of_trunc_same flags more m k)
zext_of_trunc_same_good x flags more m k less few =
    good_by x at.Before (zext_of_trunc_same flags more m k) (rw (same k, le-leb 1 k (omega (arith, less, few)), le-leb k (2 * x) few, lt-ltb (2 ^ m - 1) (2 ^ k) (mask_below m k (omega (arith, less))), le-leb k k (omega arith)) refl) (zext_of_trunc_same_sound x flags more m k less)

pub zext_of_trunc_narrower_good : (x : ℕ) (flags more : Flags) (m w k : ℕ) → m < k → k < w → w ≤ 2 * x → IsGoodRewriteAt x at.Before (zext_of_trunc_narrower flags more m w k)
zext_of_trunc_narrower_good x flags more m w k less larger few =
    good_by x at.Before (zext_of_trunc_narrower flags more m w k) (rw (same k, le-leb 1 k (omega (arith, less, larger, few)), le-leb k (2 * x) (omega (arith, larger, few)), lt-ltb k (2 * x) (omega (arith, larger, few)), le-leb 1 w (omega (arith, less, larger, few)), le-leb w (2 * x) few, lt-ltb k w larger, lt-ltb (2 ^ m - 1) (2 ^ k) (mask_below m k (omega (arith, less))), le-leb k k (omega arith)) refl) (zext_of_trunc_narrower_sound x flags more m w k less larger)

pub zext_of_trunc_wider_good : (x : ℕ) (flags more : Flags) (m w k : ℕ) → 1 ≤ m → m < w → w < k → k ≤ 2 * x → IsGoodRewriteAt x at.Before (zext_of_trunc_wider flags more m w k)
zext_of_trunc_wider_good x flags more m w k some less larger few =
    good_by x at.Before (zext_of_trunc_wider flags more m w k) (rw (same k, le-leb 1 k (omega (arith, some, less, larger)), le-leb k (2 * x) few, lt-ltb 1 k (omega (arith, some, less, larger)), le-leb 1 w (omega (arith, some, less)), le-leb w (2 * x) (omega (arith, larger, few)), lt-ltb w k larger, lt-ltb (2 ^ m - 1) (2 ^ k) (mask_below m k (omega (arith, less, larger))), le-leb k k (omega arith)) refl) (zext_of_trunc_wider_sound x flags more m w k less larger)

pub sext_of_trunc_same_good : (x : ℕ) (flags more : Flags) (m k : ℕ) → m < k → k ≤ 2 * x → IsGoodRewriteAt x at.Before (sext_of_trunc_same flags more m k)
sext_of_trunc_same_good x flags more m k less few =
    good_by x at.Before (sext_of_trunc_same flags more m k) (rw (same k, le-leb 1 k (omega (arith, less, few)), le-leb k (2 * x) few) refl) (sext_of_trunc_same_sound x flags more m k less)

pub sext_of_trunc_narrower_good : (x : ℕ) (flags more : Flags) (m w k : ℕ) → m < k → k < w → w ≤ 2 * x → IsGoodRewriteAt x at.Before (sext_of_trunc_narrower flags more m w k)
sext_of_trunc_narrower_good x flags more m w k less larger few =
    good_by x at.Before (sext_of_trunc_narrower flags more m w k) (rw (same k, le-leb 1 k (omega (arith, less, larger, few)), le-leb k (2 * x) (omega (arith, larger, few)), lt-ltb k (2 * x) (omega (arith, larger, few)), le-leb 1 w (omega (arith, less, larger, few)), le-leb w (2 * x) few, lt-ltb k w larger) refl) (sext_of_trunc_narrower_sound x flags more m w k less larger)

pub sext_of_trunc_wider_good : (x : ℕ) (flags more : Flags) (m w k : ℕ) → 1 ≤ m → m < w → w < k → k ≤ 2 * x → IsGoodRewriteAt x at.Before (sext_of_trunc_wider flags more m w k)
sext_of_trunc_wider_good x flags more m w k some less larger few =
    good_by x at.Before (sext_of_trunc_wider flags more m w k) (rw (same k, le-leb 1 k (omega (arith, some, less, larger)), le-leb k (2 * x) few, lt-ltb 1 k (omega (arith, some, less, larger)), le-leb 1 w (omega (arith, some, less)), le-leb w (2 * x) (omega (arith, larger, few)), lt-ltb w k larger) refl) (sext_of_trunc_wider_sound x flags more m w k less larger)

pub trunc_of_merge_same_good : (x : ℕ) (flags more : Flags) (width : ℕ) → 1 ≤ width → width ≤ 2 * x → IsGoodRewriteAt x at.Before (trunc_of_merge op.Copy flags more width width)
trunc_of_merge_same_good x flags more width some few =
    good_by x at.Before (trunc_of_merge op.Copy flags more width width) (rw (same width, le-leb 1 width some, le-leb width (2 * x) few) refl) (trunc_of_merge_same_sound x flags more width)

pub trunc_of_merge_narrower_good : (x : ℕ) (flags more : Flags) (width n : ℕ) → 1 ≤ n → n < width → width ≤ 2 * x → IsGoodRewriteAt x at.Before (trunc_of_merge op.GenericTruncate flags more width n)
trunc_of_merge_narrower_good x flags more width n some less few =
    good_by x at.Before (trunc_of_merge op.GenericTruncate flags more width n) (rw (same n, le-leb 1 n some, le-leb n (2 * x) (omega (arith, less, few)), lt-ltb n (2 * x) (omega (arith, less, few)), le-leb 1 width (omega (arith, some, less)), le-leb width (2 * x) few, lt-ltb n width less) refl) (trunc_of_merge_narrower_sound x flags more width n (omega (arith, less)))
