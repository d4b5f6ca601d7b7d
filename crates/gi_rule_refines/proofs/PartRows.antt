-- Rows of n parts are good: there are so few widths and numbers of parts that each is tried.
use Rattle.std.proofs.Common.{◌≡◌, ◌⊎◌, inl, inr, ⊎_elim, ℕ, zero, suc, ◌+◌, ◌*◌, ◌≤◌, ◌<◌, Bool, true, ◌&&◌, ◌||◌, ◌==◌, nat_lt, refl, sym, ◌∙◌, subst, arith}
use Rattle.std.proofs.lemmas.Bool.{and_parts, le-ltb, ne_eqb}
use Rattle.gi_mir.specs.declared.operand.Flags.{Flags}
use Rattle.gi_rule_values.specs.Artifacts.{unmerge_of_merge}
use Rattle.gi_rule_values.specs.Data.{RewriteData}
use Rattle.gi_rule_values.specs.Lowering.{lower_merge, lower_unmerge}
use Rattle.gi_rule_values.proofs.Parts.{lower_merge_sound, lower_unmerge_sound, unmerge_of_merge_sound}
use Rattle.gi_rule_values.specs.Running.{IsSoundRewrite}
use Rattle.gi_rule_refines.specs.Stages.{IsGoodRewriteAt}
use Rattle.gi_rule_refines.specs.declared.stages.RuleStage.TheVariants as at
use Rattle.gi_rule_refines.proofs.Passing.{good_by, passes}

-- ══ Numbers below a bound ══

abbrev all_below : (n : ℕ) → (ℕ → Bool) → Bool
all_below zero test = true
all_below (suc n) test = test n && all_below n test

each_below : (n : ℕ) (test : ℕ → Bool) → all_below n test ≡ true → (k : ℕ) → k < n → test k ≡ true
each_below zero test h k less = absurd (omega (arith, less))
each_below (suc n) test h k less =
    let parts = and_parts (test n) (all_below n test) h in
    ⊎_elim (λ (e : k ≡ n). subst (λ j. test j ≡ true) (sym e) parts.0) (λ (l : k < n). each_below n test parts.1 k l) (last_or_less k n less)
  where
    last_or_less : (k n : ℕ) → k < suc n → (k ≡ n) ⊎ (k < n)
    last_or_less k n less = grind (arith, less)

-- ══ Parts ══

-- a row of parts of so many bits, one and so many further ones, where the whole has up to twice the bits of a register
abbrev is_tried : (x : ℕ) → (ℕ → ℕ → RewriteData) → (width further : ℕ) → Bool
is_tried x row width further = (width == 0) || (further == 0) || nat_lt (2 * x) (suc further * width) || passes x at.Before (row width further)

abbrev are_tried : (x : ℕ) → (ℕ → ℕ → RewriteData) → Bool
are_tried x row = all_below (2 * x + 1) (λ width. all_below 16 (λ further. is_tried x row width further))

passed : (x : ℕ) (row : ℕ → ℕ → RewriteData) (width further : ℕ) → 1 ≤ width → 1 ≤ further → suc further * width ≤ 2 * x → is_tried x row width further ≡ true → passes x at.Before (row width further) ≡ true
passed x row width further some more few tried =
    sym (rw (ne_eqb width 0 (λ e. omega (arith, some, e)), ne_eqb further 0 (λ e. omega (arith, more, e)), le-ltb (2 * x) (suc further * width) few) refl) ∙ tried

tried_at : (x : ℕ) (row : ℕ → ℕ → RewriteData) → are_tried x row ≡ true → (width further : ℕ) → 1 ≤ width → 1 ≤ further → further ≤ 15 → suc further * width ≤ 2 * x → passes x at.Before (row width further) ≡ true
tried_at x row all width further some more most few =
    passed x row width further some more few
    (each_below 16 (λ k. is_tried x row width k) (each_below (2 * x + 1) (λ w. all_below 16 (λ k. is_tried x row w k)) all width (narrower width further few)) further (omega (arith, most)))
  where
    narrower : (width further : ℕ) → suc further * width ≤ 2 * x → width < 2 * x + 1
    narrower width further few = let more : width ≤ suc further * width = omega arith in omega (arith, more, few)

-- each is tried on RV32 and RV64
by_trying : (row : ℕ → ℕ → RewriteData) → are_tried 32 row ≡ true → are_tried 64 row ≡ true → (x : ℕ) → (x ≡ 32) ⊎ (x ≡ 64) → (width further : ℕ) → 1 ≤ width → 1 ≤ further → further ≤ 15 → suc further * width ≤ 2 * x
    → IsSoundRewrite x (row width further) → IsGoodRewriteAt x at.Before (row width further)
by_trying row short long x (inl e) width further some more most few sound = good_by x at.Before (row width further) (tried_at x row (subst (λ k. are_tried k row ≡ true) (sym e) short) width further some more most few) sound
by_trying row short long x (inr e) width further some more most few sound = good_by x at.Before (row width further) (tried_at x row (subst (λ k. are_tried k row ≡ true) (sym e) long) width further some more most few) sound

-- ══ The rows ══

pub unmerge_of_merge_good : (x : ℕ) (flags more : Flags) (width further : ℕ) → (x ≡ 32) ⊎ (x ≡ 64) → 1 ≤ width → 1 ≤ further → further ≤ 15 → suc further * width ≤ 2 * x → IsGoodRewriteAt x at.Before (unmerge_of_merge flags more width (suc further))
unmerge_of_merge_good x flags more width further word some several most few =
    by_trying (λ width further. unmerge_of_merge flags more width (suc further)) refl refl x word width further some several most few (unmerge_of_merge_sound x flags more width (suc further))

pub lower_merge_good : (x : ℕ) (flags : Flags) (width further : ℕ) → (x ≡ 32) ⊎ (x ≡ 64) → 1 ≤ width → 1 ≤ further → further ≤ 15 → suc further * width ≤ 2 * x → IsGoodRewriteAt x at.Before (lower_merge flags width further)
lower_merge_good x flags width further word some several most few = by_trying (λ width further. lower_merge flags width further) refl refl x word width further some several most few (lower_merge_sound x flags width further some)

pub lower_unmerge_good : (x : ℕ) (flags : Flags) (width further : ℕ) → (x ≡ 32) ⊎ (x ≡ 64) → 1 ≤ width → 1 ≤ further → further ≤ 15 → suc further * width ≤ 2 * x → IsGoodRewriteAt x at.Before (lower_unmerge flags width further)
lower_unmerge_good x flags width further word some several most few = by_trying (λ width further. lower_unmerge flags width further) refl refl x word width further some several most few (lower_unmerge_sound x flags width further some)
