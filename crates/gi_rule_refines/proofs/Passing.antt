-- How a row is shown to be good: its tests compute, after facts on widths.
use Rattle.std.proofs.Common.{◌≡◌, ◌⊎◌, inl, inr, ℕ, ◌-◌, ◌*◌, ◌^◌, ◌≤◌, ◌<◌, Bool, true, false, not, ◌&&◌, ◌||◌, List, [], ◌∷◌, refl, sym, ap, ap₂, ◌∙◌, subst, arith, le-leb, ◌+◌, ◌/◌, ◌==◌}
use Rattle.std.specs.List.{list_all}
use Rattle.std.proofs.Math.Nat.{div-lt_iff_lt-mul}
use Rattle.std.proofs.lemmas.Bool.{and_parts, or_right}
use Rattle.std.proofs.lemmas.Bool.Decides.{nat_tests}
use Rattle.std.proofs.lemmas.Nat.{pow-add, pow_pos}
use Rattle.gi_llt.specs.Signs.{negated}
use Rattle.gi_llt.specs.declared.Llt.{Llt}
use Rattle.gi_llt.specs.declared.Llt.TheVariants.{Pointer, Scalar}
use Rattle.gi_mir.specs.Row.{is_wide_op, standing_of}
use Rattle.gi_mir.specs.Stages.{is_opcode_of, stands_in}
use Rattle.gi_mir.specs.declared.entry.Standing.{Standing}
use Rattle.gi_mir.specs.declared.entry.Standing.TheVariants as standing
use Rattle.gi_mir.specs.declared.opcode.Opcode.{Opcode}
use Rattle.gi_mir.specs.declared.stage.Stage.{Stage}
use Rattle.gi_mir.specs.declared.stage.Stage.TheVariants as function_stage
use Rattle.gi_rules.specs.Fitting.{stands_on}
use Rattle.gi_mir.specs.Types.{is_condition, is_register, same_type}
use Rattle.gi_valid.specs.Typing.{Typed}
use Rattle.gi_rule_values.specs.Data.{OperationData, RewriteData}
use Rattle.gi_rule_values.specs.Running.{IsSoundRewrite}
use Rattle.gi_rule_values.proofs.Numbers.{below_wider, same}
use Rattle.gi_rule_valid.specs.Keeping.{keeps, on_each}
use Rattle.gi_rule_refines.specs.Computing.{gives_all}
use Rattle.gi_rule_refines.specs.Good.{IsGoodRewrite, makes_fit}
use Rattle.gi_rule_refines.specs.Stages.{IsGoodRewriteAt, has_opcode, is_accepted, phase_at, registers_of}
use Rattle.gi_rule_refines.specs.declared.stages.RuleStage.{RuleStage}
use Rattle.gi_rule_refines.specs.declared.stages.RuleStage.TheVariants as at

-- ══ Opcodes of a stage ══

-- as `has_opcode`, but it computes at any width where the opcode isn't one of RV64 alone
abbrev stands_there : (x : ℕ) → Stage → Opcode → Bool
stands_there x stage op = is_opcode_of stage op && (not (is_wide_op op) || x == 64)

abbrev pub is_there : (x : ℕ) → RuleStage → Opcode → Bool
is_there x at.Selecting op = stands_there x function_stage.Banked op || stands_there x function_stage.Selected op
is_there x stage op = stands_there x (registers_of stage) op

turned : (a b : Bool) → (a || b) ≡ (b || a)
turned true true = refl
turned true false = refl
turned false true = refl
turned false false = refl

stands_is : (x : ℕ) (stage : Stage) (op : Opcode) → stands_on x stage op ≡ stands_there x stage op
stands_is x stage op = ap (λ t. is_opcode_of stage op && t) (turned (x == 64) (not (is_wide_op op)))

opcode_is : (x : ℕ) (stage : RuleStage) (op : Opcode) → has_opcode x stage op ≡ is_there x stage op
opcode_is x at.Selecting op = ap₂ (λ a b. a || b) (stands_is x function_stage.Banked op) (stands_is x function_stage.Selected op)
opcode_is x at.Before op = stands_is x function_stage.Before op
opcode_is x at.Legalized op = stands_is x function_stage.Legalized op
opcode_is x at.Banked op = stands_is x function_stage.Banked op
opcode_is x at.Selected op = stands_is x function_stage.Selected op

pub all_there : (x : ℕ) (stage : RuleStage) (os : List OperationData) → list_all (λ o. has_opcode x stage o.op) os ≡ list_all (λ o. is_there x stage o.op) os
all_there x stage [] = refl
all_there x stage (o ∷ os) = ap₂ (λ a b. a && b) (opcode_is x stage o.op) (all_there x stage os)

-- ══ A row ══

-- all tests of a row's list
abbrev pub passes : (x : ℕ) → RuleStage → RewriteData → Bool
passes x stage row =
    keeps x (phase_at stage) row && gives_all row && makes_fit x row && (list_all (λ o. is_there x stage o.op) row.made && on_each (is_accepted x) row.inputs row.made)

pub good_by : (x : ℕ) (stage : RuleStage) (row : RewriteData) → passes x stage row ≡ true → IsSoundRewrite x row → IsGoodRewriteAt x stage row
good_by x stage row passed sound =
    let all = and_parts (keeps x (phase_at stage) row && gives_all row && makes_fit x row) (list_all (λ o. is_there x stage o.op) row.made && on_each (is_accepted x) row.inputs row.made) passed in
    let outer = and_parts (keeps x (phase_at stage) row && gives_all row) (makes_fit x row) all.0 in
    let inner = and_parts (keeps x (phase_at stage) row) (gives_all row) outer.0 in
    record {
      good = record { keeps = inner.0; gives = inner.1; fits = outer.1; sound = sound };
      may = ap (λ t. t && on_each (is_accepted x) row.inputs row.made) (all_there x stage row.made) ∙ all.1;
    }

-- the stages before selection have the same opcodes
stays_there : (x : ℕ) (stage : RuleStage) → phase_at stage ≡ Typed → (op : Opcode) → has_opcode x stage op ≡ has_opcode x at.Before op
stays_there x at.Before typed op = refl
stays_there x at.Legalized typed op = ap (λ t. t && (x == 64 || not (is_wide_op op))) (by (standing_of op))
  where
    by : (kind : Standing) → stands_in function_stage.Legalized kind ≡ stands_in function_stage.Before kind
    by standing.Generic = refl
    by standing.Target = refl
    by standing.Both = refl
stays_there x at.Banked typed op = ap (λ t. t && (x == 64 || not (is_wide_op op))) (by (standing_of op))
  where
    by : (kind : Standing) → stands_in function_stage.Banked kind ≡ stands_in function_stage.Before kind
    by standing.Generic = refl
    by standing.Target = refl
    by standing.Both = refl
stays_there x at.Selecting typed op = cc
stays_there x at.Selected typed op = cc

pub good_in_stage : (x : ℕ) (stage : RuleStage) (row : RewriteData) → phase_at stage ≡ Typed → IsGoodRewriteAt x at.Before row → IsGoodRewriteAt x stage row
good_in_stage x stage row typed good = record {
  good = subst (λ phase. IsGoodRewrite x phase row) (sym typed) good.good;
  may = ap (λ t. t && on_each (is_accepted x) row.inputs row.made) (all row.made) ∙ good.may;
}
  where
    all : (os : List OperationData) → list_all (λ o. has_opcode x stage o.op) os ≡ list_all (λ o. has_opcode x at.Before o.op) os
    all [] = refl
    all (o ∷ os) = ap₂ (λ a b. a && b) (stays_there x stage typed o.op) (all os)

-- a row at the width of a machine register
pub at_words : (stage : RuleStage) (row : ℕ → RewriteData) → passes 32 stage (row 32) ≡ true → passes 64 stage (row 64) ≡ true → (x : ℕ) → (x ≡ 32) ⊎ (x ≡ 64) → IsSoundRewrite x (row x) → IsGoodRewriteAt x stage (row x)
at_words stage row short long x (inl e) sound = good_by x stage (row x) (subst (λ k. passes k stage (row k) ≡ true) (sym e) short) sound
at_words stage row short long x (inr e) sound = good_by x stage (row x) (subst (λ k. passes k stage (row k) ≡ true) (sym e) long) sound

-- the same under a condition on that width
pub at_words_if : (stage : RuleStage) (row : ℕ → RewriteData) (premise : ℕ → Type 0) → (premise 32 → passes 32 stage (row 32) ≡ true) → (premise 64 → passes 64 stage (row 64) ≡ true) → (x : ℕ) → (x ≡ 32) ⊎ (x ≡ 64) → premise x → IsSoundRewrite x (row x)
    → IsGoodRewriteAt x stage (row x)
at_words_if stage row premise short long x (inl e) holds sound = good_by x stage (row x) (subst (λ k. passes k stage (row k) ≡ true) (sym e) (short (subst premise e holds))) sound
at_words_if stage row premise short long x (inr e) holds sound = good_by x stage (row x) (subst (λ k. passes k stage (row k) ≡ true) (sym e) (long (subst premise e holds))) sound

-- ══ Numbers ══

pub word_some : (x : ℕ) → (x ≡ 32) ⊎ (x ≡ 64) → 1 ≤ x
word_some x (inl e) = omega (arith, e)
word_some x (inr e) = omega (arith, e)

pub negated_below : (n c : ℕ) → negated n c < 2 ^ n
negated_below n c = let some = pow_pos n in grind (arith, nat_tests, some)

pub high_below : (x value : ℕ) → value < 2 ^ (2 * x) → value / 2 ^ x < 2 ^ x
high_below x value less = let two : 2 * x ≡ x + x = omega arith in (div-lt_iff_lt-mul (pow_pos x)).1 (subst (λ k. value < k) (ap (λ k. 2 ^ k) two ∙ pow-add 2 x x) less)

pub mask_below : (m n : ℕ) → m ≤ n → 2 ^ m - 1 < 2 ^ n
mask_below m n within = below_wider m n (2 ^ m - 1) within (omega (arith, pow_pos m))

-- ══ Types ══

pub same_type_itself : (type : Llt) → same_type type type ≡ true
same_type_itself (Scalar n) = same n
same_type_itself Pointer = refl

pub word_condition : (x : ℕ) → 1 ≤ x → is_condition x (Scalar x) ≡ true
word_condition x some = or_right (x == 1) (is_register x (Scalar x)) (rw (same x, le-leb 1 x some, le-leb x (2 * x) (omega arith)) refl)
