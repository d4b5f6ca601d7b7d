-- What a function keeps through a rewrite.
use Rattle.std.proofs.Common.{◌≡◌, ◌⊎◌, ℕ, ◌+◌, ◌<◌, Bool, true, false, cond, ◌||◌, ◌==◌, List, [], ◌∷◌, ◌++◌, length, map, inl, inr, ⊎_elim, refl, sym, ap, ap₂, ◌∙◌, arith, eq-eqb}
use Rattle.std.proofs.lemmas.Bool.{and_parts, and_from, or_cases, or_left, or_right}
use Rattle.std.specs.List.{list_all, list_any}
use Rattle.std.proofs.lemmas.List.Folds.{list_any-append, list_all-append}
use Rattle.gi_mir.specs.Data.{InstrData, FunctionData}
use Rattle.gi_mir.specs.Edit.{all_instrs, defines, is_def_of, is_use_of, uses}
use Rattle.gi_mir.specs.declared.operand.Operand.{Operand}
use Rattle.gi_mir.specs.declared.operand.Operand.TheVariants as operand
use Rattle.gi_meaning.specs.Meaning.{meaning_of}
use Rattle.gi_meaning.specs.Runs.{Setting, setting_of, width_of_kind}
use Rattle.gi_refine.specs.RuleUse.{width_in}
use Rattle.gi_replace.specs.InPlace.{entry_renamed, with_ids}
use Rattle.gi_change_valid.specs.Rewriting.{IsOneOf, IsRewritten, Rewriting, rewritten}
use Rattle.gi_change_valid.specs.Numbers.{HasHadAll}
use Rattle.gi_change_valid.proofs.Computed.{any_one}
use Rattle.gi_change_valid.proofs.Listed.{instrs_after}
use Rattle.gi_change_valid.proofs.Made.{all_of_ids}
use Rattle.gi_valid.specs.Typing.{Phase}
use Rattle.gi_change_refines.specs.Widths.{keeps_values, values_keep}
use Rattle.gi_rule_valid.specs.Keeping.{gives_types}
use Rattle.gi_replace.specs.Applying.{line_of}
use Rattle.gi_rule_valid.specs.Using.{UseData, kind_in, made_of, rewritten_at, targets_of}
use Rattle.gi_rule_valid.proofs.InPlace.{entry_stays, is_replaced_by}
use Rattle.gi_rule_valid.proofs.Valid.{IsUse, root_of, rewriting_at, seen, stays_valid_at}
use Rattle.gi_rule_refines.specs.Good.{IsGood, makes_fit}
use Rattle.gi_rule_refines.proofs.Numbered.{own_replaced, replaced_above, replaced_more}
use Rattle.gi_rule_refines.proofs.Refined.{input_place, inputs_wide, made_wide, old_kind, same_widths}
use Rattle.gi_rule_refines.proofs.Widths.{all_made_fit, as_wide, widthed}

-- ══ Instructions after a rewriting that renames nothing ══

any_after : (w : Rewriting) (test : ℕ × InstrData → Bool) → ((p : ℕ × InstrData) → entry_renamed w.rename p ≡ p) → (is : List (ℕ × InstrData)) → list_any test (rewritten w is) ≡ true → (list_any test is ≡ true) ⊎ (list_any test w.made ≡ true)
any_after w test stays [] h = cc
any_after w test stays (p ∷ is) h = by (p.0 == w.root.0) (any_after w test stays is) h
  where
    by : (t : Bool) → (list_any test (rewritten w is) ≡ true → (list_any test is ≡ true) ⊎ (list_any test w.made ≡ true)) → list_any test (cond t w.made (entry_renamed w.rename p ∷ []) ++ rewritten w is) ≡ true
        → (list_any test (p ∷ is) ≡ true) ⊎ (list_any test w.made ≡ true)
    by true rest h =
        ⊎_elim (λ made. inr made) (λ later. ⊎_elim (λ old. inl (or_right (test p) (list_any test is) old)) (λ made. inr made) (rest later)) (or_cases (list_any test w.made) (list_any test (rewritten w is)) (sym (list_any-append test w.made (rewritten w is)) ∙ h))
    by false rest h =
        ⊎_elim (λ here. inl (or_left (test p) (list_any test is) (ap test (sym (stays p)) ∙ here))) (λ later. ⊎_elim (λ old. inl (or_right (test p) (list_any test is) old)) (λ made. inr made) (rest later))
        (or_cases (test (entry_renamed w.rename p)) (list_any test (rewritten w is)) h)

pub all_after : (w : Rewriting) (old new : ℕ × InstrData → Bool) → ((p : ℕ × InstrData) → entry_renamed w.rename p ≡ p) → list_all new w.made ≡ true → (is : List (ℕ × InstrData)) → ((p : ℕ × InstrData) → IsOneOf p is → new p ≡ old p) → list_all old is ≡ true → list_all new (rewritten w is) ≡ true
all_after w old new stays made [] same h = refl
all_after w old new stays made (p ∷ is) same h = by (p.0 == w.root.0) (all_after w old new stays made is (λ q there. same q (inr there)) each.1)
  where
    each : (old p ≡ true) × (list_all old is ≡ true)
    each = and_parts (old p) (list_all old is) h

    by : (t : Bool) → list_all new (rewritten w is) ≡ true → list_all new (cond t w.made (entry_renamed w.rename p ∷ []) ++ rewritten w is) ≡ true
    by true rest = list_all-append new w.made (rewritten w is) ∙ and_from (list_all new w.made) (list_all new (rewritten w is)) made rest
    by false rest = and_from (new (entry_renamed w.rename p)) (list_all new (rewritten w is)) (ap new (stays p) ∙ same p (inl refl) ∙ each.0) rest

any_named : (test : InstrData → Bool) (id : ℕ) (is : List InstrData) → list_any (λ (p : ℕ × InstrData). test p.1) (with_ids id is) ≡ list_any test is
any_named test id [] = refl
any_named test id (i ∷ is) = ap (λ t. test i || t) (any_named test (id + 1) is)

-- one of two tests passes
widen : {X : Type 0} (small great : X → Bool) → ((y : X) → small y ≡ true → great y ≡ true) → (ys : List X) → list_any small ys ≡ true → list_any great ys ≡ true
widen small great more [] h = cc
widen small great more (y ∷ ys) h = ⊎_elim (λ here. or_left (great y) (list_any great ys) (more y here)) (λ later. or_right (great y) (list_any great ys) (widen small great more ys later)) (or_cases (small y) (list_any small ys) h)

-- ══ Widths ══

pub operands_same : (old new : ℕ → ℕ) (os : List Operand) → ((r : ℕ) → (list_any (is_def_of r) os ≡ true) ⊎ (list_any (is_use_of r) os ≡ true) → new r ≡ old r) → map (widthed new) os ≡ map (widthed old) os
operands_same old new [] same = refl
operands_same old new (o ∷ os) same = ap₂ (λ p ps. p ∷ ps) (first o (λ r is. same r (⊎_elim (λ d. inl (or_left (is_def_of r o) (list_any (is_def_of r) os) d)) (λ u. inr (or_left (is_use_of r o) (list_any (is_use_of r) os) u)) is)))
    (operands_same old new os (λ r is. same r (⊎_elim (λ d. inl (or_right (is_def_of r o) (list_any (is_def_of r) os) d)) (λ u. inr (or_right (is_use_of r o) (list_any (is_use_of r) os) u)) is)))
  where
    first : (p : Operand) → ((r : ℕ) → (is_def_of r p ≡ true) ⊎ (is_use_of r p ≡ true) → new r ≡ old r) → widthed new p ≡ widthed old p
    first (operand.Def q kind) named = ap (λ n. widthed (λ r. n) (operand.Def q kind)) (named q.0 (inl (eq-eqb q.0 q.0 refl)))
    first (operand.Use q) named = ap (λ n. widthed (λ r. n) (operand.Use q)) (named q.0 (inr (eq-eqb q.0 q.0 refl)))
    first _ named = refl

-- ══ A use ══

had_after : (x : ℕ) (phase : Phase) (f : FunctionData) (id : ℕ) (u : UseData) → (c : IsUse x phase f id u) → HasHadAll (rewritten_at f id u)
had_after x phase f id u c = record {
  defined = λ r there. by r (is_def_of r) (λ o d. or_left (is_def_of r o) (is_use_of r o) d) (c.had.defined r) there;
  used = λ r there. by r (is_use_of r) (λ o d. or_right (is_def_of r o) (is_use_of r o) d) (c.had.used r) there;
}
  where
    w : Rewriting
    w = rewriting_at f id u c.fits.line

    is : IsRewritten (rewriting_at f id u c.fits.line) f (rewritten_at f id u)
    is = is_replaced_by f id (root_of f u c.fits.line) (made_of f id u) c.own c.live c.fits.root

    by : (r : ℕ) (test : Operand → Bool) → ((o : Operand) → test o ≡ true → (is_def_of r o || is_use_of r o) ≡ true) → (list_any (λ (p : ℕ × InstrData). list_any test p.1.operands) (all_instrs f.blocks) ≡ true → r < f.next_reg)
        → list_any (λ (p : ℕ × InstrData). list_any test p.1.operands) (all_instrs (rewritten_at f id u).blocks) ≡ true → r < (rewritten_at f id u).next_reg
    by r test more old there =
        ⊎_elim (λ before. let less = old before in let next = replaced_more f id (made_of f id u) in omega (arith, less, next))
        (λ made. replaced_above r f id (made_of f id u)
        (widen (λ (i : InstrData). list_any test i.operands) (λ (i : InstrData). list_any (λ o. is_def_of r o || is_use_of r o) i.operands) (λ i. widen test (λ o. is_def_of r o || is_use_of r o) more i.operands) (made_of f id u)
        (sym (any_named (λ (i : InstrData). list_any test i.operands) f.next_id (made_of f id u)) ∙ made)))
        (any_after (rewriting_at f id u c.fits.line) (λ (p : ℕ × InstrData). list_any test p.1.operands) entry_stays (all_instrs f.blocks)
        (sym (ap (list_any (λ (p : ℕ × InstrData). list_any test p.1.operands)) (instrs_after (rewriting_at f id u c.fits.line) f (rewritten_at f id u) is)) ∙ there))

fit_after : (x : ℕ) (phase : Phase) (names : List (List ℕ)) (f : FunctionData) (id : ℕ) (u : UseData) → (c : IsUse x phase f id u) → makes_fit x u.rewrite ≡ true
    → values_keep (setting_of x names f) f ≡ true → values_keep (setting_of x names (rewritten_at f id u)) (rewritten_at f id u) ≡ true
fit_after x phase names f id u c makes fit =
    ap (list_all new) (instrs_after (rewriting_at f id u c.fits.line) f (rewritten_at f id u) is)
    ∙ all_after (rewriting_at f id u c.fits.line) old new entry_stays
    (all_of_ids (λ (i : InstrData). keeps_values t (meaning_of i.flags i.op) i) f.next_id (made_of f id u)
    ∙ all_made_fit t (kind_in f) (line_of f id) (targets_of u) u.inputs u.rewrite.inputs (length u.inputs) f.next_reg u.rewrite.made (sym (seen x phase f id u c).many)
    (same_widths x f (rewritten_at f id u) u.inputs (λ r inside. old_kind x phase f id u c r (input_place x phase f id u c r inside).1) ∙ inputs_wide x f u.inputs u.rewrite.inputs c.fits.types)
    (seen x phase f id u c).placed makes (made_wide x phase f id u c))
    (all_instrs f.blocks) same fit
  where
    t : Setting
    t = setting_of x names (rewritten_at f id u)

    old : ℕ × InstrData → Bool
    old p = keeps_values (setting_of x names f) (meaning_of p.1.flags p.1.op) p.1

    new : ℕ × InstrData → Bool
    new p = keeps_values (setting_of x names (rewritten_at f id u)) (meaning_of p.1.flags p.1.op) p.1

    is : IsRewritten (rewriting_at f id u c.fits.line) f (rewritten_at f id u)
    is = is_replaced_by f id (root_of f u c.fits.line) (made_of f id u) c.own c.live c.fits.root

    same : (p : ℕ × InstrData) → IsOneOf p (all_instrs f.blocks) → new p ≡ old p
    same p there =
        as_wide (setting_of x names (rewritten_at f id u)) (setting_of x names f) (meaning_of p.1.flags p.1.op) p.1 p.1 refl refl refl
        (operands_same (width_in x f) (width_in x (rewritten_at f id u)) p.1.operands
        (λ r named. ap (width_of_kind x) (old_kind x phase f id u c r
        (⊎_elim (λ d. c.had.defined r (any_one (defines r) p (all_instrs f.blocks) there d)) (λ d. c.had.used r (any_one (uses r) p (all_instrs f.blocks) there d)) named))))

pub good_after : (x : ℕ) (phase : Phase) (names : List (List ℕ)) (f : FunctionData) (id : ℕ) (u : UseData) → gives_types phase ≡ true → (c : IsUse x phase f id u) → makes_fit x u.rewrite ≡ true → values_keep (setting_of x names f) f ≡ true
    → IsGood x phase names (rewritten_at f id u)
good_after x phase names f id u types c makes fit = record {
  valid = stays_valid_at x phase f id u types c;
  own = own_replaced f id (made_of f id u) c.own c.live;
  had = had_after x phase f id u c;
  fit = fit_after x phase names f id u c makes fit;
}
