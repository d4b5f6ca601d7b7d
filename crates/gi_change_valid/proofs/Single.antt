-- No register comes to be defined twice.
use Rattle.std.proofs.Common.{◌≡◌, ℕ, ◌+◌, ◌≤◌, Bool, true, false, cond, ◌==◌, List, [], ◌∷◌, ◌++◌, map, inl, inr, ⊎_elim, refl, sym, ap, ap₂, ◌∙◌, subst, arith}
use Rattle.std.proofs.lemmas.Bool.{or_parts, or_cases, eq-eqb, eqb-true}
use Rattle.std.proofs.lemmas.List.Sums.{sum_by-append}
use Rattle.std.specs.List.{list_any}
use Rattle.gi_mir.specs.Data.{InstrData, FunctionData, reg_of}
use Rattle.gi_mir.specs.Edit.{all_instrs, is_def_of, defines}
use Rattle.gi_mir.specs.Ids.{uses_among}
use Rattle.gi_mir.specs.declared.operand.Operand.{Operand}
use Rattle.gi_mir.specs.declared.operand.Operand.TheVariants as operand
use Rattle.gi_replace.specs.InPlace.{entry_renamed}
use Rattle.gi_valid.specs.Faults.{fault_at, definitions, times, seconds, double_definitions}
use Rattle.gi_meaning.specs.InRow.{results_in}
use Rattle.gi_valid.specs.declared.invalid.Invalid.TheVariants.{DoubleDefinition}
use Rattle.gi_valid.proofs.Single.{often, defined_once}
use Rattle.gi_change_valid.specs.Conditions.{DefinesAnew}
use Rattle.gi_change_valid.specs.Rewriting.{Rewriting, rewritten, IsOneOf, IsRewritten}
use Rattle.gi_change_valid.proofs.Listed.{instrs_after, results_left}

-- ══ Counting ══

abbrev lined : (ℕ × InstrData) → List (ℕ × ℕ)
lined p = map (λ r. (p.1.line, r)) (results_in p.1.operands)

pub times_append : (r : ℕ) (xs ys : List (ℕ × ℕ)) → times r (xs ++ ys) ≡ times r xs + times r ys
times_append r [] ys = omega arith
times_append r (d ∷ xs) ys = let h : times r (xs ++ ys) ≡ times r xs + times r ys = times_append r xs ys in omega (arith, h)

pub definitions_append : (r : ℕ) (xs ys : List (ℕ × InstrData)) → times r (definitions (xs ++ ys)) ≡ times r (definitions xs) + times r (definitions ys)
definitions_append r [] ys = omega arith
definitions_append r (p ∷ xs) ys =
    let h : times r (definitions (xs ++ ys)) ≡ times r (definitions xs) + times r (definitions ys) = definitions_append r xs ys in
    let all : times r (lined p ++ definitions (xs ++ ys)) ≡ times r (lined p) + times r (definitions (xs ++ ys)) = times_append r (lined p) (definitions (xs ++ ys)) in
    let own : times r (lined p ++ definitions xs) ≡ times r (lined p) + times r (definitions xs) = times_append r (lined p) (definitions xs) in
    omega (arith, h, all, own)

pub times_lined : (r line : ℕ) (qs : List ℕ) → times r (map (λ q. (line, q)) qs) ≡ often r qs
times_lined r line [] = refl
times_lined r line (q ∷ qs) = ap (λ n. cond (q == r) 1 0 + n) (times_lined r line qs)

defined_often : (r : ℕ) (os : List Operand) → list_any (is_def_of r) os ≡ true → 1 ≤ often r (results_in os)
defined_often r [] h = cc
defined_often r (operand.Def q kind ∷ os) h =
    ⊎_elim
    (λ here. let one : ◌≡◌ {A = ℕ} (cond (q.0 == r) 1 0) 1 = ap (λ t. cond t 1 0) here in omega (arith, one))
    (λ later. let more : 1 ≤ often r (results_in os) = defined_often r os later in omega (arith, more))
    (or_cases (q.0 == r) (list_any (is_def_of r) os) h)
defined_often r (_ ∷ os) h = defined_often r os h

often_none : (r : ℕ) (os : List Operand) → list_any (is_def_of r) os ≡ false → often r (results_in os) ≡ 0
often_none r [] h = refl
often_none r (operand.Def q kind ∷ os) h =
    let each : ((q.0 == r) ≡ false) × (list_any (is_def_of r) os ≡ false) = or_parts (q.0 == r) (list_any (is_def_of r) os) h in
    ap₂ (λ t n. cond t 1 0 + n) each.0 (often_none r os each.1)
often_none r (_ ∷ os) h = often_none r os h

pub defined_times : (r : ℕ) (p : ℕ × InstrData) → defines r p ≡ true → 1 ≤ times r (definitions (p ∷ []))
defined_times r p h =
    let one : 1 ≤ times r (lined p) = subst (λ n. 1 ≤ n) (sym (times_lined r p.1.line (results_in p.1.operands))) (defined_often r p.1.operands h) in
    let all : times r (lined p ++ []) ≡ times r (lined p) + 0 = times_append r (lined p) [] in
    omega (arith, one, all)

pub none_times : (r : ℕ) (is : List (ℕ × InstrData)) → list_any (defines r) is ≡ false → times r (definitions is) ≡ 0
none_times r [] h = refl
none_times r (p ∷ is) h =
    let each : (defines r p ≡ false) × (list_any (defines r) is ≡ false) = or_parts (defines r p) (list_any (defines r) is) h in
    let rest : times r (definitions is) ≡ 0 = none_times r is each.1 in
    let here : times r (lined p) ≡ 0 = times_lined r p.1.line (results_in p.1.operands) ∙ often_none r p.1.operands each.0 in
    let all : times r (lined p ++ definitions is) ≡ times r (lined p) + times r (definitions is) = times_append r (lined p) (definitions is) in
    omega (arith, rest, here, all)

-- ══ Before and after ══

renamed_times : (r : ℕ) (rename : ℕ → ℕ) (p : ℕ × InstrData) → times r (definitions (entry_renamed rename p ∷ [])) ≡ times r (definitions (p ∷ []))
renamed_times r rename p = ap (λ rs. times r (map (λ q. (p.1.line, q)) rs ++ [])) (results_left rename p.1.operands)

-- an instruction that isn't the root
step : (r : ℕ) (w : Rewriting) (p : ℕ × InstrData) (is : List (ℕ × InstrData)) → (p.0 == w.root.0) ≡ false
    → times r (definitions (rewritten w (p ∷ is))) ≡ times r (definitions (p ∷ [])) + times r (definitions (rewritten w is))
step r w p is other =
    ap (λ t. times r (definitions (cond t w.made (entry_renamed w.rename p ∷ []) ++ rewritten w is))) other
    ∙ definitions_append r (entry_renamed w.rename p ∷ []) (rewritten w is)
    ∙ ap (λ n. n + times r (definitions (rewritten w is))) (renamed_times r w.rename p)

alone : (n k : ℕ) → 0 + n ≡ k → n ≡ k
alone n k h = omega (arith, h)

uses_first : (id : ℕ) (p : ℕ × InstrData) (is : List (ℕ × InstrData)) → uses_among id (p ∷ is) ≡ cond (p.0 == id) 1 0 + uses_among id is
uses_first id p is =
    let all : uses_among id (p ∷ is) ≡ uses_among id (p ∷ []) + uses_among id is = sum_by-append (λ (q : ℕ × InstrData). cond (q.0 == id) 1 0) (p ∷ []) is in
    let one : uses_among id (p ∷ []) ≡ cond (p.0 == id) 1 0 = nothing_added (cond (p.0 == id) 1 0) in
    omega (arith, all, one)
  where
    nothing_added : (n : ℕ) → 0 + n ≡ n
    nothing_added n = omega arith

without_root : (r : ℕ) (w : Rewriting) (is : List (ℕ × InstrData)) → uses_among w.root.0 is ≡ 0 → times r (definitions (rewritten w is)) ≡ times r (definitions is)
without_root r w [] none = refl
without_root r w (p ∷ is) none = by (p.0 == w.root.0) refl (sym (uses_first w.root.0 p is) ∙ none) (λ l. without_root r w is l)
  where
    by : (t : Bool) → (p.0 == w.root.0) ≡ t → cond (p.0 == w.root.0) 1 0 + uses_among w.root.0 is ≡ 0 → (uses_among w.root.0 is ≡ 0 → times r (definitions (rewritten w is)) ≡ times r (definitions is))
        → times r (definitions (rewritten w (p ∷ is))) ≡ times r (definitions (p ∷ is))
    by true so none rest = absurd (more (uses_among w.root.0 is) (subst (λ t. cond t 1 0 + uses_among w.root.0 is ≡ 0) so none))
      where
        more : (n : ℕ) → 1 + n ≡ 0 → ⊥
        more n h = omega (arith, h)
    by false so none rest =
        step r w p is so ∙ ap (λ n. times r (definitions (p ∷ [])) + n) (rest (alone (uses_among w.root.0 is) 0 (subst (λ t. cond t 1 0 + uses_among w.root.0 is ≡ 0) so none))) ∙ sym (definitions_append r (p ∷ []) is)

with_root : (r : ℕ) (w : Rewriting) (is : List (ℕ × InstrData)) → ((p : ℕ × InstrData) → IsOneOf p is → (p.0 == w.root.0) ≡ true → p ≡ w.root) → uses_among w.root.0 is ≡ 1
    → times r (definitions (rewritten w is)) + times r (definitions (w.root ∷ [])) ≡ times r (definitions is) + times r (definitions w.made)
with_root r w [] own none = cc
with_root r w (p ∷ is) own once = by (p.0 == w.root.0) refl (sym (uses_first w.root.0 p is) ∙ once) (λ l. with_root r w is (λ q there same. own q (inr there) same) l)
  where
    Made : ℕ
    Made = times r (definitions w.made)

    by : (t : Bool) → (p.0 == w.root.0) ≡ t → cond (p.0 == w.root.0) 1 0 + uses_among w.root.0 is ≡ 1
        → (uses_among w.root.0 is ≡ 1 → times r (definitions (rewritten w is)) + times r (definitions (w.root ∷ [])) ≡ times r (definitions is) + times r (definitions w.made))
        → times r (definitions (rewritten w (p ∷ is))) + times r (definitions (w.root ∷ [])) ≡ times r (definitions (p ∷ is)) + times r (definitions w.made)
    by true so once rest =
        let none : uses_among w.root.0 is ≡ 0 = less (uses_among w.root.0 is) (subst (λ t. cond t 1 0 + uses_among w.root.0 is ≡ 1) so once) in
        let here : times r (definitions (rewritten w (p ∷ is))) ≡ times r (definitions w.made) + times r (definitions (rewritten w is)) =
        ap (λ t. times r (definitions (cond t w.made (entry_renamed w.rename p ∷ []) ++ rewritten w is))) so ∙ definitions_append r w.made (rewritten w is) in
        let same : times r (definitions (rewritten w is)) ≡ times r (definitions is) = without_root r w is none in
        let old : times r (definitions (p ∷ is)) ≡ times r (definitions (p ∷ [])) + times r (definitions is) = definitions_append r (p ∷ []) is in
        let root : times r (definitions (p ∷ [])) ≡ times r (definitions (w.root ∷ [])) = ap (λ q. times r (definitions (q ∷ []))) (own p (inl refl) so) in
        omega (arith, here, same, old, root)
      where
        less : (n : ℕ) → 1 + n ≡ 1 → n ≡ 0
        less n h = omega (arith, h)
    by false so once rest =
        let here : times r (definitions (rewritten w (p ∷ is))) ≡ times r (definitions (p ∷ [])) + times r (definitions (rewritten w is)) = step r w p is so in
        let later : times r (definitions (rewritten w is)) + times r (definitions (w.root ∷ [])) ≡ times r (definitions is) + times r (definitions w.made) = rest (alone (uses_among w.root.0 is) 1 (subst (λ t. cond t 1 0 + uses_among w.root.0 is ≡ 1) so once)) in
        let old : times r (definitions (p ∷ is)) ≡ times r (definitions (p ∷ [])) + times r (definitions is) = definitions_append r (p ∷ []) is in
        omega (arith, here, later, old)

-- ══ One at most ══

pub once_after : (w : Rewriting) (f g : FunctionData) → IsRewritten w f g → DefinesAnew w f → ((r : ℕ) → times r (definitions (all_instrs f.blocks)) ≤ 1) → (r : ℕ) → times r (definitions (all_instrs g.blocks)) ≤ 1
once_after w f g is anew once r =
    subst (λ l. times r (definitions l) ≤ 1) (sym (instrs_after w f g is))
    (by (list_any (defines r) w.made) refl (with_root r w (all_instrs f.blocks) is.root is.once))
  where
    Old : ℕ
    Old = times r (definitions (all_instrs f.blocks))

    New : ℕ
    New = times r (definitions (rewritten w (all_instrs f.blocks)))

    by : (t : Bool) → list_any (defines r) w.made ≡ t → New + times r (definitions (w.root ∷ [])) ≡ Old + times r (definitions w.made) → New ≤ 1
    by false so sum =
        let none : times r (definitions w.made) ≡ 0 = none_times r w.made so in
        let old : Old ≤ 1 = once r in
        omega (arith, sum, none, old)
    by true so sum =
        let made : times r (definitions w.made) ≤ 1 = anew.once r in
        let old : Old ≤ 1 = once r in
        ⊎_elim
        (λ own. let root : 1 ≤ times r (definitions (w.root ∷ [])) = defined_times r w.root own in omega (arith, sum, made, old, root))
        (λ fresh. let none : Old ≡ 0 = none_times r (all_instrs f.blocks) fresh.undefined in omega (arith, sum, made, none))
        (anew.own r so)

-- where each is defined once at most, none is told
none_second : (before ds : List (ℕ × ℕ)) → ((r : ℕ) → times r (before ++ ds) ≤ 1) → seconds before ds ≡ []
none_second before [] once = refl
none_second before (d ∷ ds) once = by (times d.1 before == 1) refl (none_second (before ++ d ∷ []) ds (λ r. subst (λ l. times r l ≤ 1) (sym (moved before d ds)) (once r)))
  where
    moved : (before : List (ℕ × ℕ)) (d : ℕ × ℕ) (ds : List (ℕ × ℕ)) → (before ++ d ∷ []) ++ ds ≡ before ++ d ∷ ds
    moved [] d ds = refl
    moved (b ∷ before) d ds = ap (λ l. b ∷ l) (moved before d ds)

    by : (t : Bool) → (times d.1 before == 1) ≡ t → seconds (before ++ d ∷ []) ds ≡ []
        → cond t (fault_at d.0 (DoubleDefinition (reg_of d.1)) ∷ seconds (before ++ d ∷ []) ds) (seconds (before ++ d ∷ []) ds) ≡ []
    by false so rest = rest
    by true so rest =
        let one : times d.1 before ≡ 1 = eqb-true (times d.1 before) 1 so in
        let own : ◌≡◌ {A = ℕ} (cond (d.1 == d.1) 1 0) 1 = ap (λ t. cond t 1 0) (eq-eqb d.1 d.1 refl) in
        let all : times d.1 (before ++ d ∷ ds) ≡ times d.1 before + (cond (d.1 == d.1) 1 0 + times d.1 ds) = times_append d.1 before (d ∷ ds) in
        let most : times d.1 (before ++ d ∷ ds) ≤ 1 = once d.1 in
        absurd (too_many (times d.1 before) (cond (d.1 == d.1) 1 0) (times d.1 ds) (times d.1 (before ++ d ∷ ds)) one own all most)
      where
        too_many : (a b c n : ℕ) → a ≡ 1 → b ≡ 1 → n ≡ a + (b + c) → n ≤ 1 → ⊥
        too_many a b c n h i j k = omega (arith, h, i, j, k)

pub none_defined_twice : (w : Rewriting) (f g : FunctionData) → IsRewritten w f g → DefinesAnew w f → double_definitions f ≡ [] → double_definitions g ≡ []
none_defined_twice w f g is anew none = none_second [] (definitions (all_instrs g.blocks)) (once_after w f g is anew (defined_once f none))
