-- In a function with no second definition, two instructions that define one register are one, and its registers are distinct.
use Rattle.std.proofs.Common.{◌≡◌, ℕ, ◌+◌, ◌≤◌, Bool, true, false, cond, ◌==◌, List, [], ◌∷◌, ◌++◌, map, ◌⊎◌, ⊎_elim, refl, sym, ap, ◌∙◌, subst, arith, true≢false}
use Rattle.std.proofs.lemmas.Bool.{or_cases, eq-eqb, eqb-true, false_from_ne_true}
use Rattle.std.specs.List.{list_any}
use Rattle.gi_mir.specs.Data.{InstrData, FunctionData, reg_of}
use Rattle.gi_mir.specs.Edit.{all_instrs, is_def_of, defines}
use Rattle.gi_mir.specs.declared.operand.Operand.{Operand}
use Rattle.gi_mir.specs.declared.operand.Operand.TheVariants as operand
use Rattle.gi_valid.specs.Faults.{fault_at, definitions, times, seconds}
use Rattle.gi_meaning.specs.InRow.{results_in}
use Rattle.gi_valid.specs.declared.invalid.Invalid.TheVariants.{DoubleDefinition}

-- an element of a list
abbrev pub IsIn : (ℕ × InstrData) → List (ℕ × InstrData) → Type 0
IsIn p [] = ⊥
IsIn p (q ∷ qs) = (p ≡ q) ⊎ IsIn p qs

times_append : (r : ℕ) (xs ys : List (ℕ × ℕ)) → times r (xs ++ ys) ≡ times r xs + times r ys
times_append r [] ys = omega arith
times_append r (d ∷ xs) ys = let h : times r (xs ++ ys) ≡ times r xs + times r ys = times_append r xs ys in omega (arith, h)

-- what the list of second definitions says of its first
record GoesOn (before : List (ℕ × ℕ)) (d : ℕ × ℕ) (ds : List (ℕ × ℕ)) : Type 0 where
  first : (times d.1 before == 1) ≡ false
  later : seconds (before ++ d ∷ []) ds ≡ []

goes_on_by : (before : List (ℕ × ℕ)) (d : ℕ × ℕ) (ds : List (ℕ × ℕ)) (t : Bool) → (times d.1 before == 1) ≡ t
    → cond t (fault_at d.0 (DoubleDefinition (reg_of d.1)) ∷ seconds (before ++ d ∷ []) ds) (seconds (before ++ d ∷ []) ds) ≡ [] → GoesOn before d ds
goes_on_by before d ds true so none = cc
goes_on_by before d ds false so none = record { first = so; later = none }

goes_on : (before : List (ℕ × ℕ)) (d : ℕ × ℕ) (ds : List (ℕ × ℕ)) → seconds before (d ∷ ds) ≡ [] → GoesOn before d ds
goes_on before d ds none = goes_on_by before d ds (times d.1 before == 1) refl none

times_one : (r : ℕ) (before : List (ℕ × ℕ)) (d : ℕ × ℕ) (t : Bool) → (d.1 == r) ≡ t → times r (before ++ d ∷ []) ≡ times r before + cond t 1 0
times_one r before d t so =
    let each : times r (before ++ d ∷ []) ≡ times r before + times r (d ∷ []) = times_append r before (d ∷ []) in
    each ∙ ap (λ b. times r before + (cond b 1 0 + 0)) so ∙ ap (λ n. times r before + n) (no_more (cond t 1 0))
  where
    no_more : (n : ℕ) → n + 0 ≡ n
    no_more n = omega arith

times_first : (r : ℕ) (d : ℕ × ℕ) (ds : List (ℕ × ℕ)) (t : Bool) → (d.1 == r) ≡ t → times r (d ∷ ds) ≡ cond t 1 0 + times r ds
times_first r d ds t so = ap (λ b. cond b 1 0 + times r ds) so

-- behind one definition of it, no other
none_behind : (r : ℕ) (before ds : List (ℕ × ℕ)) → times r before ≡ 1 → seconds before ds ≡ [] → times r ds ≡ 0
none_behind r before [] once none = refl
none_behind r before (d ∷ ds) once none =
    let on : GoesOn before d ds = goes_on before d ds none in
    let other : (d.1 == r) ≡ false =
    false_from_ne_true (d.1 == r) (λ same.
    true≢false (sym (eq-eqb (times d.1 before) 1 (ap (λ k. times k before) (eqb-true d.1 r same) ∙ once)) ∙ on.first)) in
    let more : times r (before ++ d ∷ []) ≡ times r before + 0 = times_one r before d false other in
    let rest : times r ds ≡ 0 = none_behind r (before ++ d ∷ []) ds (omega (arith, more, once)) on.later in
    let all : times r (d ∷ ds) ≡ 0 + times r ds = times_first r d ds false other in
    omega (arith, all, rest)

once_by : (r : ℕ) (before : List (ℕ × ℕ)) (d : ℕ × ℕ) (ds : List (ℕ × ℕ)) → times r before ≡ 0 → GoesOn before d ds
    → (times r (before ++ d ∷ []) ≡ 0 → seconds (before ++ d ∷ []) ds ≡ [] → times r ds ≤ 1) → (t : Bool) → (d.1 == r) ≡ t → times r (d ∷ ds) ≤ 1
once_by r before d ds none_yet on rest true same =
    let more : times r (before ++ d ∷ []) ≡ times r before + 1 = times_one r before d true same in
    let none : times r ds ≡ 0 = none_behind r (before ++ d ∷ []) ds (omega (arith, more, none_yet)) on.later in
    let all : times r (d ∷ ds) ≡ 1 + times r ds = times_first r d ds true same in
    omega (arith, all, none)
once_by r before d ds none_yet on rest false other =
    let more : times r (before ++ d ∷ []) ≡ times r before + 0 = times_one r before d false other in
    let fewer : times r ds ≤ 1 = rest (omega (arith, more, none_yet)) on.later in
    let all : times r (d ∷ ds) ≡ 0 + times r ds = times_first r d ds false other in
    omega (arith, all, fewer)

at_most_once : (r : ℕ) (before ds : List (ℕ × ℕ)) → times r before ≡ 0 → seconds before ds ≡ [] → times r ds ≤ 1
at_most_once r before [] none_yet none = omega arith
at_most_once r before (d ∷ ds) none_yet none =
    once_by r before d ds none_yet (goes_on before d ds none) (λ none_so_far later. at_most_once r (before ++ d ∷ []) ds none_so_far later) (d.1 == r) refl

-- ══ Instructions ══

abbrev lined : (ℕ × InstrData) → List (ℕ × ℕ)
lined p = map (λ r. (p.1.line, r)) (results_in p.1.operands)

-- how often a register is among others
abbrev pub often : (r : ℕ) → List ℕ → ℕ
often r [] = 0
often r (q ∷ qs) = cond (q == r) 1 0 + often r qs

times_lined : (r line : ℕ) (qs : List ℕ) → times r (map (λ q. (line, q)) qs) ≡ often r qs
times_lined r line [] = refl
times_lined r line (q ∷ qs) = ap (λ n. cond (q == r) 1 0 + n) (times_lined r line qs)

defined_often : (r : ℕ) (os : List Operand) → list_any (is_def_of r) os ≡ true → 1 ≤ often r (results_in os)
defined_often r [] h = cc
defined_often r (operand.Def q kind ∷ os) h =
    ⊎_elim
    (λ here. let one : ◌≡◌ {A = ℕ} (cond (q.0 == r) 1 0) 1 = ap (λ t. cond t 1 0) here in omega (arith, one))
    (λ later. let more : 1 ≤ often r (results_in os) = defined_often r os later in omega (arith, more))
    (or_cases (q.0 == r) (list_any (is_def_of r) os) h)
defined_often r (_ ∷ os) h = defined_often r os h

defined_times : (r : ℕ) (p : ℕ × InstrData) → defines r p ≡ true → 1 ≤ times r (lined p)
defined_times r p h = subst (λ n. 1 ≤ n) (sym (times_lined r p.1.line (results_in p.1.operands))) (defined_often r p.1.operands h)

is_in_times : (r : ℕ) (p : ℕ × InstrData) (is : List (ℕ × InstrData)) → IsIn p is → defines r p ≡ true → 1 ≤ times r (definitions is)
is_in_times r p [] there h = absurd there
is_in_times r p (i ∷ is) there h =
    let all : times r (lined i ++ definitions is) ≡ times r (lined i) + times r (definitions is) = times_append r (lined i) (definitions is) in
    ⊎_elim
    (λ same. let one : 1 ≤ times r (lined i) = subst (λ k. 1 ≤ times r (lined k)) same (defined_times r p h) in omega (arith, all, one))
    (λ later. let one : 1 ≤ times r (definitions is) = is_in_times r p is later h in omega (arith, all, one)) there

-- two that define a register are one
pub one_definition : (r : ℕ) (is : List (ℕ × InstrData)) → times r (definitions is) ≤ 1 → (p q : ℕ × InstrData) → IsIn p is → IsIn q is → defines r p ≡ true → defines r q ≡ true → p ≡ q
one_definition r [] once p q there then h l = absurd there
one_definition r (i ∷ is) once p q there then h l =
    let all : times r (lined i ++ definitions is) ≡ times r (lined i) + times r (definitions is) = times_append r (lined i) (definitions is) in
    ⊎_elim
    (λ same. ⊎_elim
    (λ same'. same ∙ sym same')
    (λ later'.
    let one : 1 ≤ times r (lined i) = subst (λ k. 1 ≤ times r (lined k)) same (defined_times r p h) in
    let other : 1 ≤ times r (definitions is) = is_in_times r q is later' l in absurd (too_many (times r (lined i)) (times r (definitions is)) all once one other)) then)
    (λ later. ⊎_elim
    (λ same'.
    let one : 1 ≤ times r (lined i) = subst (λ k. 1 ≤ times r (lined k)) same' (defined_times r q l) in
    let other : 1 ≤ times r (definitions is) = is_in_times r p is later h in absurd (too_many (times r (lined i)) (times r (definitions is)) all once one other))
    (λ later'. one_definition r is (fewer (times r (lined i)) (times r (definitions is)) all once) p q later later' h l) then) there
  where
    too_many : (m n : ℕ) → times r (lined i ++ definitions is) ≡ m + n → times r (definitions (i ∷ is)) ≤ 1 → 1 ≤ m → 1 ≤ n → ⊥
    too_many m n all once one other = omega (arith, all, once, one, other)

    fewer : (m n : ℕ) → times r (lined i ++ definitions is) ≡ m + n → times r (definitions (i ∷ is)) ≤ 1 → n ≤ 1
    fewer m n all once = omega (arith, all, once)

pub defined_once : (f : FunctionData) → seconds [] (definitions (all_instrs f.blocks)) ≡ [] → (r : ℕ) → times r (definitions (all_instrs f.blocks)) ≤ 1
defined_once f none r = at_most_once r [] (definitions (all_instrs f.blocks)) refl none

-- the registers of one instruction are distinct
pub results_once : (r : ℕ) (is : List (ℕ × InstrData)) → times r (definitions is) ≤ 1 → (p : ℕ × InstrData) → IsIn p is → often r (results_in p.1.operands) ≤ 1
results_once r [] once p there = absurd there
results_once r (i ∷ is) once p there =
    let all : times r (lined i ++ definitions is) ≡ times r (lined i) + times r (definitions is) = times_append r (lined i) (definitions is) in
    let here : times r (lined i) ≡ often r (results_in i.1.operands) = times_lined r i.1.line (results_in i.1.operands) in
    ⊎_elim
    (λ same. subst (λ (k : ℕ × InstrData). often r (results_in k.1.operands) ≤ 1) (sym same) (bounded (times r (lined i)) (times r (definitions is)) (often r (results_in i.1.operands)) all once here))
    (λ later. results_once r is (rest (times r (lined i)) (times r (definitions is)) all once) p later) there
  where
    bounded : (m n k : ℕ) → times r (lined i ++ definitions is) ≡ m + n → times r (definitions (i ∷ is)) ≤ 1 → m ≡ k → k ≤ 1
    bounded m n k all once here = omega (arith, all, once, here)

    rest : (m n : ℕ) → times r (lined i ++ definitions is) ≡ m + n → times r (definitions (i ∷ is)) ≤ 1 → n ≤ 1
    rest m n all once = omega (arith, all, once)
