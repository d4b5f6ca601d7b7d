-- Instructions without the erased one.
use Rattle.std.proofs.Common.{◌≡◌, ℕ, Bool, true, false, cond, ◌==◌, List, [], ◌∷◌, ◌++◌, Some, find, ◌⊎◌, inl, inr, ⊎_elim, refl, sym, ap, ◌∙◌, true≢false}
use Rattle.std.proofs.lemmas.Bool.{and_from, and_parts, or_cases, or_left, or_right, false_from_ne_true}
use Rattle.std.specs.List.{list_all, list_any}
use Rattle.gi_mir.specs.Data.{InstrData, FunctionData}
use Rattle.gi_change_valid.specs.Rewriting.{IsOneOf, rewritten}
use Rattle.gi_rule_valid.proofs.InPlace.{entry_stays}
use Rattle.gi_rule_refines.proofs.Erased.{erasing}

abbrev pub left : (f : FunctionData) (id : ℕ) → (root : InstrData) → List (ℕ × InstrData) → List (ℕ × InstrData)
left f id root is = rewritten (erasing f id root) is

-- an instruction goes, or stays
pub left_next : (f : FunctionData) (id : ℕ) (root : InstrData) (p : ℕ × InstrData) (is : List (ℕ × InstrData)) → left f id root (p ∷ is) ≡ cond (p.0 == id) (left f id root is) (p ∷ left f id root is)
left_next f id root p is = ap (λ q. cond (p.0 == id) [] (q ∷ []) ++ left f id root is) (entry_stays p) ∙ by (p.0 == id)
  where
    by : (t : Bool) → cond t [] (p ∷ []) ++ left f id root is ≡ cond t (left f id root is) (p ∷ left f id root is)
    by true = refl
    by false = refl

-- ══ Tests ══

-- what passes one test passes another, but for the erased one
pub all_left_as : (f : FunctionData) (id : ℕ) (root : InstrData) (old new : ℕ × InstrData → Bool) (is : List (ℕ × InstrData)) → ((p : ℕ × InstrData) → IsOneOf p is → (p.0 == id) ≡ false → old p ≡ true → new p ≡ true)
    → list_all old is ≡ true → list_all new (left f id root is) ≡ true
all_left_as f id root old new [] same all = refl
all_left_as f id root old new (p ∷ is) same all =
    let each = and_parts (old p) (list_all old is) all in
    ap (list_all new) (left_next f id root p is) ∙ by (p.0 == id) refl each.0 (all_left_as f id root old new is (λ q there. same q (inr there)) each.1)
  where
    by : (t : Bool) → (p.0 == id) ≡ t → old p ≡ true → list_all new (left f id root is) ≡ true → list_all new (cond t (left f id root is) (p ∷ left f id root is)) ≡ true
    by true so here rest = rest
    by false so here rest = and_from (new p) (list_all new (left f id root is)) (same p (inl refl) so here) rest

pub all_left : (f : FunctionData) (id : ℕ) (root : InstrData) (test : ℕ × InstrData → Bool) (is : List (ℕ × InstrData)) → list_all test is ≡ true → list_all test (left f id root is) ≡ true
all_left f id root test is all = all_left_as f id root test test is (λ p there other here. here) all

-- none comes to pass
pub any_before : (f : FunctionData) (id : ℕ) (root : InstrData) (test : ℕ × InstrData → Bool) (is : List (ℕ × InstrData)) → list_any test (left f id root is) ≡ true → list_any test is ≡ true
any_before f id root test [] h = cc
any_before f id root test (p ∷ is) h = by (p.0 == id) (any_before f id root test is) (sym (ap (list_any test) (left_next f id root p is)) ∙ h)
  where
    by : (t : Bool) → (list_any test (left f id root is) ≡ true → list_any test is ≡ true) → list_any test (cond t (left f id root is) (p ∷ left f id root is)) ≡ true → list_any test (p ∷ is) ≡ true
    by true rest h = or_right (test p) (list_any test is) (rest h)
    by false rest h = ⊎_elim (λ here. or_left (test p) (list_any test is) here) (λ later. or_right (test p) (list_any test is) (rest later)) (or_cases (test p) (list_any test (left f id root is)) h)

pub none_comes : (f : FunctionData) (id : ℕ) (root : InstrData) (test : ℕ × InstrData → Bool) (is : List (ℕ × InstrData)) → list_any test is ≡ false → list_any test (left f id root is) ≡ false
none_comes f id root test is none = false_from_ne_true (list_any test (left f id root is)) (λ h. true≢false (sym (any_before f id root test is h) ∙ none))

-- the root is the one with its id among these
abbrev pub IsAlone : (id : ℕ) → (root : InstrData) → List (ℕ × InstrData) → Type 0
IsAlone id root is = (p : ℕ × InstrData) → IsOneOf p is → (p.0 == id) ≡ true → p ≡ (id, root)

-- what the erased one doesn't pass, one still passes
pub any_left : (f : FunctionData) (id : ℕ) (root : InstrData) (test : ℕ × InstrData → Bool) → test (id, root) ≡ false → (is : List (ℕ × InstrData)) → IsAlone id root is → list_any test is ≡ true → list_any test (left f id root is) ≡ true
any_left f id root test fails [] own h = cc
any_left f id root test fails (p ∷ is) own h = ap (list_any test) (left_next f id root p is) ∙ by (p.0 == id) refl (any_left f id root test fails is (λ q there. own q (inr there))) (or_cases (test p) (list_any test is) h)
  where
    by : (t : Bool) → (p.0 == id) ≡ t → (list_any test is ≡ true → list_any test (left f id root is) ≡ true) → (test p ≡ true) ⊎ (list_any test is ≡ true) → list_any test (cond t (left f id root is) (p ∷ left f id root is)) ≡ true
    by true so rest either = ⊎_elim (λ here. absurd (true≢false (sym here ∙ ap test (own p (inl refl) so) ∙ fails))) rest either
    by false so rest either = ⊎_elim (λ here. or_left (test p) (list_any test (left f id root is)) here) (λ later. or_right (test p) (list_any test (left f id root is)) (rest later)) either

-- and the first that passes is what it was
pub find_left : (f : FunctionData) (id : ℕ) (root : InstrData) (test : ℕ × InstrData → Bool) → test (id, root) ≡ false → (is : List (ℕ × InstrData)) → IsAlone id root is → find test (left f id root is) ≡ find test is
find_left f id root test fails [] own = refl
find_left f id root test fails (p ∷ is) own = ap (find test) (left_next f id root p is) ∙ by (p.0 == id) refl (find_left f id root test fails is (λ q there. own q (inr there)))
  where
    by : (t : Bool) → (p.0 == id) ≡ t → find test (left f id root is) ≡ find test is → find test (cond t (left f id root is) (p ∷ left f id root is)) ≡ find test (p ∷ is)
    by true so rest = rest ∙ ap (λ t. cond t (Some p) (find test is)) (sym (ap test (own p (inl refl) so) ∙ fails))
    by false so rest = ap (λ o. cond (test p) (Some p) o) rest
