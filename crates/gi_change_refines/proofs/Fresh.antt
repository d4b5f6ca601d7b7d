-- Registers that are new, covered or not hidden.
use Rattle.std.proofs.Common.{◌≡◌, ℕ, Bool, true, false, not, ◌==◌, List, [], ◌∷◌, refl, ap, ◌+◌, ◌≤◌, cond, ◌&&◌, ◌||◌, ◌++◌, ⊎_elim, sym, ◌∙◌, subst, arith}
use Rattle.std.proofs.lemmas.Bool.{or_left, or_right, and_from, eq-eqb, or_cases, eqb-true, false_from_ne_true, or_from}
use Rattle.gi_meaning.specs.Runs.{is_among}
use Rattle.gi_refine.specs.Lifting.{none_hidden, are_all_fresh, are_fresh, grown, all_covered, are_covered}
use Rattle.gi_refine.specs.OnePlace.{only_virtual}
use Rattle.gi_valid.proofs.Single.{often}
use Rattle.gi_meaning.specs.State.{Place, Virtual}

pub none_seen : (hidden : ℕ → Bool) (rs : List ℕ) → ((r : ℕ) → is_among r rs ≡ true → hidden r ≡ false) → none_hidden (only_virtual hidden) rs ≡ true
none_seen hidden [] each = refl
none_seen hidden (r ∷ rs) each =
    and_from (not (hidden r)) (none_hidden (only_virtual hidden) rs) (ap not (each r (or_left (r == r) (is_among r rs) (eq-eqb r r refl)))) (none_seen hidden rs (λ q there. each q (or_right (q == r) (is_among q rs) there)))

-- ══ Lists of lists ══

abbrev pub flat : List (List ℕ) → List ℕ
flat [] = []
flat (rs ∷ rss) = rs ++ flat rss

and_assoc : (a b c : Bool) → (a && (b && c)) ≡ ((a && b) && c)
and_assoc true b c = refl
and_assoc false b c = refl

fresh_append : (rs xs ys : List ℕ) → are_fresh rs (xs ++ ys) ≡ (are_fresh rs xs && are_fresh (grown rs xs) ys)
fresh_append rs [] ys = refl
fresh_append rs (x ∷ xs) ys =
    ap (λ t. not (is_among x rs) && t) (fresh_append (rs ++ x ∷ []) xs ys) ∙ and_assoc (not (is_among x rs)) (are_fresh (rs ++ x ∷ []) xs) (are_fresh (grown (rs ++ x ∷ []) xs) ys)

pub all_fresh_flat : (rs : List ℕ) (rss : List (List ℕ)) → are_all_fresh rs rss ≡ are_fresh rs (flat rss)
all_fresh_flat rs [] = refl
all_fresh_flat rs (xs ∷ rss) = ap (λ t. are_fresh rs xs && t) (all_fresh_flat (grown rs xs) rss) ∙ sym (fresh_append rs xs (flat rss))

-- ══ Fresh registers ══

pub among_append : (r : ℕ) (xs ys : List ℕ) → is_among r (xs ++ ys) ≡ (is_among r xs || is_among r ys)
among_append r [] ys = refl
among_append r (x ∷ xs) ys = ap (λ t. (r == x) || t) (among_append r xs ys) ∙ or_assoc (r == x) (is_among r xs) (is_among r ys)
  where
    or_assoc : (a b c : Bool) → (a || (b || c)) ≡ ((a || b) || c)
    or_assoc true b c = refl
    or_assoc false b c = refl

often_there : (r : ℕ) (rs : List ℕ) → is_among r rs ≡ true → 1 ≤ often r rs
often_there r [] h = cc
often_there r (q ∷ rs) h =
    ⊎_elim (λ now. first (cond (q == r) 1 0) (often r rs) (ap (λ t. cond t 1 0) (eq-eqb q r (sym (eqb-true r q now))))) (λ later. more (cond (q == r) 1 0) (often r rs) (often_there r rs later)) (or_cases (r == q) (is_among r rs) h)
  where
    first : (m n : ℕ) → m ≡ 1 → 1 ≤ m + n
    first m n one = omega (arith, one)

    more : (m n : ℕ) → 1 ≤ n → 1 ≤ m + n
    more m n some = omega (arith, some)

-- other registers than these, and no two alike
pub fresh_from : (regs rs : List ℕ) → ((r : ℕ) → is_among r rs ≡ true → is_among r regs ≡ false) → ((r : ℕ) → often r rs ≤ 1) → are_fresh regs rs ≡ true
fresh_from regs [] apart once = refl
fresh_from regs (q ∷ rs) apart once =
    and_from (not (is_among q regs)) (are_fresh (regs ++ q ∷ []) rs) (ap not (apart q (or_left (q == q) (is_among q rs) (eq-eqb q q refl)))) (fresh_from (regs ++ q ∷ []) rs apart_then (λ r. less (cond (q == r) 1 0) (often r rs) (once r)))
  where
    less : (m n : ℕ) → m + n ≤ 1 → n ≤ 1
    less m n h = omega (arith, h)

    twice : (m n : ℕ) → m ≡ 1 → 1 ≤ n → m + n ≤ 1 → ⊥
    twice m n one some most = omega (arith, one, some, most)

    other : (r : ℕ) → is_among r rs ≡ true → (r == q) ≡ false
    other r there =
        false_from_ne_true (r == q) (λ same. twice (cond (q == q) 1 0) (often q rs) (ap (λ t. cond t 1 0) (eq-eqb q q refl)) (often_there q rs (subst (λ k. is_among k rs ≡ true) (eqb-true r q same) there)) (once q))

    apart_then : (r : ℕ) → is_among r rs ≡ true → is_among r (regs ++ q ∷ []) ≡ false
    apart_then r there = among_append r regs (q ∷ []) ∙ or_from (is_among r regs) ((r == q) || false) (apart r (or_right (r == q) (is_among r rs) there)) (or_from (r == q) false (other r there) refl)

are_covered_from : (after : Place → Bool) (kept : ℕ → Bool) (rs : List ℕ) → ((r : ℕ) → is_among r rs ≡ true → (kept r || after (Virtual r)) ≡ true) → are_covered after kept rs ≡ true
are_covered_from after kept [] each = refl
are_covered_from after kept (r ∷ rs) each =
    and_from (kept r || after (Virtual r)) (are_covered after kept rs) (each r (or_left (r == r) (is_among r rs) (eq-eqb r r refl))) (are_covered_from after kept rs (λ q there. each q (or_right (q == r) (is_among q rs) there)))

pub covered_from : (after : Place → Bool) (kept : ℕ → Bool) (rss : List (List ℕ)) → ((r : ℕ) → is_among r (flat rss) ≡ true → (kept r || after (Virtual r)) ≡ true) → all_covered after kept rss ≡ true
covered_from after kept [] each = refl
covered_from after kept (rs ∷ rss) each =
    and_from (are_covered after kept rs) (all_covered after kept rss)
    (are_covered_from after kept rs (λ r there. each r (among_append r rs (flat rss) ∙ or_left (is_among r rs) (is_among r (flat rss)) there)))
    (covered_from after kept rss (λ r there. each r (among_append r rs (flat rss) ∙ or_right (is_among r rs) (is_among r (flat rss)) there)))
