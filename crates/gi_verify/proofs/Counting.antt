-- Definitions counted one after the other.
use Rattle.std.proofs.Common.{◌≡◌, ℕ, zero, suc, ◌+◌, Bool, true, false, cond, ◌||◌, ◌==◌, List, [], ◌∷◌, ◌++◌, Some, is_some, refl, sym, ap, ◌∙◌, arith}
use Rattle.std.proofs.lemmas.Bool.{eq-eqb, eqb-true, false_from_ne_true}
use Rattle.gi_meaning.specs.Runs.{is_among}
use Rattle.gi_valid.specs.Faults.{count_of, times}
use Rattle.gi_verify.specs.Counted.{counted, kept_of, once_more, is_once, AreCounted, AreTallied}
use Rattle.gi_verify.specs.declared.definitions.Counted.{Counted}

pub once_kept : (n : ℕ) → is_once (kept_of n) ≡ (n == 1)
once_kept zero = refl
once_kept (suc zero) = refl
once_kept (suc (suc n)) = sym (false_from_ne_true (suc (suc n) == 1) (λ h. not_one n (eqb-true (suc (suc n)) 1 h)))
  where
    not_one : (n : ℕ) → suc (suc n) ≡ 1 → ⊥
    not_one n h = omega (arith, h)

one_kept : (n : ℕ) → Some (once_more (kept_of n)) ≡ kept_of (n + 1)
one_kept zero = refl
one_kept (suc zero) = refl
one_kept (suc (suc n)) = ap kept_of (next n)
  where
    next : (n : ℕ) → suc (suc (suc n)) ≡ suc (suc n) + 1
    next n = omega arith

no_more : (n : ℕ) → n + 0 ≡ n
no_more n = omega arith

times_append : (r : ℕ) (xs ys : List (ℕ × ℕ)) → times r (xs ++ ys) ≡ times r xs + times r ys
times_append r [] ys = omega arith
times_append r (d ∷ xs) ys = let h : times r (xs ++ ys) ≡ times r xs + times r ys = times_append r xs ys in omega (arith, h)

times_one : (r : ℕ) (before : List (ℕ × ℕ)) (d : ℕ × ℕ) (t : Bool) → (d.1 == r) ≡ t → times r (before ++ d ∷ []) ≡ times r before + cond t 1 0
times_one r before d t so =
    times_append r before (d ∷ []) ∙ ap (λ b. times r before + (cond b 1 0 + 0)) so ∙ ap (λ n. times r before + n) (no_more (cond t 1 0))

-- one more definition of one register
pub one_counted : (before : List (ℕ × ℕ)) (d : ℕ × ℕ) (old new : Counted) → AreCounted before old
    → ((q : ℕ) → counted new q ≡ cond (d.1 == q) (Some (once_more (counted old d.1))) (counted old q)) → AreCounted (before ++ d ∷ []) new
one_counted before d old new kept set = record { each = λ r. set r ∙ by r (d.1 == r) refl }
  where
    by : (r : ℕ) (t : Bool) → (d.1 == r) ≡ t → cond t (Some (once_more (counted old d.1))) (counted old r) ≡ kept_of (times r (before ++ d ∷ []))
    by r true so =
        ap (λ q. Some (once_more (counted old q))) (eqb-true d.1 r so)
        ∙ ap (λ c. Some (once_more c)) (kept.each r)
        ∙ one_kept (times r before)
        ∙ ap kept_of (sym (times_one r before d true so))
    by r false so = kept.each r ∙ ap kept_of (sym (times_one r before d false so ∙ no_more (times r before)))

-- ══ Numbers of a list ══

pub none_tallied : (kept : Counted) → AreCounted [] kept → AreTallied [] kept
none_tallied kept are = record { each = are.each }

pub once_tallied : (n : ℕ) (list : List ℕ) (kept : Counted) → AreTallied list kept → is_once (counted kept n) ≡ (count_of n list == 1)
once_tallied n list kept are = ap is_once (are.each n) ∙ once_kept (count_of n list)

pub swapped : (m n : ℕ) → (m == n) ≡ (n == m)
swapped m n = by (m == n) (n == m) refl refl
  where
    by : (s t : Bool) → (m == n) ≡ s → (n == m) ≡ t → s ≡ t
    by true true h g = refl
    by false false h g = refl
    by true false h g = sym (eq-eqb n m (sym (eqb-true m n h))) ∙ g
    by false true h g = sym h ∙ eq-eqb m n (sym (eqb-true n m g))

one_on : (k : ℕ) → 1 + k ≡ suc k
one_on k = omega arith

none_on : (k : ℕ) → 0 + k ≡ k
none_on k = omega arith

some_kept : (k : ℕ) → is_some (kept_of (suc k)) ≡ true
some_kept zero = refl
some_kept (suc k) = refl

among_counted : (n : ℕ) (list : List ℕ) → is_some (kept_of (count_of n list)) ≡ is_among n list
among_counted n [] = refl
among_counted n (c ∷ cs) = ap (λ t. is_some (kept_of (cond t 1 0 + count_of n cs))) (swapped c n) ∙ by (n == c) (among_counted n cs)
  where
    by : (t : Bool) → is_some (kept_of (count_of n cs)) ≡ is_among n cs → is_some (kept_of (cond t 1 0 + count_of n cs)) ≡ (t || is_among n cs)
    by true h = ap (λ m. is_some (kept_of m)) (one_on (count_of n cs)) ∙ some_kept (count_of n cs)
    by false h = ap (λ m. is_some (kept_of m)) (none_on (count_of n cs)) ∙ h

pub among_tallied : (n : ℕ) (list : List ℕ) (kept : Counted) → AreTallied list kept → is_some (counted kept n) ≡ is_among n list
among_tallied n list kept are = ap is_some (are.each n) ∙ among_counted n list

count_with : (n : ℕ) (xs : List ℕ) (c : ℕ) → count_of n (xs ++ c ∷ []) ≡ count_of n xs + cond (c == n) 1 0
count_with n [] c = no_more (cond (c == n) 1 0) ∙ sym (none_on (cond (c == n) 1 0))
count_with n (x ∷ xs) c =
    ap (λ m. cond (x == n) 1 0 + m) (count_with n xs c) ∙ three (cond (x == n) 1 0) (count_of n xs) (cond (c == n) 1 0)
  where
    three : (k m l : ℕ) → k + (m + l) ≡ k + m + l
    three k m l = omega arith

pub one_tallied : (xs : List ℕ) (c : ℕ) (old new : Counted) → AreTallied xs old → ((q : ℕ) → counted new q ≡ cond (c == q) (Some (once_more (counted old c))) (counted old q)) → AreTallied (xs ++ c ∷ []) new
one_tallied xs c old new kept set = record { each = λ n. set n ∙ by n (c == n) refl }
  where
    by : (n : ℕ) (t : Bool) → (c == n) ≡ t → cond t (Some (once_more (counted old c))) (counted old n) ≡ kept_of (count_of n (xs ++ c ∷ []))
    by n true so =
        ap (λ q. Some (once_more (counted old q))) (eqb-true c n so)
        ∙ ap (λ o. Some (once_more o)) (kept.each n)
        ∙ one_kept (count_of n xs)
        ∙ ap kept_of (sym (count_with n xs c ∙ ap (λ t. count_of n xs + cond t 1 0) so))
    by n false so = kept.each n ∙ ap kept_of (sym (count_with n xs c ∙ ap (λ t. count_of n xs + cond t 1 0) so ∙ no_more (count_of n xs)))
