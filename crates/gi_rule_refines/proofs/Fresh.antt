-- Registers of a use: those that are made are others than its inputs, and each result of the root is kept.
use Rattle.std.proofs.Common.{◌≡◌, ℕ, suc, ◌+◌, ◌≤◌, ◌<◌, Bool, true, false, cond, ◌&&◌, ◌||◌, ◌==◌, List, [], ◌∷◌, ◌++◌, Option, Some, None, length, slice_get, ⊎_elim, refl, sym, ap, ap₂, ◌∙◌, subst, arith, append_assoc, true≢false}
use Rattle.std.specs.Prelude.{zip}
use Rattle.std.proofs.lemmas.Bool.{and_from, or_cases, or_left, or_right, eqb-true, eq-eqb}
use Rattle.gi_meaning.specs.Runs.{is_among}
use Rattle.gi_refine.specs.Lifting.{all_grown, are_all_fresh, are_fresh, grown, is_kept, is_register}
use Rattle.gi_valid.proofs.Single.{often}
use Rattle.gi_change_refines.proofs.Fresh.{all_fresh_flat, flat as flattened, fresh_from}
use Rattle.gi_rule_values.specs.OnValues.{kept_from}
use Rattle.gi_rule_valid.specs.Using.{register_at, target_at}
use Rattle.gi_rule_valid.proofs.Lists.{among, flat}
use Rattle.gi_rule_valid.proofs.Origins.{grown_is}

-- ══ Two words for one test ══

pub turned : (a b : ℕ) → (a == b) ≡ (b == a)
turned a b = by (a == b) (b == a) refl refl
  where
    by : (s t : Bool) → (a == b) ≡ s → (b == a) ≡ t → s ≡ t
    by true true h l = refl
    by false false h l = refl
    by true false h l = absurd (true≢false (sym (eq-eqb b a (sym (eqb-true a b h))) ∙ l))
    by false true h l = absurd (true≢false (sym (eq-eqb a b (sym (eqb-true b a l))) ∙ h))

pub among_is : (r : ℕ) (rs : List ℕ) → is_among r rs ≡ among r rs
among_is r [] = refl
among_is r (q ∷ rs) = ap₂ (λ s t. s || t) (turned r q) (among_is r rs)

pub flat_is : (rss : List (List ℕ)) → flattened rss ≡ flat rss
flat_is [] = refl
flat_is (rs ∷ rss) = ap (λ l. rs ++ l) (flat_is rss)

-- a register among inputs stands at a place
pub record StandsAt (rs : List ℕ) (r : ℕ) : Type 0 where
  pub place : ℕ
  pub below : place < length rs
  pub is : register_at rs place ≡ r

pub stands_at : (r : ℕ) (rs : List ℕ) → among r rs ≡ true → StandsAt rs r
stands_at r [] h = cc
stands_at r (q ∷ rs) h =
    ⊎_elim (λ now. record { place = 0; below = omega arith; is = eqb-true q r now })
    (λ later. let rest = stands_at r rs later in record { place = suc rest.place; below = omega (arith, rest.below); is = rest.is })
    (or_cases (q == r) (among r rs) h)

-- ══ Fresh registers ══

pub all_fresh : (inputs : List ℕ) (rss : List (List ℕ)) → ((r : ℕ) → among r (flat rss) ≡ true → among r inputs ≡ false) → ((r : ℕ) → often r (flat rss) ≤ 1) → are_all_fresh inputs rss ≡ true
all_fresh inputs rss apart once =
    all_fresh_flat inputs rss ∙ ap (are_fresh inputs) (flat_is rss)
    ∙ fresh_from inputs (flat rss) (λ r there. among_is r inputs ∙ apart r (sym (among_is r (flat rss)) ∙ there)) once

-- ══ Behind all that is made ══

pub all_grown_is : (registers : List ℕ) (rss : List (List ℕ)) → all_grown registers rss ≡ registers ++ flat rss
all_grown_is registers [] = sym (nothing registers)
  where
    nothing : (xs : List ℕ) → xs ++ [] ≡ xs
    nothing [] = refl
    nothing (x ∷ xs) = ap (λ l. x ∷ l) (nothing xs)
all_grown_is registers (rs ∷ rss) = all_grown_is (grown registers rs) rss ∙ ap (λ l. l ++ flat rss) (grown_is registers rs) ∙ append_assoc registers rs (flat rss)

pub get_behind : (xs ys : List ℕ) (k : ℕ) → slice_get (xs ++ ys) (length xs + k) ≡ slice_get ys k
get_behind [] ys k = let none : 0 + k ≡ k = omega arith in ap (slice_get ys) none
get_behind (x ∷ xs) ys k = let one : length (x ∷ xs) + k ≡ suc (length xs + k) = omega arith in ap (slice_get (x ∷ xs ++ ys)) one ∙ get_behind xs ys k

-- ══ Kept results ══

self_register : (r : ℕ) (o : Option ℕ) → o ≡ Some r → is_register r o ≡ true
self_register r None h = cc
self_register r (Some q) h = let same : q ≡ r = cc in eq-eqb r q (sym same)

-- the result of the root that is the target of a place, where it stands in the new list
pub kept_target : (before : List ℕ) (new : List ℕ) (places results : List ℕ) (place r k : ℕ) → k ≡ length before → target_at (zip places results) place ≡ Some r → slice_get new place ≡ Some r
    → is_kept (before ++ results) new (kept_from k places) r ≡ true
kept_target before new [] results place r k many at there = cc
kept_target before new (p ∷ places) [] place r k many at there = cc
kept_target before new (p ∷ places) (q ∷ results) place r k many at there = by (place == p) refl at (λ l. kept_target (before ++ q ∷ []) new places results place r (k + 1) longer l there)
  where
    longer : k + 1 ≡ length (before ++ q ∷ [])
    longer = ap (λ n. n + 1) many ∙ more before
      where
        more : (xs : List ℕ) → length xs + 1 ≡ length (xs ++ q ∷ [])
        more [] = refl
        more (x ∷ xs) = let rest : length xs + 1 ≡ length (xs ++ q ∷ []) = more xs in omega (arith, rest)

    here : slice_get (before ++ q ∷ results) k ≡ Some q
    here = ap (slice_get (before ++ q ∷ results)) (many ∙ omega arith) ∙ get_behind before (q ∷ results) 0

    some_is : (a b : ℕ) → Some a ≡ Some b → a ≡ b
    some_is a b h = cc

    by : (b : Bool) → (place == p) ≡ b → cond b (Some q) (target_at (zip places results) place) ≡ Some r
        → (target_at (zip places results) place ≡ Some r → is_kept ((before ++ q ∷ []) ++ results) new (kept_from (k + 1) places) r ≡ true)
        → is_kept (before ++ q ∷ results) new (kept_from k (p ∷ places)) r ≡ true
    by true so at rest =
        or_left (is_register r (slice_get (before ++ q ∷ results) k) && is_register r (slice_get new p)) (is_kept (before ++ q ∷ results) new (kept_from (k + 1) places) r)
        (and_from (is_register r (slice_get (before ++ q ∷ results) k)) (is_register r (slice_get new p)) (self_register r (slice_get (before ++ q ∷ results) k) (here ∙ at)) (self_register r (slice_get new p) (ap (slice_get new) (sym (eqb-true place p so)) ∙ there)))
    by false so at rest =
        or_right (is_register r (slice_get (before ++ q ∷ results) k) && is_register r (slice_get new p)) (is_kept (before ++ q ∷ results) new (kept_from (k + 1) places) r)
        (subst (λ l. is_kept l new (kept_from (k + 1) places) r ≡ true) (append_assoc before (q ∷ []) results) (rest at))
