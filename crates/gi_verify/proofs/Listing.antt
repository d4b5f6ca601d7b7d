-- Lists of numbers with the place of each.
use Rattle.std.proofs.Common.{◌≡◌, ℕ, suc, Bool, true, false, cond, ◌||◌, ◌==◌, List, [], ◌∷◌, ◌++◌, Option, None, Some, is_some, option_map, length, get_or, if◌then◌else◌, refl, sym, ap, subst, ◌∙◌, arith, true≢false}
use Rattle.std.specs.BTreeMap.{BTreeMap, get}
use Rattle.std.specs.Ordering.{nat_cmp}
use Rattle.std.proofs.lemmas.Bool.{or_parts, eq-eqb, eqb-true}
use Rattle.std.proofs.lemmas.Bool.Decides.{nat_tests}
use Rattle.std.proofs.lemmas.Option.{same_Some}
use Rattle.gi_meaning.specs.Runs.{is_among}
use Rattle.gi_verify.specs.Sets.{place_of, HasPlaces}

pub place_there : (xs : List ℕ) (k : ℕ) → is_some (place_of xs k) ≡ is_among k xs
place_there [] k = refl
place_there (x ∷ xs) k = by (k == x) (place_of xs k) (place_there xs k)
  where
    by : (t : Bool) (o : Option ℕ) → is_some o ≡ is_among k xs → is_some (cond t (Some 0) (option_map suc o)) ≡ (t || is_among k xs)
    by true o h = refl
    by false None h = h
    by false (Some i) h = h

pub place_is : (xs : List ℕ) (k i : ℕ) → place_of xs k ≡ Some i → k ≡ get_or xs i 0
place_is [] k i h = cc
place_is (x ∷ xs) k i h = by (k == x) (place_of xs k) refl i h (λ j is. place_is xs k j is)
  where
    by : (t : Bool) (o : Option ℕ) → (k == x) ≡ t → (i : ℕ) → cond t (Some 0) (option_map suc o) ≡ Some i → ((j : ℕ) → o ≡ Some j → k ≡ get_or xs j 0) → k ≡ get_or (x ∷ xs) i 0
    by true o so i h rest = eqb-true k x so ∙ ap (λ j. get_or (x ∷ xs) j 0) (same_Some 0 i h)
    by false None so i h rest = cc
    by false (Some j) so i h rest = rest j refl ∙ ap (λ l. get_or (x ∷ xs) l 0) (same_Some (suc j) i h)

place_last : (xs : List ℕ) (k : ℕ) → is_among k xs ≡ false → place_of (xs ++ k ∷ []) k ≡ Some (length xs)
place_last [] k h = ap (λ t. cond t (Some 0) None) (eq-eqb k k refl)
place_last (x ∷ xs) k h =
    let both : ((k == x) ≡ false) × (is_among k xs ≡ false) = or_parts (k == x) (is_among k xs) h in
    ap (λ t. cond t (Some 0) (option_map suc (place_of (xs ++ k ∷ []) k))) both.0 ∙ ap (option_map suc) (place_last xs k both.1)

place_other : (xs : List ℕ) (k q : ℕ) → (q == k) ≡ false → place_of (xs ++ k ∷ []) q ≡ place_of xs q
place_other [] k q h = ap (λ t. cond t (Some 0) None) h
place_other (x ∷ xs) k q h = ap (λ o. cond (q == x) (Some 0) (option_map suc o)) (place_other xs k q h)

pub noted_last : (old new : BTreeMap ℕ ℕ) (order more : List ℕ) (k : ℕ) → HasPlaces old order → is_among k order ≡ false → ((q : ℕ) → get nat_cmp new q ≡ (if k == q then Some (length order) else get nat_cmp old q)) → more ≡ order ++ k ∷ [] → HasPlaces new more
noted_last old new order more k are absent noted grown = record { at = λ q. noted q ∙ by q (k == q) refl ∙ sym (ap (λ l. place_of l q) grown) }
  where
    by : (q : ℕ) (t : Bool) → k == q ≡ t → (if t then Some (length order) else get nat_cmp old q) ≡ place_of (order ++ k ∷ []) q
    by q true h = sym (subst (λ n. place_of (order ++ k ∷ []) n ≡ Some (length order)) (eqb-true k q h) (place_last order k absent))
    by q false h =
        let apart : q == k ≡ false = grind (arith, nat_tests, h) in
        are.at q ∙ sym (place_other order k q apart)

pub noted_same : (old new : BTreeMap ℕ ℕ) (order : List ℕ) → HasPlaces old order → ((q : ℕ) → get nat_cmp new q ≡ get nat_cmp old q) → HasPlaces new order
noted_same old new order are same = record { at = λ q. same q ∙ are.at q }

place_absent : (xs : List ℕ) (k : ℕ) → is_among k xs ≡ false → place_of xs k ≡ None
place_absent xs k h = by (place_of xs k) (place_there xs k ∙ h)
  where
    by : (o : Option ℕ) → is_some o ≡ false → o ≡ None
    by None l = refl
    by (Some i) l = absurd (true≢false l)

pub noted_not : (old mid new : BTreeMap ℕ ℕ) (order more : List ℕ) (k place : ℕ) → HasPlaces old order → is_among k order ≡ false → ((q : ℕ) → get nat_cmp mid q ≡ (if k == q then Some place else get nat_cmp old q))
    → ((q : ℕ) → get nat_cmp new q ≡ (if k == q then None else get nat_cmp mid q)) → more ≡ order → HasPlaces new more
noted_not old mid new order more k place are absent noted forgot same = record { at = λ q. forgot q ∙ ap (λ o. if k == q then None else o) (noted q) ∙ by q (k == q) refl ∙ sym (ap (λ l. place_of l q) same) }
  where
    by : (q : ℕ) (t : Bool) → k == q ≡ t → (if t then None else (if t then Some place else get nat_cmp old q)) ≡ place_of order q
    by q true h = sym (subst (λ n. place_of order n ≡ None) (eqb-true k q h) (place_absent order k absent))
    by q false h = are.at q
