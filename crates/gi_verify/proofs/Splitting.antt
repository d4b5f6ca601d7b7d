-- A list that is split at a place: those in front, the one there and those behind.
use Rattle.std.proofs.Common.{◌≡◌, ℕ, zero, suc, ◌+◌, ◌<◌, ◌≤◌, List, [], ◌∷◌, ◌++◌, Some, length, get_or, slice_get, drop, take, add-one, sym, ap, ◌∙◌, arith}

pub record IsSplit {X : Type 0} (xs : List X) (k : ℕ) (x : X) (after : List X) : Type 0 where
  pub within : k < length xs
  pub here : slice_get xs k ≡ Some x
  pub same : get_or xs k x ≡ x
  pub front : take (k + 1) xs ≡ take k xs ++ x ∷ []
  pub behind : drop (k + 1) xs ≡ after

pub split_at : {X : Type 0} (xs : List X) (k : ℕ) (x : X) (after : List X) → x ∷ after ≡ drop k xs → IsSplit xs k x after
split_at [] zero x after h = absurd (never h)
  where
    never : x ∷ after ≡ [] → ⊥
    never h = cc
split_at [] (suc k) x after h = absurd (never h)
  where
    never : x ∷ after ≡ [] → ⊥
    never h = cc
split_at (y ∷ ys) zero x after h = record {
  within = omega arith;
  here = ap (λ l. slice_get l 0) (sym h);
  same = ap (λ l. get_or l 0 x) (sym h);
  front = ap (λ l. take 1 l) (sym h);
  behind = ap (λ l. drop 1 l) (sym h);
}
split_at (y ∷ ys) (suc k) x after h =
    let rest : IsSplit ys k x after = split_at ys k x after h in
    record {
      within = omega (arith, rest.within);
      here = rest.here;
      same = rest.same;
      front = ap (λ j. take j (y ∷ ys)) (add-one (suc k)) ∙ ap (λ j. y ∷ take j ys) (sym (add-one k)) ∙ ap (λ l. y ∷ l) rest.front;
      behind = ap (λ j. drop j (y ∷ ys)) (add-one (suc k)) ∙ ap (λ j. drop j ys) (sym (add-one k)) ∙ rest.behind;
    }

pub all_split : {X : Type 0} (xs : List X) (k : ℕ) → drop k xs ≡ [] → length xs ≤ k
all_split [] k h = omega arith
all_split (x ∷ xs) zero h = absurd (never h)
  where
    never : x ∷ xs ≡ [] → ⊥
    never h = cc
all_split (x ∷ xs) (suc k) h = let rest : length xs ≤ k = all_split xs k h in omega (arith, rest)
