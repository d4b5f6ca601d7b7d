-- Lists of ids in layout order.
use Rattle.std.proofs.Common.{◌≡◌, ℕ, zero, suc, ◌<◌, ◌≤◌, Bool, true, false, not, ◌||◌, cond, List, [], ◌∷◌, ◌++◌, length, take, drop, get_or, set, refl, ap, arith, eq-eqb}
use Rattle.std.specs.Prelude.{insert, ◌==◌, map}
use Rattle.std.specs.List.{list_any}
use Rattle.std.specs.List.Sorted.{IsPartitionPoint}
use Rattle.gi_mir.specs.declared.block.InstrId.{InstrId}
use Rattle.gi_mir.specs.Mentions.{has_at, noted, without}

-- ---- a list with one more id, where the ids that precede it come first

pub noted-there : (p : InstrId → Bool) (id : InstrId) (ids : List InstrId) (r : ℕ) → IsPartitionPoint (λ x. p x ≡ true) (λ x. p x ≡ false) ids r → has_at ids r id ≡ true → ids ≡ noted p id ids
noted-there p id [] r point found = cc
noted-there p id (x ∷ xs) zero point found = rw (point.1 0 x (omega arith) (omega arith), found) refl
noted-there p id (x ∷ xs) (suc r) point found =
    rw (point.0 0 x (omega arith) (omega arith))
    (ap (λ ys. x ∷ ys) (noted-there p id xs r (
      (λ k d ge lt. point.0 (suc k) d (omega arith) (omega arith)),
      (λ k d ge lt. point.1 (suc k) d (omega arith) (omega arith)),
    ) found))

pub noted-new : (p : InstrId → Bool) (id : InstrId) (ids : List InstrId) (r : ℕ) → r ≤ length ids → IsPartitionPoint (λ x. p x ≡ true) (λ x. p x ≡ false) ids r → has_at ids r id ≡ false → insert ids r id ≡ noted p id ids
noted-new p id [] zero bound point apart = refl
noted-new p id [] (suc r) bound point apart = absurd (omega arith)
noted-new p id (x ∷ xs) zero bound point apart = rw (point.1 0 x (omega arith) (omega arith), apart) refl
noted-new p id (x ∷ xs) (suc r) bound point apart =
    rw (point.0 0 x (omega arith) (omega arith))
    (ap (λ ys. x ∷ ys) (noted-new p id xs r (omega arith) (
      (λ k d ge lt. point.0 (suc k) d (omega arith) (omega arith)),
      (λ k d ge lt. point.1 (suc k) d (omega arith) (omega arith)),
    ) apart))

-- ---- noting twice, and taking out what was noted

pub noted-twice : (p : InstrId → Bool) (id : InstrId) (ids : List InstrId) → p id ≡ false → noted p id (noted p id ids) ≡ noted p id ids
noted-twice p id [] own = rw (own, eq-eqb id.0 id.0 refl) refl
noted-twice p id (x ∷ xs) own = by (noted-twice p id xs own) (p x) refl (x.0 == id.0) refl
  where
    by : noted p id (noted p id xs) ≡ noted p id xs → (b : Bool) → p x ≡ b → (e : Bool) → (x.0 == id.0) ≡ e → noted p id (cond b (x ∷ noted p id xs) (cond e (x ∷ xs) (id ∷ x ∷ xs))) ≡ cond b (x ∷ noted p id xs) (cond e (x ∷ xs) (id ∷ x ∷ xs))
    by again true h e g = rw h (ap (λ ys. x ∷ ys) again)
    by again false h true g = rw (h, g) refl
    by again false h false g = rw (own, eq-eqb id.0 id.0 refl) refl

pub without-fresh : (id : InstrId) (ids : List InstrId) → list_any (λ x. x.0 == id.0) ids ≡ false → without id ids ≡ ids
without-fresh id [] h = refl
without-fresh id (x ∷ xs) h = by (x.0 == id.0) refl h (without-fresh id xs)
  where
    by : (e : Bool) → (x.0 == id.0) ≡ e → (e || list_any (λ y. y.0 == id.0) xs) ≡ false → (list_any (λ y. y.0 == id.0) xs ≡ false → without id xs ≡ xs) → cond (not e) (x ∷ without id xs) (without id xs) ≡ x ∷ xs
    by true g h more = cc
    by false g h more = ap (λ ys. x ∷ ys) (more h)

pub without-noted : (p : InstrId → Bool) (id : InstrId) (ids : List InstrId) → list_any (λ x. x.0 == id.0) ids ≡ false → without id (noted p id ids) ≡ ids
without-noted p id [] h = rw (eq-eqb id.0 id.0 refl) refl
without-noted p id (x ∷ xs) h = by (p x) (x.0 == id.0) refl h (without-noted p id xs)
  where
    by : (b e : Bool) → (x.0 == id.0) ≡ e → (e || list_any (λ y. y.0 == id.0) xs) ≡ false → (list_any (λ y. y.0 == id.0) xs ≡ false → without id (noted p id xs) ≡ xs) → without id (cond b (x ∷ noted p id xs) (cond e (x ∷ xs) (id ∷ x ∷ xs))) ≡ x ∷ xs
    by b true g h more = cc
    by true false g h more = rw g (ap (λ ys. x ∷ ys) (more h))
    by false false g h more = rw (eq-eqb id.0 id.0 refl, g) (ap (λ ys. x ∷ ys) (without-fresh id xs h))

pub without-twice : (id : InstrId) (ids : List InstrId) → without id (without id ids) ≡ without id ids
without-twice id [] = refl
without-twice id (x ∷ xs) = by (without-twice id xs) (x.0 == id.0) refl
  where
    by : without id (without id xs) ≡ without id xs → (e : Bool) → (x.0 == id.0) ≡ e → without id (cond (not e) (x ∷ without id xs) (without id xs)) ≡ cond (not e) (x ∷ without id xs) (without id xs)
    by again true g = again
    by again false g = rw g (ap (λ ys. x ∷ ys) again)

-- ---- a list that is mapped in place

pub map-step : {X : Type 0} (f : X → X) (xs : List X) (i : ℕ) (d : X) → i < length xs → set (map f (take i xs) ++ drop i xs) i (f (get_or (map f (take i xs) ++ drop i xs) i d)) ≡ map f (take (suc i) xs) ++ drop (suc i) xs
map-step f [] i d h = absurd (omega arith)
map-step f (x ∷ xs) zero d h = refl
map-step f (x ∷ xs) (suc i) d h = ap (λ ys. f x ∷ ys) (map-step f xs i d (omega arith))
