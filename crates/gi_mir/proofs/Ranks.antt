-- Lists in which an id stands right behind those that precede it.
use Rattle.std.proofs.Common.{◌≡◌, ℕ, zero, suc, ◌<◌, ◌≤◌, Bool, true, false, not, ◌||◌, cond, List, [], ◌∷◌, ◌++◌, ◌⊎◌, inl, inr, ⊎_elim, length, get_or, refl, ap, arith}
use Rattle.std.specs.Prelude.{◌==◌, remove}
use Rattle.std.specs.List.{list_any}
use Rattle.std.specs.List.Sorted.{IsPartitionedBy, IsPartitionPoint}
use Rattle.gi_mir.specs.declared.block.InstrId.{InstrId}
use Rattle.gi_mir.specs.declared.mentions.Mentions.{Mentions}
use Rattle.gi_mir.specs.declared.operand.Operand.{Operand}
use Rattle.gi_mir.specs.declared.place.Place.{Place}
use Rattle.gi_mir.specs.Data.{InstrData}
use Rattle.gi_mir.specs.Mentions.{has_at, is_mention, mentioning, precedes, noted, without, listed, IsInRank, HasSameLists, IsSorted, AreInRank, Lacks, IsNoted, IsForgotten}
use Rattle.gi_mir.proofs.Lists.{without-fresh}
use Rattle.gi_mir.proofs.Mentioned.{Each, Each-get_or, Each-mentioning, Each-weaker, IsSplit, IsListedAs, one_if}

-- ---- a list without an id

pub absent-without : (id : InstrId) (ids : List InstrId) → ((at : ℕ) → has_at ids at id ≡ false) → ids ≡ without id ids
absent-without id [] none = refl
absent-without id (x ∷ xs) none = rw (none 0) (ap (λ ys. x ∷ ys) (absent-without id xs (λ at. none (suc at))))

test_cases : (b : Bool) → (b ≡ true) ⊎ (b ≡ false)
test_cases true = inl refl
test_cases false = inr refl

pub tail-sorted : (p : InstrId → Bool) (x : InstrId) (xs : List InstrId) → IsPartitionedBy p (x ∷ xs) → IsPartitionedBy p xs
tail-sorted p x xs sorted = λ i j d le lt passes. sorted (suc i) (suc j) d (omega arith) (omega arith) passes

tail-point : (p : InstrId → Bool) (x : InstrId) (xs : List InstrId) (r : ℕ) → IsPartitionPoint (λ y. p y ≡ true) (λ y. p y ≡ false) (x ∷ xs) (suc r) → IsPartitionPoint (λ y. p y ≡ true) (λ y. p y ≡ false) xs r
tail-point p x xs r point = (
  (λ k d ge lt. point.0 (suc k) d (omega arith) (omega arith)),
  (λ k d ge lt. point.1 (suc k) d (omega arith) (omega arith)),
)

pub tail-rank : (p : InstrId → Bool) (id x : InstrId) (xs : List InstrId) → IsInRank p id (x ∷ xs) → IsInRank p id xs
tail-rank p id x xs in_rank = record {
  sorted = tail-sorted p x xs in_rank.sorted;
  ranked = λ at found. tail-point p x xs at (in_rank.ranked (suc at) found);
}

-- behind the rank there is none
pub none-behind : (p : InstrId → Bool) (id x : InstrId) (xs : List InstrId) → IsInRank p id (x ∷ xs) → p x ≡ false → (at : ℕ) → has_at xs at id ≡ false
none-behind p id x xs in_rank late at = by (has_at xs at id) refl
  where
    by : (b : Bool) → has_at xs at id ≡ b → b ≡ false
    by true found = cc ((in_rank.ranked (suc at) found).0 0 x (omega arith) (omega arith))
    by false found = refl

-- and ahead of it neither
pub none-ahead : (p : InstrId → Bool) (id x : InstrId) (xs : List InstrId) → IsInRank p id (x ∷ xs) → p x ≡ true → (x.0 == id.0) ≡ false
none-ahead p id x xs in_rank early = by (x.0 == id.0) refl
  where
    by : (b : Bool) → (x.0 == id.0) ≡ b → b ≡ false
    by true found = cc ((in_rank.ranked 0 found).1 0 x (omega arith) (omega arith))
    by false found = refl

pub remove-rank : (p : InstrId → Bool) (id : InstrId) (ids : List InstrId) (r : ℕ) → IsInRank p id ids → IsPartitionPoint (λ x. p x ≡ true) (λ x. p x ≡ false) ids r → has_at ids r id ≡ true → remove ids r ≡ without id ids
remove-rank p id [] r in_rank point found = cc
remove-rank p id (x ∷ xs) zero in_rank point found =
    rw found (absent-without id xs (none-behind p id x xs in_rank (point.1 0 x (omega arith) (omega arith))))
remove-rank p id (x ∷ xs) (suc r) in_rank point found =
    rw (none-ahead p id x xs in_rank (point.0 0 x (omega arith) (omega arith)))
    (ap (λ ys. x ∷ ys) (remove-rank p id xs r (tail-rank p id x xs in_rank) (tail-point p x xs r point) found))

pub without-rank : (p : InstrId → Bool) (id : InstrId) (ids : List InstrId) (r : ℕ) → IsInRank p id ids → IsPartitionPoint (λ x. p x ≡ true) (λ x. p x ≡ false) ids r → has_at ids r id ≡ false → ids ≡ without id ids
without-rank p id [] r in_rank point missing = refl
without-rank p id (x ∷ xs) zero in_rank point missing =
    rw missing (ap (λ ys. x ∷ ys) (absent-without id xs (none-behind p id x xs in_rank (point.1 0 x (omega arith) (omega arith)))))
without-rank p id (x ∷ xs) (suc r) in_rank point missing =
    rw (none-ahead p id x xs in_rank (point.0 0 x (omega arith) (omega arith)))
    (ap (λ ys. x ∷ ys) (without-rank p id xs r (tail-rank p id x xs in_rank) (tail-point p x xs r point) missing))

-- ---- lists that are in rank

rank-front : (p : InstrId → Bool) (id x : InstrId) (xs : List InstrId) → p x ≡ true → (x.0 == id.0) ≡ false → IsInRank p id xs → IsInRank p id (x ∷ xs)
rank-front p id x xs early apart more = record { sorted = sorted; ranked = ranked }
  where
    sorted : (i j : ℕ) (d : InstrId) → i ≤ j → j < length (x ∷ xs) → p (get_or (x ∷ xs) j d) ≡ true → p (get_or (x ∷ xs) i d) ≡ true
    sorted zero j d le lt passes = early
    sorted (suc i) zero d le lt passes = absurd (omega arith)
    sorted (suc i) (suc j) d le lt passes = more.sorted i j d (omega arith) (omega arith) passes

    first : (at : ℕ) → IsPartitionPoint (λ y. p y ≡ true) (λ y. p y ≡ false) xs at → (k : ℕ) (d : InstrId) → 0 ≤ k → k < suc at → p (get_or (x ∷ xs) k d) ≡ true
    first at point zero d ge lt = early
    first at point (suc k) d ge lt = point.0 k d (omega arith) (omega arith)

    last : (at : ℕ) → IsPartitionPoint (λ y. p y ≡ true) (λ y. p y ≡ false) xs at → (k : ℕ) (d : InstrId) → suc at ≤ k → k < length (x ∷ xs) → p (get_or (x ∷ xs) k d) ≡ false
    last at point zero d ge lt = absurd (omega arith)
    last at point (suc k) d ge lt = point.1 k d (omega arith) (omega arith)

    ranked : (at : ℕ) → has_at (x ∷ xs) at id ≡ true → IsPartitionPoint (λ y. p y ≡ true) (λ y. p y ≡ false) (x ∷ xs) at
    ranked zero found = cc
    ranked (suc at) found = let point = more.ranked at found in (first at point, last at point)

none-of : (P : InstrId → Type 0) (id : InstrId) (xs : List InstrId) (at : ℕ) → Each (λ x. P x × ((x.0 == id.0) ≡ false)) xs → has_at xs at id ≡ false
none-of P id [] at apart = refl
none-of P id (x ∷ xs) zero apart = apart.0.1
none-of P id (x ∷ xs) (suc at) apart = none-of P id xs at apart.1

rank-late : (p : InstrId → Bool) (id : InstrId) (xs : List InstrId) → Each (λ x. p x ≡ false) xs → ((at : ℕ) → has_at xs at id ≡ true → at ≡ 0) → IsInRank p id xs
rank-late p id xs late only = record {
  sorted = λ i j d le lt passes. cc (Each-get_or (λ x. p x ≡ false) xs j d lt late);
  ranked = λ at found. let z = only at found in (
    (λ k d ge lt. absurd (omega arith)),
    (λ k d ge lt. Each-get_or (λ x. p x ≡ false) xs k d lt late),
  );
}

rank-late-absent : (p : InstrId → Bool) (id : InstrId) (ys : List InstrId) → Each (λ x. (p x ≡ false) × ((x.0 == id.0) ≡ false)) ys → IsInRank p id ys
rank-late-absent p id ys late =
    rank-late p id ys (Each-weaker _ _ (λ x h. h.0) ys late) (λ at found. cc (none-of (λ x. p x ≡ false) id ys at late))

rank-back : (p : InstrId → Bool) (id : InstrId) (b : Bool) (ys : List InstrId) → p id ≡ false → Each (λ x. (p x ≡ false) × ((x.0 == id.0) ≡ false)) ys → IsInRank p id (one_if b id ++ ys)
rank-back p id true ys own late = rank-late p id (id ∷ ys) (own, Each-weaker _ _ (λ x h. h.0) ys late) only
  where
    only : (at : ℕ) → has_at (id ∷ ys) at id ≡ true → at ≡ 0
    only zero found = refl
    only (suc at) found = cc (none-of (λ x. p x ≡ false) id ys at late)
rank-back p id false ys own late = rank-late-absent p id ys late

pub rank-parts : (p : InstrId → Bool) (id : InstrId) (b : Bool) (xs ys : List InstrId) → p id ≡ false → Each (λ x. (p x ≡ true) × ((x.0 == id.0) ≡ false)) xs → Each (λ x. (p x ≡ false) × ((x.0 == id.0) ≡ false)) ys → IsInRank p id (xs ++ (one_if b id ++ ys))
rank-parts p id b [] ys own early late = rank-back p id b ys own late
rank-parts p id b (x ∷ xs) ys own early late =
    rank-front p id x (xs ++ (one_if b id ++ ys)) early.0.0 early.0.1 (rank-parts p id b xs ys own early.1 late)

-- a list that is in order, with the id at its rank or without it
pub late-rest : (p : InstrId → Bool) (x : InstrId) (xs : List InstrId) → IsPartitionedBy p (x ∷ xs) → p x ≡ false → Each (λ y. p y ≡ false) xs
late-rest p x [] sorted late = tt
late-rest p x (y ∷ ys) sorted late = (here (p y) refl, late-rest p x ys rest late)
  where
    here : (b : Bool) → p y ≡ b → b ≡ false
    here true e = cc (sorted 0 1 x (omega arith) (omega arith) e)
    here false e = refl

    rest : (i j : ℕ) (d : InstrId) → i ≤ j → j < length (x ∷ ys) → p (get_or (x ∷ ys) j d) ≡ true → p (get_or (x ∷ ys) i d) ≡ true
    rest zero zero d le lt passes = passes
    rest zero (suc j) d le lt passes = sorted 0 (suc (suc j)) d (omega arith) (omega arith) passes
    rest (suc i) zero d le lt passes = absurd (omega arith)
    rest (suc i) (suc j) d le lt passes = sorted (suc (suc i)) (suc (suc j)) d (omega arith) (omega arith) passes

late-without : (p : InstrId → Bool) (id : InstrId) (xs : List InstrId) → Each (λ x. p x ≡ false) xs → Each (λ x. (p x ≡ false) × ((x.0 == id.0) ≡ false)) (without id xs)
late-without p id [] late = tt
late-without p id (x ∷ xs) late = by (x.0 == id.0) refl (late-without p id xs late.1)
  where
    by : (b : Bool) → (x.0 == id.0) ≡ b → Each (λ y. (p y ≡ false) × ((y.0 == id.0) ≡ false)) (without id xs) → Each (λ y. (p y ≡ false) × ((y.0 == id.0) ≡ false)) (cond (not b) (x ∷ without id xs) (without id xs))
    by true e more = more
    by false e more = ((late.0, e), more)

late-absent : (p : InstrId → Bool) (id : InstrId) (xs : List InstrId) → Each (λ x. p x ≡ false) xs → list_any (λ x. x.0 == id.0) xs ≡ false → Each (λ x. (p x ≡ false) × ((x.0 == id.0) ≡ false)) xs
late-absent p id [] late none = tt
late-absent p id (x ∷ xs) late none = by (x.0 == id.0) refl none (late-absent p id xs late.1)
  where
    by : (b : Bool) → (x.0 == id.0) ≡ b → (b || list_any (λ y. y.0 == id.0) xs) ≡ false → (list_any (λ y. y.0 == id.0) xs ≡ false → Each (λ y. (p y ≡ false) × ((y.0 == id.0) ≡ false)) xs) → Each (λ y. (p y ≡ false) × ((y.0 == id.0) ≡ false)) (x ∷ xs)
    by true e h more = cc
    by false e h more = ((late.0, e), more h)

pub rank-without : (p : InstrId → Bool) (id : InstrId) (ids : List InstrId) → IsPartitionedBy p ids → IsInRank p id (without id ids)
rank-without p id [] sorted = rank-late-absent p id [] tt
rank-without p id (x ∷ xs) sorted = by (p x) refl (x.0 == id.0) refl (rank-without p id xs (tail-sorted p x xs sorted))
  where
    by : (b : Bool) → p x ≡ b → (e : Bool) → (x.0 == id.0) ≡ e → IsInRank p id (without id xs) → IsInRank p id (cond (not e) (x ∷ without id xs) (without id xs))
    by b h true g more = more
    by true h false g more = rank-front p id x (without id xs) h g more
    by false h false g more =
        rank-late-absent p id (x ∷ without id xs) ((h, g), late-without p id xs (late-rest p x xs sorted h))

pub rank-absent : (p : InstrId → Bool) (id : InstrId) (ids : List InstrId) → IsPartitionedBy p ids → list_any (λ x. x.0 == id.0) ids ≡ false → IsInRank p id ids
rank-absent p id ids sorted none = rw (← without-fresh id ids none) (rank-without p id ids sorted)

pub rank-noted : (p : InstrId → Bool) (id : InstrId) (ids : List InstrId) → p id ≡ false → IsPartitionedBy p ids → list_any (λ x. x.0 == id.0) ids ≡ false → IsInRank p id (noted p id ids)
rank-noted p id [] own sorted none = rank-back p id true [] own tt
rank-noted p id (x ∷ xs) own sorted none = by (p x) refl (x.0 == id.0) refl none (rank-noted p id xs own (tail-sorted p x xs sorted))
  where
    by : (b : Bool) → p x ≡ b → (e : Bool) → (x.0 == id.0) ≡ e → (e || list_any (λ y. y.0 == id.0) xs) ≡ false → (list_any (λ y. y.0 == id.0) xs ≡ false → IsInRank p id (noted p id xs)) → IsInRank p id (cond b (x ∷ noted p id xs) (cond e (x ∷ xs) (id ∷ x ∷ xs)))
    by b h true g absent more = cc
    by true h false g absent more = rank-front p id x (noted p id xs) h g (more absent)
    by false h false g absent more =
        rank-back p id true (x ∷ xs) own ((h, g), late-absent p id xs (late-rest p x xs sorted h) absent)

-- ---- the lists of a function

-- in two parts and what stands between them
pub AreInRank-as : (places : List Place) (spot : Place) (id : InstrId) (front back : List (ℕ × InstrData)) (m : Mentions) (between : ℕ → Bool) → IsSplit (precedes places spot) id front back → IsListedAs m front back id between → AreInRank places spot id m
AreInRank-as places spot id front back m between split as_so = record {
  ranks = λ key. rw (as_so.lists key) (rank-parts (precedes places spot) id (between key) (mentioning key front) (mentioning key back) split.own
      (Each-mentioning (λ x. (precedes places spot x ≡ true) × ((x.0 == id.0) ≡ false)) key front split.first)
      (Each-mentioning (λ x. (precedes places spot x ≡ false) × ((x.0 == id.0) ≡ false)) key back split.last));
}

-- with the id taken out of some
pub AreInRank-forgotten : (places : List Place) (spot : Place) (id : InstrId) (old new : Mentions) (operands : List Operand) → AreInRank places spot id old → IsForgotten old new operands id → AreInRank places spot id new
AreInRank-forgotten places spot id old new operands ranks gone = record {
  ranks = λ key. by key (test_cases (list_any (is_mention key) operands));
}
  where
    by : (key : ℕ) → (list_any (is_mention key) operands ≡ true) ⊎ (list_any (is_mention key) operands ≡ false) → IsInRank (precedes places spot) id (listed new key)
    by key c = ⊎_elim
        (λ (yes : list_any (is_mention key) operands ≡ true). rw (gone.here key yes) (rank-without (precedes places spot) id (listed old key) (ranks.ranks key).sorted))
        (λ (missing : list_any (is_mention key) operands ≡ false). rw (gone.others key missing) (ranks.ranks key)) c

-- with a new id noted in some
pub AreInRank-noted : (places : List Place) (spot : Place) (id : InstrId) (old cur failed : Mentions) (operands : List Operand) → precedes places spot id ≡ false → IsSorted places spot old → Lacks old id → IsNoted old cur (precedes places spot) operands id → HasSameLists cur failed → AreInRank places spot id failed
AreInRank-noted places spot id old cur failed operands own sorted fresh noted_so same = record {
  ranks = λ key. rw (same.same key) (by key (test_cases (list_any (is_mention key) operands)));
}
  where
    by : (key : ℕ) → (list_any (is_mention key) operands ≡ true) ⊎ (list_any (is_mention key) operands ≡ false) → IsInRank (precedes places spot) id (listed cur key)
    by key c = ⊎_elim
        (λ (yes : list_any (is_mention key) operands ≡ true). rw (noted_so.here key yes) (rank-noted (precedes places spot) id (listed old key) own (sorted.sorted key) (fresh.absent key)))
        (λ (missing : list_any (is_mention key) operands ≡ false). rw (noted_so.others key missing) (rank-absent (precedes places spot) id (listed old key) (sorted.sorted key) (fresh.absent key))) c
