-- Ids in chunks: what a change of one chunk does to the list of all ids.
use Rattle.std.proofs.Common.{◌≡◌, ℕ, zero, suc, ◌+◌, ◌-◌, ◌<◌, ◌≤◌, Bool, true, false, not, cond, List, [], ◌∷◌, ◌++◌, Vec, length, take, drop, get_or, set, append_assoc, refl, sym, ap, ◌∙◌, arith, add-one}
use Rattle.std.specs.Prelude.{◌==◌, insert, remove}
use Rattle.std.specs.List.Sorted.{IsPartitionedBy, IsPartitionPoint}
use Rattle.std.proofs.lemmas.List.{take-append-drop}
use Rattle.std.specs.declared.alloc.Global.{Global}
use Rattle.gi_mir.specs.declared.block.InstrId.{InstrId}
use Rattle.gi_mir.specs.InstrLists.{last_precedes, chunk_ids, filled_ids, unless_empty, AreFilled, AreFilledBut}
use Rattle.gi_mir.specs.Mentions.{has_at, noted, without, IsInRank}
use Rattle.gi_mir.proofs.Mentioned.{Each}
use Rattle.gi_mir.proofs.Ranks.{absent-without, late-rest, none-ahead, none-behind, tail-rank, tail-sorted}

-- ---- ids of which those before a place come first, in two parts

get_or-front : {X : Type 0} (xs ys : List X) (k : ℕ) (d : X) → k < length xs → get_or (xs ++ ys) k d ≡ get_or xs k d
get_or-front [] ys k d h = absurd (omega arith)
get_or-front (x ∷ xs) ys zero d h = refl
get_or-front (x ∷ xs) ys (suc k) d h = get_or-front xs ys k d (omega arith)

length-more : {X : Type 0} (xs ys : List X) → length xs ≤ length (xs ++ ys)
length-more [] ys = omega arith
length-more (x ∷ xs) ys = let more = length-more xs ys in omega arith

sorted-front : (p : InstrId → Bool) (xs ys : List InstrId) → IsPartitionedBy p (xs ++ ys) → IsPartitionedBy p xs
sorted-front p xs ys sorted = λ i j d le lt passes.
    ap p (sym (get_or-front xs ys i d (omega arith)))
    ∙ sorted i j d le (let more = length-more xs ys in omega arith) (ap p (get_or-front xs ys j d lt) ∙ passes)

sorted-behind : (p : InstrId → Bool) (xs ys : List InstrId) → IsPartitionedBy p (xs ++ ys) → IsPartitionedBy p ys
sorted-behind p [] ys sorted = sorted
sorted-behind p (x ∷ xs) ys sorted = sorted-behind p xs ys (tail-sorted p x (xs ++ ys) sorted)

has_at-front : (xs ys : List InstrId) (at : ℕ) (id : InstrId) → has_at xs at id ≡ true → (has_at (xs ++ ys) at id ≡ true) × (at < length xs)
has_at-front [] ys at id found = cc
has_at-front (x ∷ xs) ys zero id found = (found, omega arith)
has_at-front (x ∷ xs) ys (suc at) id found = let (more, within) = has_at-front xs ys at id found in (more, omega arith)

rank-front : (p : InstrId → Bool) (id : InstrId) (xs ys : List InstrId) → IsInRank p id (xs ++ ys) → IsInRank p id xs
rank-front p id xs ys in_rank = record { sorted = sorted-front p xs ys in_rank.sorted; ranked = ranked }
  where
    ranked : (at : ℕ) → has_at xs at id ≡ true → IsPartitionPoint (λ x. p x ≡ true) (λ x. p x ≡ false) xs at
    ranked at found =
        let (there, within) = has_at-front xs ys at id found in
        let point = in_rank.ranked at there in
        let more = length-more xs ys in (
          (λ k d ge lt. ap p (sym (get_or-front xs ys k d (omega arith))) ∙ point.0 k d ge lt),
          (λ k d ge lt. ap p (sym (get_or-front xs ys k d lt)) ∙ point.1 k d ge (omega arith)),
        )

rank-behind : (p : InstrId → Bool) (id : InstrId) (xs ys : List InstrId) → IsInRank p id (xs ++ ys) → IsInRank p id ys
rank-behind p id [] ys in_rank = in_rank
rank-behind p id (x ∷ xs) ys in_rank = rank-behind p id xs ys (tail-rank p id x (xs ++ ys) in_rank)

-- ---- the last of a chunk tells of the others

last-early : (p : InstrId → Bool) (ids rest : List InstrId) → last_precedes p ids ≡ true → IsPartitionedBy p (ids ++ rest) → Each (λ x. p x ≡ true) ids
last-early p [] rest early sorted = tt
last-early p (x ∷ []) rest early sorted = (early, tt)
last-early p (x ∷ y ∷ ys) rest early sorted =
    let more = last-early p (y ∷ ys) rest early (tail-sorted p x (y ∷ ys ++ rest) sorted) in
    (sorted 0 1 x (omega arith) (omega arith) more.0, more)

last-late : (p : InstrId → Bool) (ids rest : List InstrId) → last_precedes p ids ≡ false → 0 < length ids → IsPartitionedBy p (ids ++ rest) → Each (λ x. p x ≡ false) rest
last-late p [] rest late some sorted = absurd (omega arith)
last-late p (x ∷ []) rest late some sorted = late-rest p x rest sorted late
last-late p (x ∷ y ∷ ys) rest late some sorted = last-late p (y ∷ ys) rest late (omega arith) (tail-sorted p x (y ∷ ys ++ rest) sorted)

late-last : (p : InstrId → Bool) (ids : List InstrId) → Each (λ x. p x ≡ false) ids → last_precedes p ids ≡ false
late-last p [] late = refl
late-last p (x ∷ []) late = late.0
late-last p (x ∷ y ∷ ys) late = late-last p (y ∷ ys) late.1

each-front : (P : InstrId → Type 0) (xs ys : List InstrId) → Each P (xs ++ ys) → Each P xs
each-front P [] ys h = tt
each-front P (x ∷ xs) ys h = (h.0, each-front P xs ys h.1)

each-behind : (P : InstrId → Type 0) (xs ys : List InstrId) → Each P (xs ++ ys) → Each P ys
each-behind P [] ys h = h
each-behind P (x ∷ xs) ys h = each-behind P xs ys h.1

late-chunk : (p : InstrId → Bool) (cs : List (Vec InstrId Global)) (j : ℕ) (d : Vec InstrId Global) → j < length cs → Each (λ x. p x ≡ false) (chunk_ids cs) → last_precedes p (get_or cs j d).items ≡ false
late-chunk p [] j d within late = absurd (omega arith)
late-chunk p (c ∷ cs) zero d within late = late-last p c.items (each-front (λ x. p x ≡ false) c.items (chunk_ids cs) late)
late-chunk p (c ∷ cs) (suc j) d within late = late-chunk p cs j d (omega arith) (each-behind (λ x. p x ≡ false) c.items (chunk_ids cs) late)

-- chunks that lie before a place come first
pub chunks-sorted : (p : InstrId → Bool) (cs : List (Vec InstrId Global)) → AreFilled cs → IsPartitionedBy p (chunk_ids cs) → IsPartitionedBy (λ c. last_precedes p c.items) cs
chunks-sorted p [] filled sorted = λ i j d le lt passes. absurd (omega arith)
chunks-sorted p (c ∷ cs) filled sorted = by (chunks-sorted p cs filled.1 (sorted-behind p c.items (chunk_ids cs) sorted))
  where
    first : (j : ℕ) (d : Vec InstrId Global) → j < length cs → last_precedes p (get_or cs j d).items ≡ true → (b : Bool) → last_precedes p c.items ≡ b → b ≡ true
    first j d within passes true early = refl
    first j d within passes false late = cc (late-chunk p cs j d within (last-late p c.items (chunk_ids cs) late filled.0 sorted))

    by : IsPartitionedBy (λ x. last_precedes p x.items) cs → (i j : ℕ) (d : Vec InstrId Global) → i ≤ j → j < length (c ∷ cs) → last_precedes p (get_or (c ∷ cs) j d).items ≡ true → last_precedes p (get_or (c ∷ cs) i d).items ≡ true
    by more zero zero d le lt passes = passes
    by more zero (suc j) d le lt passes = first j d (omega arith) passes (last_precedes p c.items) refl
    by more (suc i) zero d le lt passes = absurd (omega arith)
    by more (suc i) (suc j) d le lt passes = more i j d (omega arith) (omega arith) passes

pub chunk-sorted : (p : InstrId → Bool) (cs : List (Vec InstrId Global)) (at : ℕ) (d : Vec InstrId Global) → at < length cs → IsPartitionedBy p (chunk_ids cs) → IsPartitionedBy p (get_or cs at d).items
chunk-sorted p [] at d within sorted = absurd (omega arith)
chunk-sorted p (c ∷ cs) zero d within sorted = sorted-front p c.items (chunk_ids cs) sorted
chunk-sorted p (c ∷ cs) (suc at) d within sorted = chunk-sorted p cs at d (omega arith) (sorted-behind p c.items (chunk_ids cs) sorted)

pub chunk-ranked : (p : InstrId → Bool) (id : InstrId) (cs : List (Vec InstrId Global)) (at : ℕ) (d : Vec InstrId Global) → at < length cs → IsInRank p id (chunk_ids cs) → IsInRank p id (get_or cs at d).items
chunk-ranked p id [] at d within in_rank = absurd (omega arith)
chunk-ranked p id (c ∷ cs) zero d within in_rank = rank-front p id c.items (chunk_ids cs) in_rank
chunk-ranked p id (c ∷ cs) (suc at) d within in_rank = chunk-ranked p id cs at d (omega arith) (rank-behind p id c.items (chunk_ids cs) in_rank)

-- ---- where a chunk is found

abbrev IsPlace : (InstrId → Bool) → List (Vec InstrId Global) → ℕ → Type 0
IsPlace p cs at = IsPartitionPoint (λ c. last_precedes p c.items ≡ true) (λ c. last_precedes p c.items ≡ false) cs at

place-tail : (p : InstrId → Bool) (c : Vec InstrId Global) (cs : List (Vec InstrId Global)) (at : ℕ) → IsPlace p (c ∷ cs) (suc at) → IsPlace p cs at
place-tail p c cs at point = (
  (λ k d ge lt. point.0 (suc k) d (omega arith) (omega arith)),
  (λ k d ge lt. point.1 (suc k) d (omega arith) (omega arith)),
)

-- ---- an id comes into a chunk

noted-front : (p : InstrId → Bool) (id : InstrId) (xs ys : List InstrId) → Each (λ x. p x ≡ true) xs → noted p id (xs ++ ys) ≡ xs ++ noted p id ys
noted-front p id [] ys early = refl
noted-front p id (x ∷ xs) ys early = rw early.0 (ap (λ zs. x ∷ zs) (noted-front p id xs ys early.1))

noted-back : (p : InstrId → Bool) (id : InstrId) (xs ys : List InstrId) → last_precedes p xs ≡ false → 0 < length xs → noted p id (xs ++ ys) ≡ noted p id xs ++ ys
noted-back p id [] ys late some = absurd (omega arith)
noted-back p id (x ∷ []) ys late some = rw late (by (x.0 == id.0))
  where
    by : (e : Bool) → cond e (x ∷ ys) (id ∷ x ∷ ys) ≡ cond e (x ∷ []) (id ∷ x ∷ []) ++ ys
    by true = refl
    by false = refl
noted-back p id (x ∷ y ∷ zs) ys late some = by (p x) (x.0 == id.0) (noted-back p id (y ∷ zs) ys late (omega arith))
  where
    by : (b e : Bool) → noted p id (y ∷ zs ++ ys) ≡ noted p id (y ∷ zs) ++ ys
        → cond b (x ∷ noted p id (y ∷ zs ++ ys)) (cond e (x ∷ y ∷ zs ++ ys) (id ∷ x ∷ y ∷ zs ++ ys)) ≡ cond b (x ∷ noted p id (y ∷ zs)) (cond e (x ∷ y ∷ zs) (id ∷ x ∷ y ∷ zs)) ++ ys
    by true e more = ap (λ ws. x ∷ ws) more
    by false true more = refl
    by false false more = refl

pub noted-chunk : (p : InstrId → Bool) (id : InstrId) (cs : List (Vec InstrId Global)) (at : ℕ) (d v : Vec InstrId Global) → AreFilled cs → IsPartitionedBy p (chunk_ids cs) → IsPlace p cs at → at < length cs
    → v.items ≡ noted p id (get_or cs at d).items → chunk_ids (set cs at v) ≡ noted p id (chunk_ids cs)
noted-chunk p id [] at d v filled sorted point within is = absurd (omega arith)
noted-chunk p id (c ∷ cs) zero d v filled sorted point within is =
    ap (λ xs. xs ++ chunk_ids cs) is ∙ sym (noted-back p id c.items (chunk_ids cs) (point.1 0 c (omega arith) (omega arith)) filled.0)
noted-chunk p id (c ∷ cs) (suc at) d v filled sorted point within is =
    ap (λ xs. c.items ++ xs) (noted-chunk p id cs at d v filled.1 (sorted-behind p c.items (chunk_ids cs) sorted) (place-tail p c cs at point) (omega arith) is)
    ∙ sym (noted-front p id c.items (chunk_ids cs) (last-early p c.items (chunk_ids cs) (point.0 0 c (omega arith) (omega arith)) sorted))

pub noted-some : (p : InstrId → Bool) (id : InstrId) (ids : List InstrId) → 0 < length (noted p id ids)
noted-some p id [] = omega arith
noted-some p id (x ∷ xs) = by (p x) (x.0 == id.0)
  where
    by : (b e : Bool) → 0 < length (cond b (x ∷ noted p id xs) (cond e (x ∷ xs) (id ∷ x ∷ xs)))
    by true e = omega arith
    by false true = omega arith
    by false false = omega arith

-- or behind all chunks
pub noted-end : (p : InstrId → Bool) (id : InstrId) (cs : List (Vec InstrId Global)) (at : ℕ) → IsPartitionedBy p (chunk_ids cs) → IsPlace p cs at → length cs ≤ at → chunk_ids cs ++ id ∷ [] ≡ noted p id (chunk_ids cs)
noted-end p id [] at sorted point end = refl
noted-end p id (c ∷ cs) zero sorted point end = absurd (omega arith)
noted-end p id (c ∷ cs) (suc at) sorted point end =
    append_assoc c.items (chunk_ids cs) (id ∷ [])
    ∙ ap (λ xs. c.items ++ xs) (noted-end p id cs at (sorted-behind p c.items (chunk_ids cs) sorted) (place-tail p c cs at point) (omega arith))
    ∙ sym (noted-front p id c.items (chunk_ids cs) (last-early p c.items (chunk_ids cs) (point.0 0 c (omega arith) (omega arith)) sorted))

-- ---- an id goes out of a chunk

without-front : (p : InstrId → Bool) (id : InstrId) (xs ys : List InstrId) → Each (λ x. p x ≡ true) xs → IsInRank p id (xs ++ ys) → without id (xs ++ ys) ≡ xs ++ without id ys
without-front p id [] ys early in_rank = refl
without-front p id (x ∷ xs) ys early in_rank =
    rw (none-ahead p id x (xs ++ ys) in_rank early.0) (ap (λ zs. x ∷ zs) (without-front p id xs ys early.1 (tail-rank p id x (xs ++ ys) in_rank)))

without-back : (p : InstrId → Bool) (id : InstrId) (xs ys : List InstrId) → last_precedes p xs ≡ false → 0 < length xs → IsInRank p id (xs ++ ys) → without id (xs ++ ys) ≡ without id xs ++ ys
without-back p id [] ys late some in_rank = absurd (omega arith)
without-back p id (x ∷ []) ys late some in_rank = by (x.0 == id.0) (absent-without id ys (none-behind p id x ys in_rank late))
  where
    by : (e : Bool) → ys ≡ without id ys → cond (not e) (x ∷ without id ys) (without id ys) ≡ cond (not e) (x ∷ []) [] ++ ys
    by true same = sym same
    by false same = ap (λ zs. x ∷ zs) (sym same)
without-back p id (x ∷ y ∷ zs) ys late some in_rank =
    by (x.0 == id.0) (without-back p id (y ∷ zs) ys late (omega arith) (tail-rank p id x (y ∷ zs ++ ys) in_rank))
  where
    by : (e : Bool) → without id (y ∷ zs ++ ys) ≡ without id (y ∷ zs) ++ ys → cond (not e) (x ∷ without id (y ∷ zs ++ ys)) (without id (y ∷ zs ++ ys)) ≡ cond (not e) (x ∷ without id (y ∷ zs)) (without id (y ∷ zs)) ++ ys
    by true more = more
    by false more = ap (λ ws. x ∷ ws) more

pub without-chunk : (p : InstrId → Bool) (id : InstrId) (cs : List (Vec InstrId Global)) (at : ℕ) (d v : Vec InstrId Global) → AreFilled cs → IsInRank p id (chunk_ids cs) → IsPlace p cs at → at < length cs
    → v.items ≡ without id (get_or cs at d).items → chunk_ids (set cs at v) ≡ without id (chunk_ids cs)
without-chunk p id [] at d v filled in_rank point within is = absurd (omega arith)
without-chunk p id (c ∷ cs) zero d v filled in_rank point within is =
    ap (λ xs. xs ++ chunk_ids cs) is ∙ sym (without-back p id c.items (chunk_ids cs) (point.1 0 c (omega arith) (omega arith)) filled.0 in_rank)
without-chunk p id (c ∷ cs) (suc at) d v filled in_rank point within is =
    ap (λ xs. c.items ++ xs) (without-chunk p id cs at d v filled.1 (rank-behind p id c.items (chunk_ids cs) in_rank) (place-tail p c cs at point) (omega arith) is)
    ∙ sym (without-front p id c.items (chunk_ids cs) (last-early p c.items (chunk_ids cs) (point.0 0 c (omega arith) (omega arith)) in_rank.sorted) in_rank)

pub without-end : (p : InstrId → Bool) (id : InstrId) (cs : List (Vec InstrId Global)) (at : ℕ) → IsInRank p id (chunk_ids cs) → IsPlace p cs at → length cs ≤ at → chunk_ids cs ≡ without id (chunk_ids cs)
without-end p id [] at in_rank point end = refl
without-end p id (c ∷ cs) zero in_rank point end = absurd (omega arith)
without-end p id (c ∷ cs) (suc at) in_rank point end =
    ap (λ xs. c.items ++ xs) (without-end p id cs at (rank-behind p id c.items (chunk_ids cs) in_rank) (place-tail p c cs at point) (omega arith))
    ∙ sym (without-front p id c.items (chunk_ids cs) (last-early p c.items (chunk_ids cs) (point.0 0 c (omega arith) (omega arith)) in_rank.sorted) in_rank)

-- ---- a chunk is put in another's place

pub filled-at : (cs : List (Vec InstrId Global)) (at : ℕ) (d : Vec InstrId Global) → at < length cs → AreFilled cs → 0 < length (get_or cs at d).items
filled-at [] at d within filled = absurd (omega arith)
filled-at (c ∷ cs) zero d within filled = filled.0
filled-at (c ∷ cs) (suc at) d within filled = filled-at cs at d (omega arith) filled.1

pub ids-same : (cs : List (Vec InstrId Global)) (at : ℕ) (d v : Vec InstrId Global) → at < length cs → v.items ≡ (get_or cs at d).items → chunk_ids (set cs at v) ≡ chunk_ids cs
ids-same [] at d v within is = absurd (omega arith)
ids-same (c ∷ cs) zero d v within is = ap (λ xs. xs ++ chunk_ids cs) is
ids-same (c ∷ cs) (suc at) d v within is = ap (λ xs. c.items ++ xs) (ids-same cs at d v (omega arith) is)

pub filled-set : (cs : List (Vec InstrId Global)) (at : ℕ) (v : Vec InstrId Global) → AreFilled cs → 0 < length v.items → AreFilled (set cs at v)
filled-set [] at v filled some = tt
filled-set (c ∷ cs) zero v filled some = (some, filled.1)
filled-set (c ∷ cs) (suc at) v filled some = (filled.0, filled-set cs at v filled.1 some)

pub filled_but-set : (cs : List (Vec InstrId Global)) (at : ℕ) (v : Vec InstrId Global) → AreFilled cs → AreFilledBut at (set cs at v)
filled_but-set [] at v filled = tt
filled_but-set (c ∷ cs) zero v filled = filled.1
filled_but-set (c ∷ cs) (suc at) v filled = (filled.0, filled_but-set cs at v filled.1)

-- which goes if it has none, and else all have one
pub ids-removed : (cs : List (Vec InstrId Global)) (at : ℕ) (d : Vec InstrId Global) → at < length cs → length (get_or cs at d).items ≡ 0 → chunk_ids (remove cs at) ≡ chunk_ids cs
ids-removed [] at d within none = absurd (omega arith)
ids-removed (c ∷ cs) zero d within none = by c.items none
  where
    by : (xs : List InstrId) → length xs ≡ 0 → chunk_ids cs ≡ xs ++ chunk_ids cs
    by [] e = refl
    by (x ∷ xs) e = absurd (omega (arith, e))
ids-removed (c ∷ cs) (suc at) d within none = ap (λ xs. c.items ++ xs) (ids-removed cs at d (omega arith) none)

pub filled-removed : (cs : List (Vec InstrId Global)) (at : ℕ) → at < length cs → AreFilledBut at cs → AreFilled (remove cs at)
filled-removed [] at within but = absurd (omega arith)
filled-removed (c ∷ cs) zero within but = but
filled-removed (c ∷ cs) (suc at) within but = (but.0, filled-removed cs at (omega arith) but.1)

pub filled-all : (cs : List (Vec InstrId Global)) (at : ℕ) (d : Vec InstrId Global) → at < length cs → AreFilledBut at cs → 0 < length (get_or cs at d).items → AreFilled cs
filled-all [] at d within but some = absurd (omega arith)
filled-all (c ∷ cs) zero d within but some = (some, but)
filled-all (c ∷ cs) (suc at) d within but some = (but.0, filled-all cs at d (omega arith) but.1 some)

-- ---- a chunk in two

pub ids-split : (cs : List (Vec InstrId Global)) (at : ℕ) (d a b : Vec InstrId Global) → at < length cs → (get_or cs at d).items ≡ a.items ++ b.items → chunk_ids (set (insert cs (suc at) b) at a) ≡ chunk_ids cs
ids-split [] at d a b within is = absurd (omega arith)
ids-split (c ∷ cs) zero d a b within is = sym (append_assoc a.items b.items (chunk_ids cs)) ∙ ap (λ xs. xs ++ chunk_ids cs) (sym is)
ids-split (c ∷ cs) (suc at) d a b within is = ap (λ xs. c.items ++ xs) (ids-split cs at d a b (omega arith) is)

pub filled-split : (cs : List (Vec InstrId Global)) (at : ℕ) (a b : Vec InstrId Global) → at < length cs → AreFilled cs → 0 < length a.items → 0 < length b.items → AreFilled (set (insert cs (suc at) b) at a)
filled-split [] at a b within filled front back = absurd (omega arith)
filled-split (c ∷ cs) zero a b within filled front back = (front, (back, filled.1))
filled-split (c ∷ cs) (suc at) a b within filled front back = (filled.0, filled-split cs at a b (omega arith) filled.1 front back)

pub get_or-any : {X : Type 0} (xs : List X) (at : ℕ) (d e : X) → at < length xs → get_or xs at d ≡ get_or xs at e
get_or-any [] at d e h = absurd (omega arith)
get_or-any (x ∷ xs) zero d e h = refl
get_or-any (x ∷ xs) (suc at) d e h = get_or-any xs at d e (omega arith)

get_or-insert : {X : Type 0} (xs : List X) (at : ℕ) (y d : X) → at < length xs → get_or (insert xs (suc at) y) at d ≡ get_or xs at d
get_or-insert [] at y d h = absurd (omega arith)
get_or-insert (x ∷ xs) zero y d h = refl
get_or-insert (x ∷ xs) (suc at) y d h = get_or-insert xs at y d (omega arith)

-- what is read of a chunk before and after another comes in behind it
pub same-read : (cs then : List (Vec InstrId Global)) (at : ℕ) (b x y : Vec InstrId Global) → at < length cs → x ≡ get_or cs at x → y ≡ get_or then at y → then ≡ insert cs (suc at) b → x ≡ y
same-read cs then at b x y within here there is =
    here ∙ get_or-any cs at x y within ∙ sym (get_or-insert cs at b y within) ∙ ap (λ (zs : List (Vec InstrId Global)). get_or zs at y) (sym is) ∙ sym there

pub parts-of : (n : ℕ) (x a b : List InstrId) → a ≡ take n x → b ≡ drop n x → x ≡ a ++ b
parts-of n x a b front back = rw (front, back) (sym (take-append-drop n x))

pub take-some : (n : ℕ) (xs : List InstrId) → 0 < n → 0 < length xs → 0 < length (take n xs)
take-some zero xs positive some = absurd (omega arith)
take-some (suc n) [] positive some = absurd (omega arith)
take-some (suc n) (x ∷ xs) positive some = omega arith

pub drop-some : (n : ℕ) (xs : List InstrId) → n < length xs → 0 < length (drop n xs)
drop-some zero xs more = more
drop-some (suc n) [] more = absurd (omega arith)
drop-some (suc n) (x ∷ xs) more = drop-some n xs (omega arith)

-- ---- a chunk behind the others, and an id in the last

pub ids-pushed : (cs : List (Vec InstrId Global)) (c : Vec InstrId Global) → chunk_ids (insert cs (length cs) c) ≡ chunk_ids cs ++ c.items
ids-pushed [] c = by c.items
  where
    by : (xs : List InstrId) → xs ++ [] ≡ xs
    by [] = refl
    by (x ∷ xs) = ap (λ ys. x ∷ ys) (by xs)
ids-pushed (x ∷ cs) c = ap (λ xs. x.items ++ xs) (ids-pushed cs c) ∙ sym (append_assoc x.items (chunk_ids cs) c.items)

pub filled-pushed : (cs : List (Vec InstrId Global)) (c : Vec InstrId Global) → AreFilled cs → 0 < length c.items → AreFilled (insert cs (length cs) c)
filled-pushed [] c filled some = (some, tt)
filled-pushed (x ∷ cs) c filled some = (filled.0, filled-pushed cs c filled.1 some)

pub ids-last : (cs : List (Vec InstrId Global)) (at : ℕ) (d v : Vec InstrId Global) (id : InstrId) → suc at ≡ length cs → v.items ≡ (get_or cs at d).items ++ id ∷ [] → chunk_ids (set cs at v) ≡ chunk_ids cs ++ id ∷ []
ids-last [] at d v id last is = absurd (omega (arith, last))
ids-last (c ∷ []) zero d v id last is = rw is (append_assoc c.items (id ∷ []) [] ∙ sym (append_assoc c.items [] (id ∷ [])))
ids-last (c ∷ x ∷ cs) zero d v id last is = absurd (omega (arith, last))
ids-last (c ∷ cs) (suc at) d v id last is = ap (λ xs. c.items ++ xs) (ids-last cs at d v id (omega (arith, last)) is) ∙ sym (append_assoc c.items (chunk_ids cs) (id ∷ []))

-- ---- one id after the other

pub filled-ids : (cs : List (Vec InstrId Global)) → AreFilled cs → filled_ids cs ≡ chunk_ids cs
filled-ids [] filled = refl
filled-ids (c ∷ cs) filled = by c.items filled.0 ∙ ap (λ xs. c.items ++ xs) (filled-ids cs filled.1)
  where
    by : (ids : List InstrId) → 0 < length ids → unless_empty ids (filled_ids cs) ≡ ids ++ filled_ids cs
    by [] some = absurd (omega arith)
    by (x ∷ xs) some = refl

pub nothing-left : (ids : List InstrId) (cs : List (Vec InstrId Global)) → length ids ≡ 0 → length cs ≡ 0 → ids ++ filled_ids cs ≡ []
nothing-left [] [] none no_chunk = refl
nothing-left [] (c ∷ cs) none no_chunk = absurd (omega (arith, no_chunk))
nothing-left (x ∷ xs) cs none no_chunk = absurd (omega (arith, none))

pub empty-next : (ids : List InstrId) (cs rest : List (Vec InstrId Global)) (c : Vec InstrId Global) → length ids ≡ 0 → cs ≡ c ∷ rest → length c.items ≡ 0 → ids ++ filled_ids cs ≡ []
empty-next [] cs rest c none is empty = rw is (by c.items empty)
  where
    by : (xs : List InstrId) → length xs ≡ 0 → unless_empty xs (filled_ids rest) ≡ []
    by [] e = refl
    by (x ∷ xs) e = absurd (omega (arith, e))
empty-next (x ∷ xs) cs rest c none is empty = absurd (omega (arith, none))

pub chunk-next : (ids : List InstrId) (cs rest : List (Vec InstrId Global)) (c : Vec InstrId Global) (id : InstrId) (more : List InstrId) → length ids ≡ 0 → cs ≡ c ∷ rest → c.items ≡ id ∷ more → ids ++ filled_ids cs ≡ id ∷ more ++ filled_ids rest
chunk-next [] cs rest c id more none is first = rw (is, first) refl
chunk-next (x ∷ xs) cs rest c id more none is first = absurd (omega (arith, none))
