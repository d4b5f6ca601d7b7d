-- Where the instructions stand, each once.
use Rattle.std.proofs.Common.{◌≡◌, ℕ, zero, suc, ◌+◌, ◌<◌, ◌≤◌, Bool, true, false, not, ◌||◌, cond, List, [], ◌∷◌, Some, ◌⊎◌, ⊎_elim, length, get_or, refl, ap, arith, eqb-true, eq-eqb}
use Rattle.std.specs.Prelude.{◌==◌, Contains, map}
use Rattle.std.specs.List.{list_any, sum_by}
use Rattle.std.proofs.lemmas.List.Sums.{sum_by-cons, get_or-le-sum_by}
use Rattle.gi_mir.specs.Data.{InstrData, BlockData, FunctionData}
use Rattle.gi_mir.specs.Edit.{empty_block, has_instr, home_of, place_in_block, place_of, ids_of, IsLive, changed_at}
use Rattle.gi_mir.specs.Ids.{uses_among, uses_in, uses_of, AreOwnIds}
use Rattle.gi_mir.specs.Places.{nth_id, id_in, HasGivenIds, HasDistinctIds}
use Rattle.gi_mir.proofs.FormedLemmas.{changed_at-suc}
use Rattle.gi_mir.proofs.OrLemmas.{or_left, or_right}
use Rattle.gi_mir.proofs.Places.{position_or_len-passes}

-- ---- ids in a list

-- the first instruction with an id has that id
pub nth_id-place_of : (id : ℕ) (instrs : List (ℕ × InstrData)) → list_any (λ p. p.0 == id) instrs ≡ true → nth_id instrs (place_of id instrs) ≡ Some id
nth_id-place_of id [] h = cc
nth_id-place_of id (p ∷ ps) h = by (p.0 == id) refl (nth_id-place_of id ps) h
  where
    by : (b : Bool) → (p.0 == id) ≡ b → (list_any (λ q. q.0 == id) ps ≡ true → nth_id ps (place_of id ps) ≡ Some id) → (b || list_any (λ q. q.0 == id) ps) ≡ true → nth_id (p ∷ ps) (cond (not b) (1 + place_of id ps) 0) ≡ Some id
    by true e more h = ap Some (eqb-true p.0 id e)
    by false e more h = let one : 1 + place_of id ps ≡ suc (place_of id ps) = omega arith in rw one (more h)

pub nth_id-within : (id : ℕ) (instrs : List (ℕ × InstrData)) (k : ℕ) → nth_id instrs k ≡ Some id → k < length instrs
nth_id-within id [] k h = cc
nth_id-within id (p ∷ ps) zero h = omega arith
nth_id-within id (p ∷ ps) (suc k) h = omega (arith, nth_id-within id ps k h)

pub has_instr-nth_id : (id : ℕ) (instrs : List (ℕ × InstrData)) (k : ℕ) → nth_id instrs k ≡ Some id → list_any (λ p. p.0 == id) instrs ≡ true
has_instr-nth_id id [] k h = cc
has_instr-nth_id id (p ∷ ps) zero h =
    let same : p.0 ≡ id = cc in or_left (p.0 == id) (list_any (λ q. q.0 == id) ps) (eq-eqb p.0 id same)
has_instr-nth_id id (p ∷ ps) (suc k) h =
    or_right (p.0 == id) (list_any (λ q. q.0 == id) ps) (has_instr-nth_id id ps k h)

pub nth_id-changed_at : (edit : InstrData → InstrData) (instrs : List (ℕ × InstrData)) (at k : ℕ) → nth_id (changed_at (λ p. (p.0, edit p.1)) at instrs) k ≡ nth_id instrs k
nth_id-changed_at edit [] at k = refl
nth_id-changed_at edit (p ∷ ps) zero zero = refl
nth_id-changed_at edit (p ∷ ps) zero (suc k) = refl
nth_id-changed_at edit (p ∷ ps) (suc at) zero = rw (changed_at-suc (λ q. (q.0, edit q.1)) at p ps) refl
nth_id-changed_at edit (p ∷ ps) (suc at) (suc k) =
    rw (changed_at-suc (λ q. (q.0, edit q.1)) at p ps) (nth_id-changed_at edit ps at k)

-- ---- ids in a function

pub id_in-within : (id : ℕ) (blocks : List BlockData) (b k : ℕ) → id_in blocks b k ≡ Some id → b < length blocks
id_in-within id [] b k h = cc
id_in-within id (c ∷ cs) zero k h = omega arith
id_in-within id (c ∷ cs) (suc b) k h = omega (arith, id_in-within id cs b k h)

pub is_live-id_in : (id : ℕ) (blocks : List BlockData) (b k : ℕ) → id_in blocks b k ≡ Some id → list_any (has_instr id) blocks ≡ true
is_live-id_in id [] b k h = cc
is_live-id_in id (c ∷ cs) zero k h =
    or_left (has_instr id c) (list_any (has_instr id) cs) (has_instr-nth_id id c.instrs k h)
is_live-id_in id (c ∷ cs) (suc b) k h =
    or_right (has_instr id c) (list_any (has_instr id) cs) (is_live-id_in id cs b k h)

pub id_in-live : (f : FunctionData) (id : ℕ) → IsLive f id → id_in f.blocks (home_of f id) (place_in_block f id) ≡ Some id
id_in-live f id live =
    nth_id-place_of id (get_or f.blocks (home_of f id) empty_block).instrs
    (position_or_len-passes (has_instr id) f.blocks empty_block live)

-- ---- each id stands once

sum_by-two : {X : Type 0} (w : X → ℕ) (xs : List X) (i j : ℕ) (d : X) → i < j → j < length xs → w (get_or xs i d) + w (get_or xs j d) ≤ sum_by w xs
sum_by-two w [] i j d h g = absurd (omega arith)
sum_by-two w (x ∷ xs) i zero d h g = absurd (omega arith)
sum_by-two w (x ∷ xs) zero (suc j) d h g =
    omega (arith, sum_by-cons w x xs, get_or-le-sum_by w xs j d (omega arith))
sum_by-two w (x ∷ xs) (suc i) (suc j) d h g =
    omega (arith, sum_by-cons w x xs, sum_by-two w xs i j d (omega arith) (omega arith))

-- what counts twice is counted twice
sum_by-once : {X : Type 0} (w : X → ℕ) (xs : List X) (i j : ℕ) (d : X) → i < length xs → j < length xs → 1 ≤ w (get_or xs i d) → 1 ≤ w (get_or xs j d) → sum_by w xs ≤ 1 → i ≡ j
sum_by-once w xs i j d hi hj wi wj once =
    ⊎_elim (λ (lt : i < j). absurd (omega (arith, sum_by-two w xs i j d lt hj)))
    (λ (ge : j ≤ i). ⊎_elim (λ (lt : j < i). absurd (omega (arith, sum_by-two w xs j i d lt hi)))
    (λ (le : i ≤ j). omega arith)
    (split j i)) (split i j)
  where
    split : (a b : ℕ) → (a < b) ⊎ (b ≤ a)
    split a b = grind arith

one_at : (id : ℕ) (instrs : List (ℕ × InstrData)) (k : ℕ) (d : ℕ × InstrData) → nth_id instrs k ≡ Some id → 1 ≤ (cond ((get_or instrs k d).0 == id) 1 0)
one_at id [] k d h = cc
one_at id (p ∷ ps) zero d h = let same : p.0 ≡ id = cc in rw (eq-eqb p.0 id same) (omega arith)
one_at id (p ∷ ps) (suc k) d h = one_at id ps k d h

some_of : (instrs : List (ℕ × InstrData)) (k : ℕ) → k < length instrs → ℕ × InstrData
some_of [] k h = absurd (omega arith)
some_of (p ∷ ps) k h = p

uses_in-nth_id : (id : ℕ) (instrs : List (ℕ × InstrData)) (k : ℕ) → nth_id instrs k ≡ Some id → 1 ≤ uses_among id instrs
uses_in-nth_id id instrs k h =
    let within = nth_id-within id instrs k h in
    let d = some_of instrs k within in
    omega (arith, one_at id instrs k d h, get_or-le-sum_by (λ p. cond (p.0 == id) 1 0) instrs k d within)

pub nth_id-once : (id : ℕ) (instrs : List (ℕ × InstrData)) (j k : ℕ) → uses_among id instrs ≤ 1 → nth_id instrs j ≡ Some id → nth_id instrs k ≡ Some id → j ≡ k
nth_id-once id instrs j k once hj hk =
    let wj = nth_id-within id instrs j hj in
    let wk = nth_id-within id instrs k hk in
    let d = some_of instrs k wk in
    sum_by-once (λ p. cond (p.0 == id) 1 0) instrs j k d wj wk (one_at id instrs j d hj) (one_at id instrs k d hk) once

-- an id stands in one block
pub id_in-once : (id : ℕ) (blocks : List BlockData) (n b c j k : ℕ) → AreOwnIds blocks n → id_in blocks b j ≡ Some id → id_in blocks c k ≡ Some id → b ≡ c
id_in-once id blocks n b c j k own hb hc =
    sum_by-once (uses_in id) blocks b c empty_block (id_in-within id blocks b j hb) (id_in-within id blocks c k hc)
    (uses_in-nth_id id (get_or blocks b empty_block).instrs j hb)
    (uses_in-nth_id id (get_or blocks c empty_block).instrs k hc) (own.once id)

pub uses_of-id_in : (id : ℕ) (blocks : List BlockData) (b k : ℕ) → id_in blocks b k ≡ Some id → 1 ≤ uses_of id blocks
uses_of-id_in id blocks b k h =
    omega (arith, uses_in-nth_id id (get_or blocks b empty_block).instrs k h, get_or-le-sum_by (uses_in id) blocks b empty_block (id_in-within id blocks b k h))

pub HasDistinctIds-in : (blocks : List BlockData) (n b : ℕ) → b < length blocks → AreOwnIds blocks n → HasDistinctIds (get_or blocks b empty_block).instrs
HasDistinctIds-in blocks n b within own = record {
  once = λ j k id hj hk. nth_id-once id (get_or blocks b empty_block).instrs j k (fewer id) hj hk;
}
  where
    fewer : (id : ℕ) → uses_in id (get_or blocks b empty_block) ≤ 1
    fewer id = omega (arith, own.once id, get_or-le-sum_by (uses_in id) blocks b empty_block within)

pub HasGivenIds-in : (blocks : List BlockData) (n b : ℕ) → AreOwnIds blocks n → HasGivenIds (get_or blocks b empty_block).instrs n
HasGivenIds-in blocks n b own = record { given = λ k id h. by id (cases n id) (uses_of-id_in id blocks b k h) }
  where
    cases : (a b : ℕ) → (b < a) ⊎ (a ≤ b)
    cases a b = grind arith

    by : (id : ℕ) → (id < n) ⊎ (n ≤ id) → 1 ≤ uses_of id blocks → id < n
    by id c some =
        ⊎_elim (λ (lt : id < n). lt) (λ (ge : n ≤ id). absurd (omega (arith, own.given id ge))) c

-- ---- in lists

-- an element, whatever stands past the end
pub get_or-within : {X : Type 0} (xs : List X) (i : ℕ) (d e : X) → i < length xs → get_or xs i d ≡ get_or xs i e
get_or-within [] i d e h = absurd (omega arith)
get_or-within (x ∷ xs) zero d e h = refl
get_or-within (x ∷ xs) (suc i) d e h = get_or-within xs i d e (omega arith)

-- ---- the place of the instruction that is named

pub has_instr-Contains : (id : ℕ) (b : BlockData) → Contains (ids_of b) id → has_instr id b ≡ true
has_instr-Contains id b (k, within, is) = has_instr-nth_id id b.instrs k (by b.instrs k within is)
  where
    by : (ps : List (ℕ × InstrData)) (k : ℕ) → k < length (map (λ (p : ℕ × InstrData). p.0) ps) → get_or (map (λ (p : ℕ × InstrData). p.0) ps) k id ≡ id → nth_id ps k ≡ Some id
    by [] k h is = absurd (omega arith)
    by (p ∷ ps) zero h is = ap Some is
    by (p ∷ ps) (suc k) h is = by ps k (omega arith) is
