-- Each edit keeps each id with one instruction.
use Rattle.std.proofs.Common.{◌≡◌, ℕ, zero, suc, ◌+◌, ◌<◌, ◌≤◌, List, [], ◌∷◌, ◌⊎◌, ⊎_elim, length, get_or, set, refl, sym, ap, ◌∙◌, arith}
use Rattle.std.specs.Prelude.{insert, remove, ◌==◌, if◌then◌else◌, nat_lt}
use Rattle.std.proofs.lemmas.Bool.Decides.{nat_tests}
use Rattle.std.proofs.lemmas.List.Sums.{get_or-le-sum_by, sum_by-set, sum_by-cons}
use Rattle.std.proofs.lemmas.List.Sorted.{IsPermutation-insert, sum_by-IsPermutation}
use Rattle.gi_mir.specs.Data.{InstrData, BlockData}
use Rattle.gi_mir.specs.Edit.{changed_at}
use Rattle.gi_mir.proofs.Edits.{less_or_not}
use Rattle.gi_mir.proofs.FormedLemmas.{changed_at-suc}
use Rattle.gi_mir.specs.Ids.{uses_among, uses_in, uses_of, AreOwnIds}

-- 1 where the ids are equal
abbrev one_if : ℕ → ℕ → ℕ
one_if n id = if n == id then 1 else 0

uses_among-cons : (id : ℕ) (p : ℕ × InstrData) (ps : List (ℕ × InstrData)) → uses_among id (p ∷ ps) ≡ one_if p.0 id + uses_among id ps
uses_among-cons id p ps = sum_by-cons (λ q. if q.0 == id then 1 else 0) p ps

uses_among-insert : (id : ℕ) (instrs : List (ℕ × InstrData)) (at : ℕ) (new : ℕ × InstrData) → uses_among id (insert instrs at new) ≡ uses_among id instrs + one_if new.0 id
uses_among-insert id instrs at new =
    sum_by-IsPermutation (λ p. if p.0 == id then 1 else 0) (new ∷ instrs) (insert instrs at new) (IsPermutation-insert instrs at new)
    ∙ uses_among-cons id new instrs
    ∙ omega arith

-- what a block loses or gains, the function does
uses_of-set : (id : ℕ) (blocks : List BlockData) (b : ℕ) (new d : BlockData) → b < length blocks → uses_of id (set blocks b new) + uses_in id (get_or blocks b d) ≡ uses_of id blocks + uses_in id new
uses_of-set id blocks b new d h = sum_by-set (uses_in id) blocks b new d h

pub AreOwnIds-inserted : (blocks : List BlockData) (n b at : ℕ) (old : BlockData) (i : InstrData) → b < length blocks → old ≡ get_or blocks b old → AreOwnIds blocks n → AreOwnIds (set blocks b (record old { instrs = insert old.instrs at (n, i) })) (n + 1)
AreOwnIds-inserted blocks n b at old i h same own = record {
  once = λ id. by_once id (uses id);
  given = λ id more. by_given id more (uses id);
}
  where
    uses : (id : ℕ) → uses_of id (set blocks b (record old { instrs = insert old.instrs at (n, i) })) ≡ uses_of id blocks + one_if n id
    uses id =
        let s = uses_of-set id blocks b (record old { instrs = insert old.instrs at (n, i) }) old h in
        let t = uses_among-insert id old.instrs at (n, i) in
        let u : uses_in id old ≡ uses_in id (get_or blocks b old) = ap (uses_in id) same in
        omega arith

    by_once : (id : ℕ) → uses_of id (set blocks b (record old { instrs = insert old.instrs at (n, i) })) ≡ uses_of id blocks + one_if n id → uses_of id (set blocks b (record old { instrs = insert old.instrs at (n, i) })) ≤ 1
    by_once id e = grind (arith, nat_tests, e, own.once id, own.given id)

    by_given : (id : ℕ) → n + 1 ≤ id → uses_of id (set blocks b (record old { instrs = insert old.instrs at (n, i) })) ≡ uses_of id blocks + one_if n id → uses_of id (set blocks b (record old { instrs = insert old.instrs at (n, i) })) ≡ 0
    by_given id more e = grind (arith, nat_tests, e, own.given id)

-- where no id is used more often in the new block, what held still does
pub AreOwnIds-set : (blocks : List BlockData) (n b : ℕ) (old new : BlockData) → b < length blocks → old ≡ get_or blocks b old → ((id : ℕ) → uses_in id new ≤ uses_in id old) → AreOwnIds blocks n → AreOwnIds (set blocks b new) n
AreOwnIds-set blocks n b old new h same fewer own = record {
  once = λ id. let l = less id in omega (arith, own.once id);
  given = λ id more. let l = less id in omega (arith, own.given id more);
}
  where
    less : (id : ℕ) → uses_of id (set blocks b new) ≤ uses_of id blocks
    less id =
        let s = uses_of-set id blocks b new old h in
        let u : uses_in id old ≡ uses_in id (get_or blocks b old) = ap (uses_in id) same in
        omega (arith, fewer id)

pub uses_among-remove : (id : ℕ) (instrs : List (ℕ × InstrData)) (k : ℕ) → uses_among id (remove instrs k) ≤ uses_among id instrs
uses_among-remove id [] zero = omega arith
uses_among-remove id [] (suc k) = omega arith
uses_among-remove id (p ∷ ps) zero = omega (arith, uses_among-cons id p ps)
uses_among-remove id (p ∷ ps) (suc k) =
    omega (arith, uses_among-cons id p ps, uses_among-cons id p (remove ps k), uses_among-remove id ps k)

pub AreOwnIds-removed : (blocks : List BlockData) (n b at : ℕ) (body : BlockData) → b < length blocks → body ≡ get_or blocks b body → AreOwnIds blocks n → AreOwnIds (set blocks b (record body { instrs = remove body.instrs at })) n
AreOwnIds-removed blocks n b at body h same own =
    AreOwnIds-set blocks n b body (record body { instrs = remove body.instrs at }) h same (λ id. uses_among-remove id body.instrs at) own

-- an edit of the instruction leaves its id
pub uses_among-changed_at : (id : ℕ) (edit : InstrData → InstrData) (instrs : List (ℕ × InstrData)) (k : ℕ) → uses_among id (changed_at (λ p. (p.0, edit p.1)) k instrs) ≡ uses_among id instrs
uses_among-changed_at id edit [] k = refl
uses_among-changed_at id edit (p ∷ ps) zero =
    uses_among-cons id (p.0, edit p.1) ps ∙ sym (uses_among-cons id p ps)
uses_among-changed_at id edit (p ∷ ps) (suc k) =
    rw (changed_at-suc (λ q. (q.0, edit q.1)) k p ps)
    (uses_among-cons id p (changed_at (λ q. (q.0, edit q.1)) k ps)
    ∙ ap (λ n. one_if p.0 id + n) (uses_among-changed_at id edit ps k)
    ∙ sym (uses_among-cons id p ps))

-- ---- a block has no more instructions than there are ids

-- how many instructions have an id below a number
abbrev below : ℕ → List (ℕ × InstrData) → ℕ
below zero instrs = 0
below (suc n) instrs = uses_among n instrs + below n instrs

below-few : (n : ℕ) (instrs : List (ℕ × InstrData)) → ((id : ℕ) → uses_among id instrs ≤ 1) → below n instrs ≤ n
below-few zero instrs once = omega arith
below-few (suc n) instrs once = omega (arith, once n, below-few n instrs once)

-- 1 where a number is below another
abbrev one_below : ℕ → ℕ → ℕ
one_below a n = if nat_lt a n then 1 else 0

one_below-zero : (a : ℕ) → one_below a 0 ≡ 0
one_below-zero a = grind (arith, nat_tests)

one_below-suc : (a n : ℕ) → one_if a n + one_below a n ≡ one_below a (suc n)
one_below-suc a n = grind (arith, nat_tests)

one_below-is : (a n : ℕ) → a < n → one_below a n ≡ 1
one_below-is a n lt = grind (arith, nat_tests)

below-cons : (n : ℕ) (p : ℕ × InstrData) (ps : List (ℕ × InstrData)) → below n (p ∷ ps) ≡ below n ps + one_below p.0 n
below-cons zero p ps = omega (arith, one_below-zero p.0)
below-cons (suc n) p ps = omega (arith, below-cons n p ps, uses_among-cons n p ps, one_below-suc p.0 n)

one_if-same : (a : ℕ) → one_if a a ≡ 1
one_if-same a = grind (arith, nat_tests)

small_id : (n : ℕ) (p : ℕ × InstrData) (ps : List (ℕ × InstrData)) → ((id : ℕ) → n ≤ id → uses_among id (p ∷ ps) ≡ 0) → (p.0 < n) ⊎ (n ≤ p.0) → p.0 < n
small_id n p ps given c =
    ⊎_elim (λ (lt : p.0 < n). lt) (λ (ge : n ≤ p.0). absurd (omega (arith, given p.0 ge, uses_among-cons p.0 p ps, one_if-same p.0))) c

below-all : (n : ℕ) (instrs : List (ℕ × InstrData)) → ((id : ℕ) → n ≤ id → uses_among id instrs ≡ 0) → length instrs ≤ below n instrs
below-all n [] given = omega arith
below-all n (p ∷ ps) given =
    let small = small_id n p ps given (less_or_not p.0 n) in
    omega (arith, below-cons n p ps, one_below-is p.0 n small, below-all n ps (λ id ge. rest id (given id ge)))
  where
    rest : (id : ℕ) → uses_among id (p ∷ ps) ≡ 0 → uses_among id ps ≡ 0
    rest id none = omega (arith, uses_among-cons id p ps)

pub few-instrs : (blocks : List BlockData) (n b : ℕ) (d : BlockData) → b < length blocks → AreOwnIds blocks n → length (get_or blocks b d).instrs ≤ n
few-instrs blocks n b d within own =
    omega (
      arith,
      below-all n (get_or blocks b d).instrs (λ id ge. omega (arith, own.given id ge, get_or-le-sum_by (uses_in id) blocks b d within)),
      below-few n (get_or blocks b d).instrs (λ id. omega (arith, own.once id, get_or-le-sum_by (uses_in id) blocks b d within)),
    )
