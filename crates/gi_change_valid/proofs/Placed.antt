-- Instructions by their ids.
use Rattle.std.proofs.Common.{◌≡◌, ℕ, zero, suc, ◌+◌, ◌≤◌, true, cond, ◌==◌, List, [], ◌∷◌, ◌++◌, Option, Some, None, option_map, get_or, slice_get, inl, inr, ⊎_elim, refl, sym, ap, ap₂, ◌∙◌, subst, arith}
use Rattle.std.proofs.lemmas.List.Sums.{sum_by-append}
use Rattle.gi_mir.specs.Data.{InstrData, BlockData, FunctionData}
use Rattle.gi_mir.specs.Edit.{IsLive, all_instrs, empty_block, home_block, home_of, instr_of, place_in_block}
use Rattle.gi_mir.specs.Ids.{uses_among, uses_in, uses_of}
use Rattle.gi_mir.proofs.Located.{id_in-live}
use Rattle.gi_change_valid.specs.Rewriting.{IsOneOf}

-- ══ Counting ids ══

pub uses_first : (id : ℕ) (p : ℕ × InstrData) (is : List (ℕ × InstrData)) → uses_among id (p ∷ is) ≡ cond (p.0 == id) 1 0 + uses_among id is
uses_first id p is =
    let all : uses_among id (p ∷ is) ≡ uses_among id (p ∷ []) + uses_among id is = sum_by-append (λ (q : ℕ × InstrData). cond (q.0 == id) 1 0) (p ∷ []) is in
    let one : uses_among id (p ∷ []) ≡ cond (p.0 == id) 1 0 = alone (cond (p.0 == id) 1 0) in
    omega (arith, all, one)
  where
    alone : (n : ℕ) → 0 + n ≡ n
    alone n = omega arith

pub uses_both : (id : ℕ) (xs ys : List (ℕ × InstrData)) → uses_among id (xs ++ ys) ≡ uses_among id xs + uses_among id ys
uses_both id xs ys = sum_by-append (λ (q : ℕ × InstrData). cond (q.0 == id) 1 0) xs ys

pub uses_in_all : (id : ℕ) (blocks : List BlockData) → uses_of id blocks ≡ uses_among id (all_instrs blocks)
uses_in_all id [] = refl
uses_in_all id (k ∷ blocks) =
    let all : uses_of id (k ∷ blocks) ≡ uses_of id (k ∷ []) + uses_of id blocks = sum_by-append (uses_in id) (k ∷ []) blocks in
    let one : uses_of id (k ∷ []) ≡ uses_among id k.instrs = alone (uses_among id k.instrs) in
    let rest : uses_of id blocks ≡ uses_among id (all_instrs blocks) = uses_in_all id blocks in
    let both : uses_among id (k.instrs ++ all_instrs blocks) ≡ uses_among id k.instrs + uses_among id (all_instrs blocks) = uses_both id k.instrs (all_instrs blocks) in
    omega (arith, all, one, rest, both)
  where
    alone : (n : ℕ) → 0 + n ≡ n
    alone n = omega arith

-- ids are counted where they stand
pub counted : (id : ℕ) (p : ℕ × InstrData) (is : List (ℕ × InstrData)) → IsOneOf p is → (p.0 == id) ≡ true → 1 ≤ uses_among id is
counted id p [] there own = absurd there
counted id p (q ∷ is) there own =
    let all : uses_among id (q ∷ is) ≡ cond (q.0 == id) 1 0 + uses_among id is = uses_first id q is in
    ⊎_elim
    (λ same. let one : ◌≡◌ {A = ℕ} (cond (q.0 == id) 1 0) 1 = ap (λ t. cond t 1 0) (subst (λ (k : ℕ × InstrData). (k.0 == id) ≡ true) same own) in omega (arith, all, one))
    (λ later. let one : 1 ≤ uses_among id is = counted id p is later own in omega (arith, all, one)) there

pub one_with : (id : ℕ) (p q : ℕ × InstrData) (is : List (ℕ × InstrData)) → uses_among id is ≤ 1 → IsOneOf p is → IsOneOf q is → (p.0 == id) ≡ true → (q.0 == id) ≡ true → p ≡ q
one_with id p q [] most there then own own' = absurd there
one_with id p q (i ∷ is) most there then own own' =
    ⊎_elim
    (λ same. ⊎_elim (λ same'. same ∙ sym same') (λ later'. absurd (two i (subst (λ (k : ℕ × InstrData). (k.0 == id) ≡ true) same own) (counted id q is later' own'))) then)
    (λ later. ⊎_elim (λ same'. absurd (two i (subst (λ (k : ℕ × InstrData). (k.0 == id) ≡ true) same' own') (counted id p is later own)))
    (λ later'. one_with id p q is (fewer (uses_first id i is)) later later' own own') then) there
  where
    two : (k : ℕ × InstrData) → (i.0 == id) ≡ true → 1 ≤ uses_among id is → ⊥
    two k here more =
        let all : uses_among id (i ∷ is) ≡ cond (i.0 == id) 1 0 + uses_among id is = uses_first id i is in
        let one : ◌≡◌ {A = ℕ} (cond (i.0 == id) 1 0) 1 = ap (λ t. cond t 1 0) here in
        omega (arith, most, all, one, more)

    fewer : uses_among id (i ∷ is) ≡ cond (i.0 == id) 1 0 + uses_among id is → uses_among id is ≤ 1
    fewer all = omega (arith, all, most)

-- ══ Where they stand ══

one_of : (is : List (ℕ × InstrData)) (place : ℕ) (p : ℕ × InstrData) → slice_get is place ≡ Some p → IsOneOf p is
one_of [] place p h = cc
one_of (q ∷ is) zero p h = let same : q ≡ p = cc in inl (sym same)
one_of (q ∷ is) (suc place) p h = inr (one_of is place p h)

one_of_block : (blocks : List BlockData) (b : ℕ) (p : ℕ × InstrData) → IsOneOf p (get_or blocks b empty_block).instrs → IsOneOf p (all_instrs blocks)
one_of_block [] b p there = there
one_of_block (k ∷ blocks) zero p there = front k.instrs there
  where
    front : (xs : List (ℕ × InstrData)) → IsOneOf p xs → IsOneOf p (xs ++ all_instrs blocks)
    front [] there = absurd there
    front (x ∷ xs) there = ⊎_elim (λ same. inl same) (λ later. inr (front xs later)) there
one_of_block (k ∷ blocks) (suc b) p there = behind k.instrs (one_of_block blocks b p there)
  where
    behind : (xs : List (ℕ × InstrData)) → IsOneOf p (all_instrs blocks) → IsOneOf p (xs ++ all_instrs blocks)
    behind [] there = there
    behind (x ∷ xs) there = inr (behind xs there)

-- an instruction that is found by its id stands in the function
pub found_by_id : (f : FunctionData) (id : ℕ) (root : InstrData) → IsLive f id → instr_of f id ≡ Some root → IsOneOf (id, root) (all_instrs f.blocks)
found_by_id f id root live found = by (slice_get (home_block f id).instrs (place_in_block f id)) refl (id_in-live f id live) found
  where
    by : (o : Option (ℕ × InstrData)) → slice_get (home_block f id).instrs (place_in_block f id) ≡ o → option_map (λ (p : ℕ × InstrData). p.0) o ≡ Some id → option_map (λ (p : ℕ × InstrData). p.1) o ≡ Some root
        → IsOneOf (id, root) (all_instrs f.blocks)
    by None so h l = cc
    by (Some p) so h l =
        let first : p.0 ≡ id = cc in
        let second : p.1 ≡ root = cc in
        let same : p ≡ (id, root) = ap₂ (λ n i. (n, i)) first second in
        subst (λ q. IsOneOf q (all_instrs f.blocks)) same (one_of_block f.blocks (home_of f id) p (one_of (home_block f id).instrs (place_in_block f id) p so))
