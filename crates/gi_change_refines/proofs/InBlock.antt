-- An instruction in its block.
use Rattle.std.proofs.Common.{◌≡◌, ℕ, zero, suc, ◌+◌, List, [], ◌∷◌, ◌++◌, Option, Some, None, length, take, drop, get_or, refl, ap, ap₂, arith, ◌<◌, Bool, true, false, cond, slice_get, ◌∙◌}
use Rattle.std.specs.Prelude.{option_map, slice_get}
use Rattle.gi_mir.specs.Data.{InstrData, FunctionData}
use Rattle.gi_mir.specs.Edit.{IsLive, home_block, instr_of, place_in_block, empty_block, home_of}
use Rattle.gi_mir.proofs.Located.{id_in-live, id_in-within}
use Rattle.gi_meaning.specs.Runs.{after_phis, is_phi}
use Rattle.gi_change_refines.specs.InBlock.{back_of, front_of}

pub get-within : {X : Type 0} (xs : List X) (k : ℕ) (d : X) → k < length xs → slice_get xs k ≡ Some (get_or xs k d)
get-within [] k d h = absurd (omega arith)
get-within (x ∷ xs) zero d h = refl
get-within (x ∷ xs) (suc k) d h = get-within xs k d (omega arith)

pub split-at : {X : Type 0} (xs : List X) (k : ℕ) (x : X) → slice_get xs k ≡ Some x → xs ≡ take k xs ++ (x ∷ drop (k + 1) xs)
split-at [] k x h = cc
split-at (y ∷ xs) zero x h = let same : y ≡ x = cc in ap (λ z. z ∷ xs) same
split-at (y ∷ xs) (suc k) x h = let one : suc k + 1 ≡ suc (k + 1) = omega arith in rw one (ap (λ ys. y ∷ ys) (split-at xs k x h))

pub entry-of : (f : FunctionData) (id : ℕ) (i : InstrData) → IsLive f id → instr_of f id ≡ Some i → slice_get (home_block f id).instrs (place_in_block f id) ≡ Some (id, i)
entry-of f id i live there = by (slice_get (home_block f id).instrs (place_in_block f id)) (id_in-live f id live) there
  where
    by : (o : Option (ℕ × InstrData)) → option_map (λ (p : ℕ × InstrData). p.0) o ≡ Some id → option_map (λ (p : ℕ × InstrData). p.1) o ≡ Some i → o ≡ Some (id, i)
    by None h g = cc
    by (Some p) h g = let first : p.0 ≡ id = cc in let second : p.1 ≡ i = cc in ap₂ (λ (n : ℕ) (j : InstrData). let q : ℕ × InstrData = (n, j) in Some q) first second

-- behind a phi's end the others begin
others_behind : (front : List (ℕ × InstrData)) (i : ℕ × InstrData) (back : List (ℕ × InstrData)) → is_phi i.1 ≡ false → after_phis (front ++ i ∷ back) ≡ after_phis front ++ i ∷ back
others_behind [] i back other = ap (λ t. cond t (after_phis back) (i ∷ back)) other
others_behind (k ∷ front) i back other = by (is_phi k.1) (others_behind front i back other)
  where
    by : (t : Bool) → after_phis (front ++ i ∷ back) ≡ after_phis front ++ i ∷ back → cond t (after_phis (front ++ i ∷ back)) (k ∷ (front ++ i ∷ back)) ≡ cond t (after_phis front) (k ∷ front) ++ i ∷ back
    by true rest = rest
    by false rest = refl

-- where the root stands
pub root_there : (f : FunctionData) (id : ℕ) → IsLive f id → slice_get f.blocks (home_of f id) ≡ Some (home_block f id)
root_there f id live = get-within f.blocks (home_of f id) empty_block (id_in-within id f.blocks (home_of f id) (place_in_block f id) (id_in-live f id live))

pub root_splits : (f : FunctionData) (id : ℕ) (i : InstrData) → IsLive f id → instr_of f id ≡ Some i → is_phi i ≡ false → after_phis (home_block f id).instrs ≡ after_phis (front_of f id) ++ (id, i) ∷ back_of f id
root_splits f id i live is other = ap after_phis (split-at (home_block f id).instrs (place_in_block f id) (id, i) (entry-of f id i live is)) ∙ others_behind (front_of f id) (id, i) (back_of f id) other
