-- What a rewriting in place adds to the weight of a function, and takes from it.
use Rattle.std.proofs.Common.{◌≡◌, ℕ, zero, suc, ◌+◌, ◌<◌, List, [], ◌∷◌, ◌++◌, Option, Some, None, length, take, drop, set, ap, ◌∙◌, arith}
use Rattle.std.specs.Prelude.{option_map, slice_get, sum_by}
use Rattle.std.proofs.lemmas.List.Sums.{sum_by-append, sum_by-cons, sum_by-set}
use Rattle.gi_mir.specs.Data.{InstrData, BlockData, FunctionData}
use Rattle.gi_mir.specs.Edit.{IsLive, empty_block, home_block, home_of, instr_of, place_in_block}
use Rattle.gi_mir.proofs.Located.{id_in-live, id_in-within}
use Rattle.gi_normalise.specs.Tables.{IsInPlace}
use Rattle.gi_normalise.specs.Weights.{list_weight, total_weight}

at-place : (o : Option (ℕ × InstrData)) (i : InstrData) → option_map (λ (p : ℕ × InstrData). p.1) o ≡ Some i → (id : ℕ) × (o ≡ Some (id, i))
at-place None i h = cc
at-place (Some (id, j)) i h = let same : j ≡ i = cc in (id, ap (λ (k : InstrData). Some (id, k)) same)

parted : (size : InstrData → ℕ) (ps : List (ℕ × InstrData)) (k id : ℕ) (i : InstrData) → slice_get ps k ≡ Some (id, i) → list_weight size ps ≡ list_weight size (take k ps) + (size i + list_weight size (drop (suc k) ps))
parted size [] k id i h = cc
parted size (p ∷ ps) zero id i h =
    let same : p ≡ (id, i) = cc in
    let weighs : size p.1 ≡ size i = ap (λ (q : ℕ × InstrData). size q.1) same in
    omega (arith, sum_by-cons (λ (q : ℕ × InstrData). size q.1) p ps, weighs)
parted size (p ∷ ps) (suc k) id i h =
    omega (arith, sum_by-cons (λ (q : ℕ × InstrData). size q.1) p ps, sum_by-cons (λ (q : ℕ × InstrData). size q.1) p (take k ps), parted size ps k id i h)

pub weighed : (size : InstrData → ℕ) (f g : FunctionData) (id : ℕ) (i : InstrData) → IsLive f id → instr_of f id ≡ Some i → (local : IsInPlace f id g) → total_weight size g + size i ≡ total_weight size f + list_weight size local.instrs
weighed size f g id i live there local =
    let home = home_of f id in
    let body = home_block f id in
    let k = place_in_block f id in
    let ps = body.instrs in
    let new : BlockData = record body { instrs = take k ps ++ (local.instrs ++ drop (k + 1) ps) } in
    let within : home < length f.blocks = id_in-within id f.blocks home k (id_in-live f id live) in
    let (n, stands) = at-place (slice_get ps k) i there in
    let one : k + 1 ≡ suc k = omega arith in
    let old_weight = parted size ps k n i stands in
    let new_weight : list_weight size new.instrs ≡ list_weight size (take k ps) + (list_weight size local.instrs + list_weight size (drop (suc k) ps)) =
    rw one (sum_by-append (λ (q : ℕ × InstrData). size q.1) (take k ps) (local.instrs ++ drop (suc k) ps) ∙ ap (λ (w : ℕ). list_weight size (take k ps) + w) (sum_by-append (λ (q : ℕ × InstrData). size q.1) local.instrs (drop (suc k) ps))) in
    let changed = sum_by-set (λ (b : BlockData). list_weight size b.instrs) f.blocks home new empty_block within in
    let after : total_weight size g ≡ sum_by (λ (b : BlockData). list_weight size b.instrs) (set f.blocks home new) = ap (sum_by (λ (b : BlockData). list_weight size b.instrs)) local.blocks in
    omega (arith, after, changed, new_weight, old_weight)
