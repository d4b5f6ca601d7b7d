-- What stands where, before and after each edit of a rewriting.
use Rattle.std.proofs.Common.{◌≡◌, ℕ, zero, suc, ◌+◌, ◌<◌, Bool, true, List, [], ◌∷◌, Option, Some, None, IfSome, length, get_or, refl, sym, subst, ◌∙◌, arith, Contains}
use Rattle.std.specs.Prelude.{insert, remove, map, option_map, slice_get, ◌==◌}
use Rattle.std.specs.List.{list_any}
use Rattle.std.proofs.lemmas.List.{get_or-set_same, length-set}
use Rattle.std.proofs.lemmas.List.Folds.{list_any-append}
use Rattle.std.proofs.lemmas.List.Sorted.{IsPermutation-insert, list_any-IsPermutation}
use Rattle.gi_mir.specs.declared.block.InstrId.{InstrId}
use Rattle.gi_mir.specs.Data.{InstrData, BlockData, FunctionData}
use Rattle.gi_mir.specs.Edit.{IsLive, block_at, block_with_instr, empty_block, has_instr, home_of, id_after, ids_of, instr_of, instrs_with, place_in_block, place_of, with_instr, without_instr}
use Rattle.gi_mir.specs.Places.{nth_id}
use Rattle.gi_mir.proofs.OrLemmas.{or_left, or_right}
use Rattle.gi_mir.proofs.Located.{has_instr-Contains, has_instr-nth_id, id_in-live, id_in-within, nth_id-place_of}
use Rattle.gi_replace.specs.Applying.{id_of, next_to}

-- ---- an instruction that is live is there

pub instr-live : (f : FunctionData) (id : ℕ) → IsLive f id → (i : InstrData) × (instr_of f id ≡ Some i)
instr-live f id live = by (slice_get (get_or f.blocks (home_of f id) empty_block).instrs (place_in_block f id)) (id_in-live f id live)
  where
    by : (o : Option (ℕ × InstrData)) → option_map (λ (p : ℕ × InstrData). p.0) o ≡ Some id → (i : InstrData) × (option_map (λ (p : ℕ × InstrData). p.1) o ≡ Some i)
    by None h = cc
    by (Some p) h = (p.1, refl)

pub home-within : (f : FunctionData) (id : ℕ) → IsLive f id → home_of f id < length f.blocks
home-within f id live = id_in-within id f.blocks (home_of f id) (place_in_block f id) (id_in-live f id live)

-- ---- what stands in a block

contains-at : (id : ℕ) (ps : List (ℕ × InstrData)) (k : ℕ) → nth_id ps k ≡ Some id → (k < length (map (λ (p : ℕ × InstrData). p.0) ps)) × (get_or (map (λ (p : ℕ × InstrData). p.0) ps) k id ≡ id)
contains-at id [] k h = cc
contains-at id (p ∷ ps) zero h = (omega arith, cc)
contains-at id (p ∷ ps) (suc k) h = let (within, is) = contains-at id ps k h in (omega arith, is)

pub Contains-has : (id : ℕ) (b : BlockData) → has_instr id b ≡ true → Contains (ids_of b) id
Contains-has id b h =
    let (within, is) = contains-at id b.instrs (place_of id b.instrs) (nth_id-place_of id b.instrs h) in (place_of id b.instrs, within, is)

has-instrs_with : (p : ℕ × InstrData → Bool) (instrs : List (ℕ × InstrData)) (before : Option InstrId) (new : ℕ × InstrData) → list_any p instrs ≡ true → list_any p (instrs_with instrs before new) ≡ true
has-instrs_with p instrs None new h = list_any-append p instrs (new ∷ []) ∙ or_left (list_any p instrs) (list_any p (new ∷ [])) h
has-instrs_with p instrs (Some id) new h =
    sym (list_any-IsPermutation p (new ∷ instrs) (insert instrs (place_of id.0 instrs) new) (IsPermutation-insert instrs (place_of id.0 instrs) new))
    ∙ or_right (p new) (list_any p instrs) h

-- what is named stays in the block when an instruction is created there
pub stands-created : (f : FunctionData) (block : ℕ) (before named : Option InstrId) (i : InstrData) → block < length f.blocks → IfSome named (λ id. Contains (ids_of (block_at f block)) id.0)
    → IfSome named (λ id. Contains (ids_of (block_at (with_instr f block before i) block)) id.0)
stands-created f block before None i within h = tt
stands-created f block before (Some id) i within h =
    let new = block_with_instr (block_at f block) before (f.next_id, i) in
    let has = has-instrs_with (λ (p : ℕ × InstrData). p.0 == id.0) (block_at f block).instrs before (f.next_id, i) (has_instr-Contains id.0 (block_at f block) h) in
    subst (λ (c : BlockData). Contains (ids_of c) id.0) (sym (get_or-set_same f.blocks block new empty_block within)) (Contains-has id.0 new has)

pub within-created : (f : FunctionData) (block : ℕ) (before : Option InstrId) (i : InstrData) → block < length f.blocks → block < length (with_instr f block before i).blocks
within-created f block before i within = rw (length-set f.blocks block (block_with_instr (block_at f block) before (f.next_id, i))) within

-- ---- what stands behind the root

removed-next : (id : ℕ) (ps : List (ℕ × InstrData)) (k : ℕ) → nth_id ps (k + 1) ≡ Some id → nth_id (remove ps k) k ≡ Some id
removed-next id [] k h = cc
removed-next id (p ∷ ps) zero h = h
removed-next id (p ∷ ps) (suc k) h = let one : suc k + 1 ≡ suc (k + 1) = omega arith in removed-next id ps k (rw one at h)

pub stands-erased : (f : FunctionData) (id : ℕ) → IsLive f id → IfSome (next_to f id) (λ n. Contains (ids_of (block_at (without_instr f id) (home_of f id))) n.0)
stands-erased f id live = by (id_after f id) refl
  where
    by : (o : Option ℕ) → id_after f id ≡ o → IfSome (option_map id_of o) (λ n. Contains (ids_of (block_at (without_instr f id) (home_of f id))) n.0)
    by None h = tt
    by (Some n) h =
        let body = get_or f.blocks (home_of f id) empty_block in
        let left : BlockData = record body { instrs = remove body.instrs (place_in_block f id) } in
        let has = has_instr-nth_id n left.instrs (place_in_block f id) (removed-next n body.instrs (place_in_block f id) h) in
        subst (λ (c : BlockData). Contains (ids_of c) n) (sym (get_or-set_same f.blocks (home_of f id) left empty_block (home-within f id live))) (Contains-has n left has)

-- ---- the same of the function that an edit left

pub created-within : (f g : FunctionData) (block : ℕ) (before : Option InstrId) (i : InstrData) → g ≡ with_instr f block before i → block < length f.blocks → block < length g.blocks
created-within f g block before i is within = subst (λ (k : FunctionData). block < length k.blocks) (sym is) (within-created f block before i within)

pub created-stands : (f g : FunctionData) (block : ℕ) (before : Option InstrId) (i : InstrData) → g ≡ with_instr f block before i → block < length f.blocks → IfSome before (λ id. Contains (ids_of (block_at f block)) id.0)
    → IfSome before (λ id. Contains (ids_of (block_at g block)) id.0)
created-stands f g block before i is within named =
    subst (λ (k : FunctionData). IfSome before (λ id. Contains (ids_of (block_at k block)) id.0)) (sym is) (stands-created f block before before i within named)
