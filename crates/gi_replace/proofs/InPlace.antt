-- A rewriting seen at once.
use Rattle.std.proofs.Common.{◌≡◌, ℕ, zero, suc, ◌+◌, ◌<◌, Bool, true, false, not, ◌||◌, cond, List, [], ◌∷◌, ◌++◌, Option, Some, None, length, take, drop, get_or, set, refl, sym, subst, ap, ◌∙◌, append_assoc, arith, eq-eqb}
use Rattle.std.specs.Prelude.{insert, remove, option_map, slice_get, ◌==◌}
use Rattle.std.specs.List.{list_any}
use Rattle.std.proofs.lemmas.Bool.Decides.{nat_tests}
use Rattle.std.proofs.lemmas.List.{get_or-set_same, length-set, set-get_or, set-set}
use Rattle.std.proofs.lemmas.List.Folds.{list_any-append}
use Rattle.gi_mir.specs.declared.block.InstrId.{InstrId}
use Rattle.gi_mir.specs.Data.{InstrData, BlockData, FunctionData}
use Rattle.gi_mir.specs.Edit.{IsLive, block_at, block_with_instr, empty_block, home_of, instrs_with, place_in_block, place_of, with_instr, without_instr}
use Rattle.gi_mir.specs.Ids.{AreOwnIds}
use Rattle.gi_mir.specs.Places.{HasDistinctIds, nth_id}
use Rattle.gi_mir.proofs.Located.{HasDistinctIds-in, HasGivenIds-in, nth_id-place_of}
use Rattle.gi_replace.specs.Applying.{all_created, id_of, next_to, root_replaced}
use Rattle.gi_replace.specs.InPlace.{block_with, blocks_with, with_ids}
use Rattle.gi_replace.proofs.Standing.{home-within}

-- ---- a named instruction in a list

-- what is named stands behind what lacks it
place-behind : (id : ℕ) (front : List (ℕ × InstrData)) (i : InstrData) (back : List (ℕ × InstrData)) → list_any (λ (p : ℕ × InstrData). p.0 == id) front ≡ false → place_of id (front ++ (id, i) ∷ back) ≡ length front
place-behind id [] i back h = rw (eq-eqb id id refl) refl
place-behind id (p ∷ ps) i back h = by (p.0 == id) h (λ g. place-behind id ps i back g)
  where
    by : (b : Bool) → (b || list_any (λ (q : ℕ × InstrData). q.0 == id) ps) ≡ false → (list_any (λ (q : ℕ × InstrData). q.0 == id) ps ≡ false → place_of id (ps ++ (id, i) ∷ back) ≡ length ps)
        → cond (not b) (1 + place_of id (ps ++ (id, i) ∷ back)) 0 ≡ length (p ∷ ps)
    by true g more = cc
    by false g more = let e = more g in omega (arith, e)

insert-behind : {X : Type 0} (front back : List X) (x : X) → insert (front ++ back) (length front) x ≡ front ++ x ∷ back
insert-behind [] back x = refl
insert-behind (y ∷ front) back x = ap (λ zs. y ∷ zs) (insert-behind front back x)

-- ---- instructions that are created, one after another

-- the first of what stands behind is named, and nothing is where nothing stands there
abbrev IsNamed : Option InstrId → List (ℕ × InstrData) → Type 0
IsNamed None back = back ≡ []
IsNamed (Some id) back = (i : InstrData) × (rest : List (ℕ × InstrData)) × (back ≡ (id.0, i) ∷ rest)

-- what is named stands nowhere in front, and its id was given
abbrev IsApart : Option InstrId → List (ℕ × InstrData) → (n : ℕ) → Type 0
IsApart None front n = Unit {0}
IsApart (Some id) front n = (list_any (λ (p : ℕ × InstrData). p.0 == id.0) front ≡ false) × (id.0 < n)

instrs_with-behind : (before : Option InstrId) (front back : List (ℕ × InstrData)) (new : ℕ × InstrData) (n : ℕ) → IsNamed before back → IsApart before front n → instrs_with (front ++ back) before new ≡ front ++ new ∷ back
instrs_with-behind None front back new n h apart =
    subst (λ (ps : List (ℕ × InstrData)). (front ++ ps) ++ new ∷ [] ≡ front ++ new ∷ ps) (sym h) (append_assoc front [] (new ∷ []))
instrs_with-behind (Some id) front back new n (i, rest, h) apart =
    subst (λ (ps : List (ℕ × InstrData)). insert (front ++ ps) (place_of id.0 (front ++ ps)) new ≡ front ++ new ∷ ps) (sym h)
    (ap (λ (k : ℕ). insert (front ++ (id.0, i) ∷ rest) k new) (place-behind id.0 front i rest apart.0) ∙ insert-behind front ((id.0, i) ∷ rest) new)

apart-more : (before : Option InstrId) (front : List (ℕ × InstrData)) (n : ℕ) (i : InstrData) → IsApart before front n → IsApart before (front ++ (n, i) ∷ []) (n + 1)
apart-more None front n i h = tt
apart-more (Some id) front n i h = (
  list_any-append (λ (p : ℕ × InstrData). p.0 == id.0) front ((n, i) ∷ []) ∙ both (list_any (λ (p : ℕ × InstrData). p.0 == id.0) front) (n == id.0) h.0 (other n id.0 h.1),
  omega (arith, h.1),
)
  where
    both : (a b : Bool) → a ≡ false → b ≡ false → (a || (b || false)) ≡ false
    both a b e g = rw (e, g) refl

    other : (n id : ℕ) → id < n → (n == id) ≡ false
    other n id h = grind (arith, nat_tests)

created : (made : List InstrData) (before : Option InstrId) (front back : List (ℕ × InstrData)) (block : ℕ) (b : BlockData) (g : FunctionData) → block < length g.blocks
    → block_at g block ≡ record b { instrs = front ++ back } → IsNamed before back → IsApart before front g.next_id
    → (all_created block before made g).blocks ≡ set g.blocks block (record b { instrs = front ++ (with_ids g.next_id made ++ back) })
created [] before front back block b g within is named apart = sym (ap (set g.blocks block) (sym is) ∙ set-get_or g.blocks block empty_block)
created (i ∷ made) before front back block b g within is named apart =
    let new : ℕ × InstrData = (g.next_id, i) in
    let more : BlockData = record b { instrs = front ++ new ∷ back } in
    let h = with_instr g block before i in
    let changed : block_with_instr (block_at g block) before new ≡ more =
    ap (λ (c : BlockData). block_with_instr c before new) is ∙ ap (λ (ps : List (ℕ × InstrData)). record b { instrs = ps }) (instrs_with-behind before front back new g.next_id named apart) in
    let blocks : h.blocks ≡ set g.blocks block more = ap (set g.blocks block) changed in
    let there : block_at h block ≡ record b { instrs = (front ++ new ∷ []) ++ back } =
    ap (λ (bs : List BlockData). get_or bs block empty_block) blocks ∙ get_or-set_same g.blocks block more empty_block within
    ∙ ap (λ (ps : List (ℕ × InstrData)). record b { instrs = ps }) (sym (append_assoc front (new ∷ []) back)) in
    let within_then : block < length h.blocks = rw (length-set g.blocks block (block_with_instr (block_at g block) before new)) within in
    let rest = created made before (front ++ new ∷ []) back block b h within_then there named (apart-more before front g.next_id i apart) in
    let last : BlockData = record b { instrs = (front ++ new ∷ []) ++ (with_ids (g.next_id + 1) made ++ back) } in
    rest
    ∙ ap (λ (bs : List BlockData). set bs block last) blocks
    ∙ set-set g.blocks block more last
    ∙ ap (λ (ps : List (ℕ × InstrData)). set g.blocks block (record b { instrs = ps })) (append_assoc front (new ∷ []) (with_ids (g.next_id + 1) made ++ back))

-- ---- the root is taken out

pub remove-parts : {X : Type 0} (xs : List X) (k : ℕ) → remove xs k ≡ take k xs ++ drop (k + 1) xs
remove-parts [] zero = refl
remove-parts [] (suc k) = let one : suc k + 1 ≡ suc (k + 1) = omega arith in rw one refl
remove-parts (x ∷ xs) zero = refl
remove-parts (x ∷ xs) (suc k) = let one : suc k + 1 ≡ suc (k + 1) = omega arith in rw one (ap (λ ys. x ∷ ys) (remove-parts xs k))

drop-none : {X : Type 0} (xs : List X) (k : ℕ) → slice_get xs k ≡ None → drop k xs ≡ []
drop-none [] zero h = refl
drop-none [] (suc k) h = refl
drop-none (x ∷ xs) zero h = cc
drop-none (x ∷ xs) (suc k) h = drop-none xs k h

drop-some : {X : Type 0} (xs : List X) (k : ℕ) (x : X) → slice_get xs k ≡ Some x → (rest : List X) × (drop k xs ≡ x ∷ rest)
drop-some [] k x h = cc
drop-some (y ∷ xs) zero x h = let same : y ≡ x = cc in (xs, ap (λ z. z ∷ xs) same)
drop-some (y ∷ xs) (suc k) x h = drop-some xs k x h

nth_id-front : (ps : List (ℕ × InstrData)) (k j id : ℕ) → nth_id (take k ps) j ≡ Some id → (nth_id ps j ≡ Some id) × (j < k)
nth_id-front [] zero j id h = cc
nth_id-front [] (suc k) j id h = cc
nth_id-front (p ∷ ps) zero j id h = cc
nth_id-front (p ∷ ps) (suc k) zero id h = (h, omega arith)
nth_id-front (p ∷ ps) (suc k) (suc j) id h = let (at, less) = nth_id-front ps k j id h in (at, omega arith)

-- what stands behind a place doesn't stand in front of it
front-lacks : (ps : List (ℕ × InstrData)) (k id : ℕ) → HasDistinctIds ps → nth_id ps (k + 1) ≡ Some id → list_any (λ (p : ℕ × InstrData). p.0 == id) (take k ps) ≡ false
front-lacks ps k id once there = by (list_any (λ (p : ℕ × InstrData). p.0 == id) (take k ps)) refl
  where
    by : (b : Bool) → list_any (λ (p : ℕ × InstrData). p.0 == id) (take k ps) ≡ b → list_any (λ (p : ℕ × InstrData). p.0 == id) (take k ps) ≡ false
    by false e = e
    by true e =
        let (at, less) = nth_id-front ps k (place_of id (take k ps)) id (nth_id-place_of id (take k ps) e) in
        absurd (omega (arith, once.once (place_of id (take k ps)) (k + 1) id at there))

named-behind : (ps : List (ℕ × InstrData)) (k : ℕ) → IsNamed (option_map id_of (nth_id ps (k + 1))) (drop (k + 1) ps)
named-behind ps k = by (slice_get ps (k + 1)) refl
  where
    by : (o : Option (ℕ × InstrData)) → slice_get ps (k + 1) ≡ o → IsNamed (option_map id_of (option_map (λ (p : ℕ × InstrData). p.0) o)) (drop (k + 1) ps)
    by None e = drop-none ps (k + 1) e
    by (Some p) e = let (rest, is) = drop-some ps (k + 1) p e in (p.1, rest, is)

apart-behind : (ps : List (ℕ × InstrData)) (k n : ℕ) → HasDistinctIds ps → ((j id : ℕ) → nth_id ps j ≡ Some id → id < n) → IsApart (option_map id_of (nth_id ps (k + 1))) (take k ps) n
apart-behind ps k n once given = by (nth_id ps (k + 1)) refl
  where
    by : (o : Option ℕ) → nth_id ps (k + 1) ≡ o → IsApart (option_map id_of o) (take k ps) n
    by None e = tt
    by (Some id) e = (front-lacks ps k id once e, given (k + 1) id e)

-- the blocks after the root is replaced
pub blocks-replaced : (f : FunctionData) (id : ℕ) (made : List InstrData) → AreOwnIds f.blocks f.next_id → IsLive f id → (root_replaced id made f).blocks ≡ blocks_with f id made
blocks-replaced f id made own live =
    let home = home_of f id in
    let body = get_or f.blocks home empty_block in
    let k = place_in_block f id in
    let within = home-within f id live in
    let once = HasDistinctIds-in f.blocks f.next_id home within own in
    let given = HasGivenIds-in f.blocks f.next_id home own in
    let left : BlockData = record body { instrs = remove body.instrs k } in
    let last : BlockData = block_with body k (with_ids f.next_id made) in
    let there : block_at (without_instr f id) home ≡ record body { instrs = take k body.instrs ++ drop (k + 1) body.instrs } =
    get_or-set_same f.blocks home left empty_block within ∙ ap (λ (ps : List (ℕ × InstrData)). record body { instrs = ps }) (remove-parts body.instrs k) in
    let within_then : home < length (without_instr f id).blocks = rw (length-set f.blocks home left) within in
    created made (next_to f id) (take k body.instrs) (drop (k + 1) body.instrs) home body (without_instr f id) within_then there (named-behind body.instrs k) (apart-behind body.instrs k f.next_id once given.given)
    ∙ set-set f.blocks home left last
