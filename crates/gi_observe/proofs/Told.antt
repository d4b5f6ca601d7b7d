-- The instructions that use a register, one after another.
use Rattle.std.proofs.Common.{◌≡◌, ℕ, zero, suc, ◌+◌, ◌<◌, Bool, true, false, cond, List, [], ◌∷◌, ◌++◌, Some, ◌⊎◌, inl, inr, ⊎_elim, length, drop, take, get_or, refl, sym, ap, ap₂, ◌∙◌, append_assoc, arith}
use Rattle.std.specs.Prelude.{slice_get, option_map, map, filter}
use Rattle.gi_mir.specs.declared.block.InstrId.{InstrId}
use Rattle.gi_mir.specs.Data.{InstrData, BlockData, FunctionData}
use Rattle.gi_mir.specs.Edit.{IsLive, all_instrs, empty_block, home_of, instr_of, place_in_block, users_of, uses}
use Rattle.gi_mir.specs.Ids.{AreOwnIds}
use Rattle.gi_mir.specs.Places.{id_in}
use Rattle.gi_mir.proofs.Located.{HasDistinctIds-in, id_in-live, id_in-once, id_in-within, is_live-id_in}

-- what stands in a filtered list stood in the list, and passed
pub filter-from : {X : Type 0} (t : X → Bool) (xs : List X) (k : ℕ) (x : X) → slice_get (filter t xs) k ≡ Some x → (m : ℕ) × (slice_get xs m ≡ Some x) × (t x ≡ true)
filter-from t [] k x h = cc
filter-from t (y ∷ ys) k x h = by (t y) refl k h (λ j g. filter-from t ys j x g)
  where
    by : (b : Bool) → t y ≡ b → (k : ℕ) → slice_get (cond b (y ∷ filter t ys) (filter t ys)) k ≡ Some x
        → ((j : ℕ) → slice_get (filter t ys) j ≡ Some x → (m : ℕ) × (slice_get ys m ≡ Some x) × (t x ≡ true))
        → (m : ℕ) × (slice_get (y ∷ ys) m ≡ Some x) × (t x ≡ true)
    by true e zero h more = let same : y ≡ x = cc in (0, h, ap t (sym same) ∙ e)
    by true e (suc k) h more = let (m, at, is) = more k h in (suc m, at, is)
    by false e k h more = let (m, at, is) = more k h in (suc m, at, is)

in_parts : {X : Type 0} (xs ys : List X) (m : ℕ) (e : X) → slice_get (xs ++ ys) m ≡ Some e → ((k : ℕ) × (slice_get xs k ≡ Some e)) ⊎ ((k : ℕ) × (slice_get ys k ≡ Some e))
in_parts [] ys m e h = inr (m, h)
in_parts (x ∷ xs) ys zero e h = inl (0, h)
in_parts (x ∷ xs) ys (suc m) e h = ⊎_elim
    (λ (l : (k : ℕ) × (slice_get xs k ≡ Some e)). inl (suc l.0, l.1))
    (λ (r : (k : ℕ) × (slice_get ys k ≡ Some e)). inr r)
    (in_parts xs ys m e h)

-- an instruction of a function stands in a block
pub find_place : (blocks : List BlockData) (m : ℕ) (e : ℕ × InstrData) → slice_get (all_instrs blocks) m ≡ Some e → (c : ℕ) × (k : ℕ) × (slice_get (get_or blocks c empty_block).instrs k ≡ Some e)
find_place [] m e h = cc
find_place (b ∷ bs) m e h = by (in_parts b.instrs (all_instrs bs) m e h) (λ n g. find_place bs n e g)
  where
    by : ((k : ℕ) × (slice_get b.instrs k ≡ Some e)) ⊎ ((k : ℕ) × (slice_get (all_instrs bs) k ≡ Some e)) → ((n : ℕ) → slice_get (all_instrs bs) n ≡ Some e → (c : ℕ) × (k : ℕ) × (slice_get (get_or bs c empty_block).instrs k ≡ Some e))
        → (c : ℕ) × (k : ℕ) × (slice_get (get_or (b ∷ bs) c empty_block).instrs k ≡ Some e)
    by c more = ⊎_elim
        (λ (l : (k : ℕ) × (slice_get b.instrs k ≡ Some e)). (0, l.0, l.1))
        (λ (r : (k : ℕ) × (slice_get (all_instrs bs) k ≡ Some e)). let (c, k, at) = more r.0 r.1 in (suc c, k, at))
        c

-- an instruction of a function is live, and found by its id
pub record IsFound (f : FunctionData) (p : ℕ × InstrData) : Type 0 where
  pub live : IsLive f p.0
  pub instr : instr_of f p.0 ≡ Some p.1

pub IsFound-at : (f : FunctionData) (m : ℕ) (p : ℕ × InstrData) → AreOwnIds f.blocks f.next_id → slice_get (all_instrs f.blocks) m ≡ Some p → IsFound f p
IsFound-at f m p own h =
    let (c, k, at) = find_place f.blocks m p h in
    let here : id_in f.blocks c k ≡ Some p.0 = ap (option_map (λ (q : ℕ × InstrData). q.0)) at in
    let live = is_live-id_in p.0 f.blocks c k here in
    let there = id_in-live f p.0 live in
    let home : home_of f p.0 ≡ c = id_in-once p.0 f.blocks f.next_id (home_of f p.0) c (place_in_block f p.0) k own there here in
    let there_too : id_in f.blocks c (place_in_block f p.0) ≡ Some p.0 = ap (λ (b : ℕ). id_in f.blocks b (place_in_block f p.0)) (sym home) ∙ there in
    let place : place_in_block f p.0 ≡ k = (HasDistinctIds-in f.blocks f.next_id c (id_in-within p.0 f.blocks c k here) own).once (place_in_block f p.0) k p.0 there_too here in
    record {
      live = live;
      instr = ap₂ (λ (b j : ℕ). option_map (λ (q : ℕ × InstrData). q.1) (slice_get (get_or f.blocks b empty_block).instrs j)) home place ∙ ap (option_map (λ (q : ℕ × InstrData). q.1)) at;
    }

-- the k-th of these ids is that of the k-th entry
pub entry-of : (ids : List InstrId) (ps : List (ℕ × InstrData)) (k : ℕ) (d : InstrId) → map (λ (id : InstrId). id.0) ids ≡ map (λ (p : ℕ × InstrData). p.0) ps → k < length ids → (p : ℕ × InstrData) × (slice_get ps k ≡ Some p) × (p.0 ≡ (get_or ids k d).0)
entry-of [] ps k d e h = absurd (omega arith)
entry-of (x ∷ xs) [] k d e h = cc
entry-of (x ∷ xs) (p ∷ ps) zero d e h = (p, refl, cc)
entry-of (x ∷ xs) (p ∷ ps) (suc k) d e h = entry-of xs ps k d (cc) (omega arith)

-- one more of a list that is mapped
pub take-more-mapped : {X Y : Type 0} (g : X → Y) (xs : List X) (k : ℕ) (x : X) → slice_get xs k ≡ Some x → take (k + 1) (map g xs) ≡ take k (map g xs) ++ g x ∷ []
take-more-mapped g [] k x h = cc
take-more-mapped g (y ∷ ys) zero x h = let same : y ≡ x = cc in ap (λ z. g z ∷ []) same
take-more-mapped g (y ∷ ys) (suc k) x h =
    let one : suc k + 1 ≡ suc (k + 1) = omega arith in
    rw one (ap (λ zs. g y ∷ zs) (take-more-mapped g ys k x h))

-- one more change was told
pub told-more : {X : Type 0} (start before after xs : List X) (k : ℕ) (x : X) → after ≡ before ++ x ∷ [] → before ≡ start ++ take k xs → take (k + 1) xs ≡ take k xs ++ x ∷ [] → after ≡ start ++ take (k + 1) xs
told-more start before after xs k x one was more =
    one ∙ ap (λ ys. ys ++ x ∷ []) was ∙ append_assoc start (take k xs) (x ∷ []) ∙ ap (λ ys. start ++ ys) (sym more)

-- the next of these ids, and those behind it
pub next-of : (ps : List (ℕ × InstrData)) (k x : ℕ) (xs : List ℕ) → x ∷ xs ≡ drop k (map (λ (p : ℕ × InstrData). p.0) ps) → (p : ℕ × InstrData) × (slice_get ps k ≡ Some p) × (p.0 ≡ x) × (xs ≡ drop (suc k) (map (λ (q : ℕ × InstrData). q.0) ps))
next-of [] zero x xs e = cc
next-of [] (suc k) x xs e = cc
next-of (p ∷ ps) zero x xs e = (p, refl, cc, cc)
next-of (p ∷ ps) (suc k) x xs e = next-of ps k x xs e

-- the next instruction that uses a register
pub user-next : (f : FunctionData) (reg k x : ℕ) (xs : List ℕ) → AreOwnIds f.blocks f.next_id → x ∷ xs ≡ drop k (users_of f reg)
    → (p : ℕ × InstrData) × (slice_get (filter (uses reg) (all_instrs f.blocks)) k ≡ Some p) × (p.0 ≡ x) × (xs ≡ drop (suc k) (users_of f reg)) × IsFound f p
user-next f reg k x xs own e =
    let (p, at, is, rest) = next-of (filter (uses reg) (all_instrs f.blocks)) k x xs e in
    let (m, stands, passes) = filter-from (uses reg) (all_instrs f.blocks) k p at in
    (p, at, is, rest, IsFound-at f m p own stands)

-- nothing was told as yet
pub starts : {X : Type 0} (xs : List X) → xs ≡ xs ++ []
starts [] = refl
starts (x ∷ xs) = ap (λ ys. x ∷ ys) (starts xs)
