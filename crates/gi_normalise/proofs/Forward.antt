-- Searching forwards.
use Rattle.std.proofs.Common.{◌≡◌, ℕ, zero, suc, ◌+◌, ◌-◌, ◌<◌, ◌≤◌, cond, List, [], ◌∷◌, ◌++◌, Option, Some, None, length, drop, get_or, refl, sym, ap, ap₂, ◌∙◌, arith}
use Rattle.std.specs.Prelude.{find, is_some, map, option_map}
use Rattle.std.specs.Option.{option_and_then, option_map_or, option_or}
use Rattle.gi_mir.specs.Data.{InstrData, BlockData, FunctionData}
use Rattle.gi_mir.specs.Edit.{all_instrs, block_at, empty_block, id_after, id_at, ids_of, place_in_block}
use Rattle.gi_mir.specs.Ids.{AreOwnIds}
use Rattle.gi_mir.specs.Places.{nth_id}
use Rattle.gi_mir.specs.declared.block.InstrId.{InstrId}
use Rattle.gi_normalise.specs.Layout.{first_in, first_place}
use Rattle.gi_normalise.specs.NormalForms.{Row, first_fit, fits, next_by}
use Rattle.gi_normalise.proofs.Standing.{StandsAt, stands-at}

abbrev ids : List (ℕ × InstrData) → List ℕ
ids instrs = map (λ (p : ℕ × InstrData). p.0) instrs

-- ---- the first of a list

first-found : (rows : List Row) (f : FunctionData) (xs : List ℕ) → option_and_then (first_fit rows f) (find (fits rows f) xs) ≡ first_in rows f xs
first-found rows f [] = refl
first-found rows f (x ∷ xs) = by (first_fit rows f x) refl (first-found rows f xs)
  where
    by : (o : Option FunctionData) → first_fit rows f x ≡ o → option_and_then (first_fit rows f) (find (fits rows f) xs) ≡ first_in rows f xs
        → option_and_then (first_fit rows f) (cond (is_some o) (Some x) (find (fits rows f) xs)) ≡ option_or o (first_in rows f xs)
    by None e more = more
    by (Some g) e more = e

first-append : (rows : List Row) (f : FunctionData) (xs ys : List ℕ) → first_in rows f (xs ++ ys) ≡ option_or (first_in rows f xs) (first_in rows f ys)
first-append rows f [] ys = refl
first-append rows f (x ∷ xs) ys = by (first_fit rows f x) (first-append rows f xs ys)
  where
    by : (o : Option FunctionData) → first_in rows f (xs ++ ys) ≡ option_or (first_in rows f xs) (first_in rows f ys) → option_or o (first_in rows f (xs ++ ys)) ≡ option_or (option_or o (first_in rows f xs)) (first_in rows f ys)
    by None more = more
    by (Some g) more = refl

ids-append : (xs ys : List (ℕ × InstrData)) → ids (xs ++ ys) ≡ ids xs ++ ids ys
ids-append [] ys = refl
ids-append (x ∷ xs) ys = ap (λ (zs : List ℕ). x.0 ∷ zs) (ids-append xs ys)

pub next-first : (rows : List Row) (f : FunctionData) → next_by first_place rows f ≡ first_in rows f (ids (all_instrs (drop 0 f.blocks)))
next-first rows f = first-found rows f (ids (all_instrs f.blocks))

-- ---- in a block

-- an instruction of a list, or none at its end, in front of which no row fits
pub record IsFrom (rows : List Row) (f : FunctionData) (instrs : List (ℕ × InstrData)) (at : Option InstrId) : Type 0 where
  pub place : ℕ
  pub within : place ≤ length instrs
  pub named : option_map (λ (id : InstrId). id.0) at ≡ nth_id instrs place
  pub first : first_in rows f (ids instrs) ≡ first_in rows f (ids (drop place instrs))

pub from-start : (rows : List Row) (f : FunctionData) (instrs : List (ℕ × InstrData)) (at : Option InstrId) → option_map (λ (id : InstrId). id.0) at ≡ nth_id instrs 0 → IsFrom rows f instrs at
from-start rows f instrs at named = record { place = 0; within = omega arith; named = named; first = refl }

drop-there : (instrs : List (ℕ × InstrData)) (k id : ℕ) → nth_id instrs k ≡ Some id → (suc k ≤ length instrs) × (ids (drop k instrs) ≡ id ∷ ids (drop (suc k) instrs))
drop-there [] k id h = cc
drop-there (p ∷ ps) zero id h = let same : p.0 ≡ id = cc in (omega arith, ap (λ (n : ℕ). n ∷ ids ps) same)
drop-there (p ∷ ps) (suc k) id h = let (within, more) = drop-there ps k id h in (omega (arith, within), more)

drop-none : (instrs : List (ℕ × InstrData)) (k : ℕ) → nth_id instrs k ≡ None → ids (drop k instrs) ≡ []
drop-none [] zero h = refl
drop-none [] (suc k) h = refl
drop-none (p ∷ ps) zero h = cc
drop-none (p ∷ ps) (suc k) h = drop-none ps k h

-- the instruction to be tried
pub record IsNow (rows : List Row) (f : FunctionData) (b : ℕ) (id : InstrId) : Type 0 where
  pub place : ℕ
  pub stands : StandsAt f b place id.0
  pub within : suc place ≤ length (block_at f b).instrs
  pub first : first_in rows f (ids_of (block_at f b)) ≡ option_or (first_fit rows f id.0) (first_in rows f (ids (drop (suc place) (block_at f b).instrs)))

pub is-now : (rows : List Row) (f : FunctionData) (b : ℕ) (at : Option InstrId) (id : InstrId) → AreOwnIds f.blocks f.next_id → IsFrom rows f (block_at f b).instrs at → at ≡ Some id → IsNow rows f b id
is-now rows f b at id own from is =
    let named : nth_id (block_at f b).instrs from.place ≡ Some id.0 = sym from.named ∙ ap (option_map (λ (i : InstrId). i.0)) is in
    let (within, more) = drop-there (block_at f b).instrs from.place id.0 named in
    record {
      place = from.place;
      stands = stands-at f b from.place id.0 own named;
      within = within;
      first = from.first ∙ ap (λ (xs : List ℕ). first_in rows f xs) more;
    }

pub now-fits : (rows : List Row) (f : FunctionData) (b : ℕ) (id : InstrId) (next : FunctionData) → IsNow rows f b id → first_fit rows f id.0 ≡ Some next → first_in rows f (ids_of (block_at f b)) ≡ Some next
now-fits rows f b id next now step = now.first ∙ ap (λ (o : Option FunctionData). option_or o (first_in rows f (ids (drop (suc now.place) (block_at f b).instrs)))) step

after-now : (rows : List Row) (f : FunctionData) (b : ℕ) (id : InstrId) (now : IsNow rows f b id) → id_after f id.0 ≡ nth_id (block_at f b).instrs (suc now.place)
after-now rows f b id now =
    let one : place_in_block f id.0 + 1 ≡ suc now.place = omega (arith, now.stands.place) in
    ap₂ (λ (c k : ℕ). id_at (get_or f.blocks c empty_block) k) now.stands.home one

pub from-next : (rows : List Row) (f : FunctionData) (b : ℕ) (id : InstrId) (next : Option InstrId) → IsNow rows f b id → first_fit rows f id.0 ≡ None → option_map (λ (i : InstrId). i.0) next ≡ id_after f id.0 → IsFrom rows f (block_at f b).instrs next
from-next rows f b id next now none is = record {
  place = suc now.place;
  within = now.within;
  named = is ∙ after-now rows f b id now;
  first = now.first ∙ ap (λ (o : Option FunctionData). option_or o (first_in rows f (ids (drop (suc now.place) (block_at f b).instrs)))) none;
}

abbrev count_from : FunctionData → ℕ → Option InstrId → ℕ
count_from f b at = option_map_or (λ (id : InstrId). length (block_at f b).instrs - place_in_block f id.0) at 0

pub fewer-from : (rows : List Row) (f : FunctionData) (b : ℕ) (id : InstrId) (next : Option InstrId) → AreOwnIds f.blocks f.next_id → IsNow rows f b id → option_map (λ (i : InstrId). i.0) next ≡ id_after f id.0
    → count_from f b next < length (block_at f b).instrs - place_in_block f id.0
fewer-from rows f b id None own now is = omega (arith, now.within, now.stands.place)
fewer-from rows f b id (Some n) own now is =
    let stands = stands-at f b (suc now.place) n.0 own (sym (is ∙ after-now rows f b id now)) in
    omega (arith, now.within, now.stands.place, stands.place)

pub none-from : (rows : List Row) (f : FunctionData) (instrs : List (ℕ × InstrData)) (at : Option InstrId) → IsFrom rows f instrs at → at ≡ None → first_in rows f (ids instrs) ≡ None
none-from rows f instrs at from is =
    from.first ∙ ap (λ (xs : List ℕ). first_in rows f xs) (drop-none instrs from.place (sym from.named ∙ ap (option_map (λ (i : InstrId). i.0)) is))

-- ---- over blocks

drop-block : (blocks : List BlockData) (b : ℕ) → b < length blocks → all_instrs (drop b blocks) ≡ (get_or blocks b empty_block).instrs ++ all_instrs (drop (suc b) blocks)
drop-block [] b within = absurd (omega arith)
drop-block (c ∷ cs) zero within = refl
drop-block (c ∷ cs) (suc b) within = drop-block cs b (omega (arith, within))

block-first : (rows : List Row) (f : FunctionData) (b : ℕ) → b < length f.blocks → first_in rows f (ids (all_instrs (drop b f.blocks))) ≡ option_or (first_in rows f (ids_of (block_at f b))) (first_in rows f (ids (all_instrs (drop (suc b) f.blocks))))
block-first rows f b within =
    ap (λ (ps : List (ℕ × InstrData)). first_in rows f (ids ps)) (drop-block f.blocks b within)
    ∙ ap (λ (xs : List ℕ). first_in rows f xs) (ids-append (block_at f b).instrs (all_instrs (drop (suc b) f.blocks)))
    ∙ first-append rows f (ids_of (block_at f b)) (ids (all_instrs (drop (suc b) f.blocks)))

pub block-fits : (rows : List Row) (f : FunctionData) (b : ℕ) (next : FunctionData) → b < length f.blocks → first_in rows f (ids_of (block_at f b)) ≡ Some next → first_in rows f (ids (all_instrs (drop b f.blocks))) ≡ Some next
block-fits rows f b next within is = block-first rows f b within ∙ ap (λ (o : Option FunctionData). option_or o (first_in rows f (ids (all_instrs (drop (suc b) f.blocks))))) is

pub block-passed : (rows : List Row) (f : FunctionData) (b : ℕ) → b < length f.blocks → first_in rows f (ids_of (block_at f b)) ≡ None → first_in rows f (ids (all_instrs (drop b f.blocks))) ≡ first_in rows f (ids (all_instrs (drop (b + 1) f.blocks)))
block-passed rows f b within is =
    let one : b + 1 ≡ suc b = omega arith in
    rw one (block-first rows f b within ∙ ap (λ (o : Option FunctionData). option_or o (first_in rows f (ids (all_instrs (drop (suc b) f.blocks))))) is)

pub no-block : (rows : List Row) (f : FunctionData) (b : ℕ) → length f.blocks ≤ b → first_in rows f (ids (all_instrs (drop b f.blocks))) ≡ None
no-block rows f b past = ap (λ (bs : List BlockData). first_in rows f (ids (all_instrs bs))) (all-dropped f.blocks b past)
  where
    all-dropped : (bs : List BlockData) (k : ℕ) → length bs ≤ k → drop k bs ≡ []
    all-dropped [] zero h = refl
    all-dropped [] (suc k) h = refl
    all-dropped (c ∷ cs) zero h = absurd (omega arith)
    all-dropped (c ∷ cs) (suc k) h = all-dropped cs k (omega (arith, h))
