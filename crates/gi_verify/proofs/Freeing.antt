-- Where no definition of a register but its first stands.
use Rattle.std.proofs.Common.{◌≡◌, ℕ, ◌<◌, true, Some, option_map, inr, sym, ap, ◌∙◌, subst, arith, true≢false}
use Rattle.std.specs.Prelude.{slice_get}
use Rattle.gi_mir.specs.Data.{InstrData, FunctionData}
use Rattle.gi_mir.specs.Edit.{home_of, place_in_block}
use Rattle.gi_mir.specs.Ids.{AreOwnIds}
use Rattle.gi_mir.specs.Places.{body_at, id_in}
use Rattle.gi_mir.proofs.Located.{id_in-within, id_in-live, id_in-once, is_live-id_in, HasDistinctIds-in}
use Rattle.gi_verify.specs.Settled.{is_free_last, IsFree, IsAhead}
use Rattle.gi_verify.specs.declared.limits.Limit.{Limit}
use Rattle.gi_verify.specs.declared.limits.Limit.TheVariants.{UpTo, Everywhere}

-- ══ The front of a block ══

pub place_once : (f : FunctionData) → AreOwnIds f.blocks f.next_id → (id a j b k : ℕ) → id_in f.blocks a j ≡ Some id → id_in f.blocks b k ≡ Some id → (a ≡ b) × (j ≡ k)
place_once f own id a j b k first second =
    let same : a ≡ b = id_in-once id f.blocks f.next_id a b j k own first second in
    let moved : id_in f.blocks b j ≡ Some id = subst (λ n. id_in f.blocks n j ≡ Some id) same first in
    (same, (HasDistinctIds-in f.blocks f.next_id b (id_in-within id f.blocks b k second) own).once j k id moved second)

pub own_place : (f : FunctionData) → AreOwnIds f.blocks f.next_id → (id b k : ℕ) → id_in f.blocks b k ≡ Some id → (b ≡ home_of f id) × (k ≡ place_in_block f id)
own_place f own id b k here = place_once f own id b k (home_of f id) (place_in_block f id) here (id_in-live f id (is_live-id_in id f.blocks b k here))

-- each of the first instructions of a block stands in front of the first second definition
pub record IsOpen (f : FunctionData) (limit : Limit) (b k : ℕ) : Type 0 where
  pub by : (i : ℕ) (q : ℕ × InstrData) → slice_get (body_at f.blocks b).instrs i ≡ Some q → i < k → IsAhead f limit q.0

pub open_along : (f : FunctionData) (l : Limit) (b k : ℕ) → is_free_last l ≡ true → IsOpen f l b k
open_along f (UpTo again) b k h = absurd (true≢false (sym h))
open_along f Everywhere b k h = record { by = λ i q at less. tt }

pub open_before : (f : FunctionData) → AreOwnIds f.blocks f.next_id → (l : Limit) (b k id : ℕ) → id_in f.blocks b k ≡ Some id → IsFree f l b id → IsOpen f l b k
open_before f own Everywhere b k id here free = record { by = λ i q at less. tt }
open_before f own (UpTo again) b k id here free = record {
  by = λ i q at less.
      let one : (b ≡ home_of f q.0) × (i ≡ place_in_block f q.0) = own_place f own q.0 b i (ap (option_map (λ p. p.0)) at) in
      let other : (b ≡ home_of f id) × (k ≡ place_in_block f id) = own_place f own id b k here in
      inr (
        sym one.0 ∙ sym free.0,
        further i k (place_in_block f q.0) (place_in_block f id) (place_in_block f again.0) one.1 other.1 less (λ h. free.1 (inr (free.0 ∙ other.0, h))),
      );
}
  where
    further : (i k p q s : ℕ) → i ≡ p → k ≡ q → i < k → (s < q → ⊥) → p < s
    further i k p q s h g less other = grind (arith, h, g, less, other)
