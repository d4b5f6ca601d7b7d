-- Where an instruction stands, and what is next to it.
use Rattle.std.proofs.Common.{◌≡◌, ℕ, zero, suc, ◌-◌, ◌≤◌, ◌==◌, false, cond, List, [], ◌∷◌, Option, Some, None, length, get_or, refl, sym, ap, ap₂, ◌∙◌, arith}
use Rattle.std.specs.Prelude.{slice_get, option_map}
use Rattle.std.proofs.lemmas.Bool.Decides.{nat_tests}
use Rattle.gi_mir.specs.Data.{InstrData, FunctionData}
use Rattle.gi_mir.specs.Edit.{IsLive, block_at, empty_block, home_of, id_at, id_before, instr_of, place_in_block}
use Rattle.gi_mir.specs.Ids.{AreOwnIds}
use Rattle.gi_mir.specs.Places.{id_in, nth_id}
use Rattle.gi_mir.proofs.Located.{HasDistinctIds-in, id_in-live, id_in-once, id_in-within, is_live-id_in}
use Rattle.gi_normalise.specs.Gaps.{id_ahead}

-- an id at a place of a block: the instruction is live, and stands there alone
pub record StandsAt (f : FunctionData) (b k id : ℕ) : Type 0 where
  pub live : IsLive f id
  pub home : home_of f id ≡ b
  pub place : place_in_block f id ≡ k

pub stands-at : (f : FunctionData) (b k id : ℕ) → AreOwnIds f.blocks f.next_id → nth_id (block_at f b).instrs k ≡ Some id → StandsAt f b k id
stands-at f b k id own here =
    let live = is_live-id_in id f.blocks b k here in
    let there : id_in f.blocks (home_of f id) (place_in_block f id) ≡ Some id = id_in-live f id live in
    let home : home_of f id ≡ b = id_in-once id f.blocks f.next_id (home_of f id) b (place_in_block f id) k own there here in
    let there_too : id_in f.blocks b (place_in_block f id) ≡ Some id = ap (λ (c : ℕ). id_in f.blocks c (place_in_block f id)) (sym home) ∙ there in
    record {
      live = live;
      home = home;
      place = (HasDistinctIds-in f.blocks f.next_id b (id_in-within id f.blocks b k here) own).once (place_in_block f id) k id there_too here;
    }

pub instr-at : (f : FunctionData) (b k id : ℕ) → StandsAt f b k id → instr_of f id ≡ option_map (λ (p : ℕ × InstrData). p.1) (slice_get (block_at f b).instrs k)
instr-at f b k id stands = ap₂ (λ (c j : ℕ). option_map (λ (p : ℕ × InstrData). p.1) (slice_get (get_or f.blocks c empty_block).instrs j)) stands.home stands.place

pub before-at : (f : FunctionData) (b k id : ℕ) → StandsAt f b k id → id_before f id ≡ id_ahead (block_at f b).instrs k
before-at f b k id stands = ap₂ (λ (c j : ℕ). cond (j == 0) None (id_at (get_or f.blocks c empty_block) (j - 1))) stands.home stands.place ∙ by k
  where
    by : (j : ℕ) → cond (j == 0) None (id_at (get_or f.blocks b empty_block) (j - 1)) ≡ id_ahead (block_at f b).instrs j
    by zero = refl
    by (suc j) = let one : suc j - 1 ≡ j = omega arith in let some : (suc j == 0) ≡ false = grind (arith, nat_tests) in rw (some, one) refl

-- the end of a list is behind its last element
pub last-ahead : (instrs : List (ℕ × InstrData)) (k : ℕ) → k ≤ length instrs → nth_id instrs k ≡ None → nth_id instrs (length instrs - 1) ≡ id_ahead instrs k
last-ahead [] zero within none = refl
last-ahead [] (suc k) within none = absurd (omega arith)
last-ahead (p ∷ ps) zero within none = cc
last-ahead (p ∷ ps) (suc k) within none =
    let end : length (p ∷ ps) - 1 ≡ k = omega (arith, ends ps k none, within) in ap (λ (n : ℕ). nth_id (p ∷ ps) n) end
  where
    ends : (ps : List (ℕ × InstrData)) (k : ℕ) → nth_id ps k ≡ None → length ps ≤ k
    ends [] k none = omega arith
    ends (p ∷ ps) zero none = cc
    ends (p ∷ ps) (suc k) none = omega (arith, ends ps k none)

-- what stands before a place that has nothing before it
pub none-ahead : (instrs : List (ℕ × InstrData)) (k : ℕ) → k ≤ length instrs → id_ahead instrs k ≡ None → k ≡ 0
none-ahead instrs zero within none = refl
none-ahead [] (suc k) within none = absurd (omega arith)
none-ahead (p ∷ ps) (suc zero) within none = cc
none-ahead (p ∷ ps) (suc (suc k)) within none = absurd (omega (arith, none-ahead ps (suc k) (omega (arith, within)) none))

pub entry-at : (instrs : List (ℕ × InstrData)) (k id : ℕ) → nth_id instrs k ≡ Some id → (p : ℕ × InstrData) × (slice_get instrs k ≡ Some p) × (p.0 ≡ id)
entry-at instrs k id h = by (slice_get instrs k) refl h
  where
    by : (o : Option (ℕ × InstrData)) → slice_get instrs k ≡ o → option_map (λ (p : ℕ × InstrData). p.0) o ≡ Some id → (p : ℕ × InstrData) × (slice_get instrs k ≡ Some p) × (p.0 ≡ id)
    by None e h = cc
    by (Some p) e h = (p, e, cc)

-- something stands before a place: it isn't the first
pub some-ahead : (instrs : List (ℕ × InstrData)) (k id : ℕ) → id_ahead instrs k ≡ Some id → (j : ℕ) × (k ≡ suc j) × (nth_id instrs j ≡ Some id)
some-ahead instrs zero id h = cc
some-ahead instrs (suc j) id h = (j, refl, h)
