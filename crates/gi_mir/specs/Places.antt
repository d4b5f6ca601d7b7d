-- Where each instruction stands in layout.
use Rattle.std.specs.Prelude.{◌≡◌, ℕ, ◌<◌, ◌==◌, ◌&&◌, ◌||◌, Bool, nat_lt, List, Option, Some, option_map, insert, remove, slice_get, slice_index_or, slice_set}
use Rattle.gi_mir.specs.Data.{InstrData, BlockData}
use Rattle.gi_mir.specs.Edit.{empty_block, block_changed_at}
use Rattle.gi_mir.specs.declared.place.Place.{Place}

abbrev pub place : ℕ → ℕ → Place
place block at = record { block = block; at = at }

-- the blocks' order first, and then the order in a block
abbrev pub comes_before : Place → Place → Bool
comes_before p q = nat_lt p.block q.block || (p.block == q.block && nat_lt p.at q.at)

-- the id of the instruction at a place of a list, and of a function
abbrev pub nth_id : List (ℕ × InstrData) → ℕ → Option ℕ
nth_id instrs k = option_map (λ p. p.0) (slice_get instrs k)

abbrev pub id_in : List BlockData → ℕ → ℕ → Option ℕ
id_in blocks block at = nth_id (slice_index_or blocks block empty_block).instrs at

-- the block at this place in layout, and edits of the instruction at a place
abbrev pub body_at : List BlockData → ℕ → BlockData
body_at blocks block = slice_index_or blocks block empty_block

abbrev pub with_inserted : List BlockData → Place → ℕ × InstrData → List BlockData
with_inserted blocks spot new =
    let b = body_at blocks spot.block in
    slice_set blocks spot.block (record b { instrs = insert b.instrs spot.at new })

abbrev pub with_removed : List BlockData → Place → List BlockData
with_removed blocks spot =
    let b = body_at blocks spot.block in slice_set blocks spot.block (record b { instrs = remove b.instrs spot.at })

abbrev pub with_changed_at : (InstrData → InstrData) → List BlockData → Place → List BlockData
with_changed_at edit blocks spot = slice_set blocks spot.block (block_changed_at edit spot.at (body_at blocks spot.block))

-- the ids of a list were given, and are distinct
pub record HasGivenIds (instrs : List (ℕ × InstrData)) (next_id : ℕ) : Type 0 where
  pub given : (k id : ℕ) → nth_id instrs k ≡ Some id → id < next_id

pub record HasDistinctIds (instrs : List (ℕ × InstrData)) : Type 0 where
  pub once : (j k id : ℕ) → nth_id instrs j ≡ Some id → nth_id instrs k ≡ Some id → j ≡ k
