-- Gaps between instructions: behind them nothing is generic.
use Rattle.std.specs.Prelude.{◌≡◌, ℕ, zero, suc, ◌+◌, ◌<◌, ◌≤◌, false, List, Option, None, option_map, length, drop}
use Rattle.std.specs.List.{list_any}
use Rattle.gi_mir.specs.Data.{InstrData, FunctionData}
use Rattle.gi_mir.specs.Edit.{all_instrs, block_at}
use Rattle.gi_mir.specs.Places.{nth_id}
use Rattle.gi_mir.specs.declared.block.InstrId.{InstrId}
use Rattle.gi_normalise.specs.Layout.{is_generic}
use Rattle.gi_normalise.specs.declared.backwards.Gap.{Gap}

-- the instruction that stands before a place of a list
abbrev pub id_ahead : List (ℕ × InstrData) → (place : ℕ) → Option ℕ
id_ahead instrs zero = None
id_ahead instrs (suc k) = nth_id instrs k

-- there is a place of the list with this instruction behind it, or none at the end, and nothing generic
pub record IsClearFrom (instrs : List (ℕ × InstrData)) (behind : Option InstrId) : Type 0 where
  pub place : ℕ
  pub within : place ≤ length instrs
  pub named : option_map (λ id. id.0) behind ≡ nth_id instrs place
  pub clear : list_any is_generic (drop place instrs) ≡ false

-- there is a place of the list with this instruction before it, or none at the start, and nothing generic behind it
pub record IsClearBehind (instrs : List (ℕ × InstrData)) (ahead : Option InstrId) : Type 0 where
  pub place : ℕ
  pub within : place ≤ length instrs
  pub named : option_map (λ id. id.0) ahead ≡ id_ahead instrs place
  pub clear : list_any is_generic (drop place instrs) ≡ false

-- a gap of a function, with nothing generic behind it
pub record IsClear (f : FunctionData) (gap : Gap) : Type 0 where
  pub block : gap.block < length f.blocks
  pub here : IsClearFrom (block_at f gap.block).instrs gap.behind
  pub later : list_any is_generic (all_instrs (drop (gap.block + 1) f.blocks)) ≡ false
