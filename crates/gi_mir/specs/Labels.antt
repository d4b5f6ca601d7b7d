-- Runs of neighbours in a block, and the labels that they share.
use Rattle.std.specs.Prelude.{◌≡◌, ℕ, ◌+◌, ◌<◌, ◌≤◌, ◌^◌, List, Option, Some, None, slice_get}
use Rattle.std.specs.Option.{option_map_or}
use Rattle.gi_mir.specs.Data.{BlockData}
use Rattle.gi_mir.specs.Edit.{changed_at}
use Rattle.gi_mir.specs.Places.{id_in}
use Rattle.gi_mir.specs.declared.block.InstrId.{InstrId}
use Rattle.gi_mir.specs.declared.labels.Run.{Run}
use Rattle.gi_mir.specs.declared.labels.Span.{Span}
use Rattle.gi_mir.specs.declared.place.Place.{Place}

-- the label of the instruction that is named, or this one where none is
abbrev pub label_or : List Place → Option InstrId → ℕ → ℕ
label_or places None label = label
label_or places (Some id) label = option_map_or (λ p. p.at) (slice_get places id.0) label

-- the places with another label for an instruction
abbrev pub with_label : List Place → ℕ → ℕ → List Place
with_label places id label = changed_at (λ p. record p { at = label }) id places

-- the first and the last of a run are instructions of one block, and the run has those from the first to the last
pub record IsRun (blocks : List BlockData) (run : Run) : Type 0 where
  pub block : ℕ
  pub from : ℕ
  pub to : ℕ
  pub first : id_in blocks block from ≡ Some run.first.0
  pub last : id_in blocks block to ≡ Some run.last.0
  pub size : to + 1 ≡ from + run.count

-- the instructions before a run have labels below this one
pub record BeginsAt (places : List Place) (blocks : List BlockData) (low : ℕ) (run : Run) : Type 0 where
  pub is_run : IsRun blocks run
  pub before : (k id : ℕ) (p : Place) → k < is_run.from → id_in blocks is_run.block k ≡ Some id → slice_get places id ≡ Some p → p.at < low

-- the instructions around a run have labels outside of a span
pub record FillsSpan (places : List Place) (blocks : List BlockData) (span : Span) (run : Run) : Type 0 where
  pub is_run : IsRun blocks run
  pub before : (k id : ℕ) (p : Place) → k < is_run.from → id_in blocks is_run.block k ≡ Some id → slice_get places id ≡ Some p → p.at < span.low
  pub behind : (k id : ℕ) (p : Place) → is_run.to < k → id_in blocks is_run.block k ≡ Some id → slice_get places id ≡ Some p → span.end ≤ p.at

-- a span has room for a run between its first label and its end, and lies below the end of all labels
pub record HasRoom (span : Span) (run : Run) : Type 0 where
  pub room : span.low + run.count < span.end
  pub within : span.end ≤ 2 ^ 62
