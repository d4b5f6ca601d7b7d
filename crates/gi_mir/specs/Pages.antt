-- Lists by the place on a page.
use Rattle.std.specs.Prelude.{◌≡◌, ◌≢◌, ℕ, List, [], slice_get}
use Rattle.std.specs.Option.{option_map_or}
use Rattle.gi_mir.specs.declared.block.InstrId.{InstrId}
use Rattle.gi_mir.specs.declared.page.Page.{Page}

-- the list at a place, and one without instructions where there is none
abbrev pub list_at : List (List InstrId) → ℕ → List InstrId
list_at lists at = option_map_or (λ ids. ids) (slice_get lists at) []

abbrev pub listed_at : Page → ℕ → List InstrId
listed_at page at = list_at page.lists.items at

-- pages that have the same lists
pub record AreAlike (old new : Page) : Type 0 where
  pub alike : (k : ℕ) → listed_at new k ≡ listed_at old k

-- a page that has the same lists but at one place
pub record IsPageWritten (old new : Page) (at : ℕ) (ids : List InstrId) : Type 0 where
  pub here : listed_at new at ≡ ids
  pub elsewhere : (k : ℕ) → k ≢ at → listed_at new k ≡ listed_at old k
