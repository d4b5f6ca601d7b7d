-- What is asked of a table of rows, and what is left where it was applied as often as it fits.
use Rattle.std.specs.Prelude.{◌≡◌, ℕ, ◌+◌, ◌<◌, ◌≤◌, All, Bool, IsTrue, List, ◌++◌, Some, take, drop, slice_set}
use Rattle.gi_mir.specs.Data.{InstrData, FunctionData}
use Rattle.gi_mir.specs.Edit.{IsLive, home_block, home_of, place_in_block}
use Rattle.gi_observe.specs.Replay.{IsReplay}
use Rattle.gi_observe.specs.declared.change.Change.{Change}
use Rattle.gi_observe.specs.declared.pass.Pass.{Pass}
use Rattle.gi_normalise.specs.NormalForms.{Choice, Comes, Row, first_fit}

-- ══ A table ══

-- A table is sound where each step by its first fitting row, from a function that is fit, gives a fit function that refines
-- the one before, and lowers a weight by more than the registers that it makes.
pub record IsSound (rows : List Row) (IsFit : FunctionData → Type 0) (Refines : FunctionData → FunctionData → Type 0) (weight : FunctionData → ℕ) : Type 0 where
  pub fit : (f g : FunctionData) (id : ℕ) → IsFit f → IsLive f id → first_fit rows f id ≡ Some g → IsFit g
  pub refines : (f g : FunctionData) (id : ℕ) → IsFit f → IsLive f id → first_fit rows f id ≡ Some g → Refines f g
  pub registers : (f g : FunctionData) (id : ℕ) → IsFit f → IsLive f id → first_fit rows f id ≡ Some g → f.next_reg ≤ g.next_reg
  pub falls : (f g : FunctionData) (id : ℕ) → IsFit f → IsLive f id → first_fit rows f id ≡ Some g → weight g + g.next_reg < weight f + f.next_reg
  pub itself : (f : FunctionData) → Refines f f
  pub onwards : (f g h : FunctionData) → Refines f g → Refines g h → Refines f h

-- one instruction gave way to others in its place, and nothing else of the blocks is changed
pub record IsInPlace (f : FunctionData) (id : ℕ) (g : FunctionData) : Type 0 where
  pub instrs : List (ℕ × InstrData)
  pub blocks : g.blocks ≡ slice_set f.blocks (home_of f id) (record (home_block f id) { instrs = take (place_in_block f id) (home_block f id).instrs ++ (instrs ++ drop (place_in_block f id + 1) (home_block f id).instrs) })

-- each rewriting changes a function in place
pub record IsLocal (rows : List Row) (IsFit : FunctionData → Type 0) : Type 0 where
  pub local : (f g : FunctionData) (id : ℕ) → IsFit f → IsLive f id → first_fit rows f id ≡ Some g → IsInPlace f id g

-- ══ What is left ══

-- f was rewritten until it came to g, with at least as many trials as rewritings
pub record IsNormalised (choose : Choice) (rows : List Row) (IsFit : FunctionData → Type 0) (Refines : FunctionData → FunctionData → Type 0) (weight : FunctionData → ℕ) (trials : ℕ) (f g : FunctionData) : Type 0 where
  pub count : ℕ
  pub comes : Comes choose rows count f g
  pub within : count ≤ weight f
  pub counted : count ≤ trials
  pub fit : IsFit g
  pub refines : Refines f g
  pub registers : g.next_reg + weight g ≤ f.next_reg + weight f

-- ══ What was told ══

-- a change of the function of this name, in this pass
pub record IsChangeOf (name : ℕ) (pass : Pass) (change : Change) : Type 0 where
  pub function : change.function ≡ name
  pub in_pass : change.pass ≡ pass

-- who tells what it was told, was told changes of f in this pass which give g, replayed on f
pub record TellsAll (pass : Pass) (tells : Bool) (before after : List Change) (f g : FunctionData) : Type 0 where
  pub changes : List Change
  pub own : All (IsChangeOf f.name pass) changes
  pub replay : IsReplay changes f g
  pub seen : IsTrue tells → after ≡ before ++ changes
