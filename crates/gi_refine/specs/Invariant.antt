-- What holds in every state that runs of a function reach.
use Rattle.std.specs.Prelude.{◌≡◌, ℕ, List, [], ◌∷◌, Option, Some, slice_get}
use Rattle.gi_mir.specs.Data.{InstrData, BlockData}
use Rattle.gi_meaning.specs.State.{World, State, start}
use Rattle.gi_meaning.specs.Runs.{Setting, Progress, On, Left, Over, Steps, phis_of, after_phis, joined}

-- the claim holds of the state in which a run goes on
abbrev pub GoesOnWith : (claim : State → Type 0) → Progress → Type 0
GoesOnWith claim (On state) = claim state
GoesOnWith claim (Left block state) = claim state
GoesOnWith claim (Over outcome) = Unit {0}

-- each instruction keeps the claim
abbrev pub AllKeep : Setting → World → (claim : State → Type 0) → List (ℕ × InstrData) → Type 0
AllKeep s w claim [] = Unit {0}
AllKeep s w claim (i ∷ is) = ((state : State) → claim state → (p : Progress) → Steps s w i.1 state p → GoesOnWith claim p) × AllKeep s w claim is

-- a block keeps it: its phis, and its other instructions
pub record BlockKeeps (s : Setting) (w : World) (claim : State → Type 0) (block : BlockData) : Type 0 where
  pub phis : (from : Option ℕ) (entered middle : State) → claim entered → joined entered from (phis_of block.instrs) ≡ Some middle → claim middle
  pub body : AllKeep s w claim (after_phis block.instrs)

-- it holds at the start, and each block keeps it
pub record IsInvariant (s : Setting) (w : World) (blocks : List BlockData) (claim : State → Type 0) : Type 0 where
  pub starts : claim (start w)
  pub keeps : (b : ℕ) (block : BlockData) → slice_get blocks b ≡ Some block → BlockKeeps s w claim block
