-- The states that runs of a function come to: those in which a block is entered, and those between the instructions
-- of a block. What a rewriting owes, it owes in these states alone.
use Rattle.std.specs.Prelude.{◌≡◌, ℕ, zero, suc, ◌+◌, true, List, Option, Some, None, slice_get}
use Rattle.gi_mir.specs.Data.{InstrData, BlockData}
use Rattle.gi_meaning.specs.State.{World, State, start}
use Rattle.gi_meaning.specs.Runs.{Setting, Progress, On, Left, Over, Executes, phis_of, after_phis, joined, is_among}

-- a run of a block that came so far goes on at the entry of that block in that state
abbrev pub GoesTo : (b : ℕ) → (successors : List ℕ) → Progress → (next : ℕ) → State → Type 0
GoesTo b successors (On state) next state' = (is_among (b + 1) successors ≡ true) × (next ≡ b + 1) × (state' ≡ state)
GoesTo b successors (Left c state) next state' = (next ≡ c) × (state' ≡ state)
GoesTo b successors (Over outcome) next state' = ⊥

-- from a state at the entry of a block, from another or at the start, its phis give the state before its other instructions
pub record AfterPhis (blocks : List BlockData) (from : Option ℕ) (b : ℕ) (entered : State) (block : BlockData) (middle : State) : Type 0 where
  pub here : slice_get blocks b ≡ Some block
  pub phis : joined entered from (phis_of block.instrs) ≡ Some middle

-- from a state at the entry of a block a run comes to the entry of the next one
pub record Passes (s : Setting) (w : World) (blocks : List BlockData) (from : Option ℕ) (b : ℕ) (entered : State) (next : ℕ) (state : State) : Type 0 where
  pub block : BlockData
  pub middle : State
  pub joins : AfterPhis blocks from b entered block middle
  pub progress : Progress
  pub body : Executes s w (after_phis block.instrs) middle progress
  pub goes : GoesTo b block.successors progress next state

-- with so many block entries before it, a run enters this block, from that one, in this state
abbrev pub Arrives : Setting → World → List BlockData → ℕ → (from : Option ℕ) → (b : ℕ) → State → Type 0
Arrives s w blocks zero from b state = (from ≡ None) × (b ≡ 0) × (state ≡ start w)
Arrives s w blocks (suc n) from b state =
    (before : Option ℕ) × (a : ℕ) × (entered : State)
    × Arrives s w blocks n before a entered × Passes s w blocks before a entered b state × (from ≡ Some a)

-- a run enters this block and its phis give this state
pub record IsEntered (s : Setting) (w : World) (blocks : List BlockData) (b : ℕ) (block : BlockData) (middle : State) : Type 0 where
  pub entries : ℕ
  pub from : Option ℕ
  pub entered : State
  pub arrives : Arrives s w blocks entries from b entered
  pub joins : AfterPhis blocks from b entered block middle

-- a run has come so far behind the phis of this block and these instructions
pub record Reaches (s : Setting) (w : World) (blocks : List BlockData) (b : ℕ) (before : List (ℕ × InstrData)) (progress : Progress) : Type 0 where
  pub block : BlockData
  pub middle : State
  pub enters : IsEntered s w blocks b block middle
  pub ran : Executes s w before middle progress

-- a run goes on there in this state
abbrev pub IsReached : (s : Setting) → (w : World) → (blocks : List BlockData) → (b : ℕ) → (before : List (ℕ × InstrData)) → State → Type 0
IsReached s w blocks b before state = Reaches s w blocks b before (On state)

-- the old state is reached there, and the new one is related to it
pub record WhereReached (s : Setting) (w : World) (blocks : List BlockData) (b : ℕ) (before : List (ℕ × InstrData)) (related : State → State → Type 0) (old new : State) : Type 0 where
  pub reached : IsReached s w blocks b before old
  pub relates : related old new
