-- How a run of the new code is followed by the old: states that stand for each other, point by point.
-- What may differ is a relation of its own at each point, so it may vary from point to point.
use Rattle.std.specs.Prelude.{◌≡◌, ℕ, ◌+◌, true, List, Option, Some, None, ◌⊎◌, slice_get}
use Rattle.gi_mir.specs.Data.{InstrData, BlockData}
use Rattle.gi_meaning.specs.State.{World, State, Undefined}
use Rattle.gi_meaning.specs.Runs.{Setting, Progress, On, Left, Over, Executes, phis_of, after_phis, joined, is_among}

-- How far the old run has come stands for how far the new one has: in related states where both go on, in
-- related states where both left for one block, or with one outcome.
abbrev pub Stands : (after : State → State → Type 0) → (exit : ℕ → State → State → Type 0) → (old new : Progress) → Type 0
Stands after exit (On old) (On new) = after old new
Stands after exit (Left b old) (Left c new) = (b ≡ c) × exit c old new
Stands after exit (Over old) (Over new) = old ≡ new
Stands after exit _ _ = ⊥

-- What the new instructions do from a state, the old do from each state that stands for it, or they are undefined.
pub record IsFollowed (s s' : Setting) (w : World) (before after : State → State → Type 0) (exit : ℕ → State → State → Type 0) (old new : List (ℕ × InstrData)) : Type 0 where
  pub by : (state state' : State) → before state state' → (p' : Progress) → Executes s' w new state' p'
      → ((p : Progress) × Executes s w old state p × Stands after exit p p') ⊎ Executes s w old state (Over Undefined)

-- the states after the phis; where the old phis have no values, the old run is undefined
abbrev pub PhisStand : (middle : State → State → Type 0) → (old new : Option State) → Type 0
PhisStand middle None new = Unit {0}
PhisStand middle (Some old) None = ⊥
PhisStand middle (Some old) (Some new) = middle old new

-- A block follows another, from states that are related at its entry, by relations in its middle, at its end and at
-- its branches, to states that are related at the entry of the next block.
pub record IsBlockFollowed (s s' : Setting) (w : World) (entry : Option ℕ → ℕ → State → State → Type 0) (middle after : State → State → Type 0) (exit : ℕ → State → State → Type 0) (b : ℕ) (old new : BlockData) : Type 0 where
  pub successors : new.successors ≡ old.successors
  pub phis : (from : Option ℕ) (state state' : State) → entry from b state state'
      → PhisStand middle (joined state from (phis_of old.instrs)) (joined state' from (phis_of new.instrs))
  pub body : IsFollowed s s' w middle after exit (after_phis old.instrs) (after_phis new.instrs)
  pub falls : is_among (b + 1) old.successors ≡ true → (state state' : State) → after state state' → entry (Some b) (b + 1) state state'
  pub leaves : (c : ℕ) (state state' : State) → exit c state state' → entry (Some b) c state state'

-- A block runs from a state at its entry, by the block that was left: its phis give a state, from which its other
-- instructions run.
abbrev pub RunsFrom : Setting → World → BlockData → (middle : Option State) → Progress → Type 0
RunsFrom s w block None progress = progress ≡ Over Undefined
RunsFrom s w block (Some middle) progress = Executes s w (after_phis block.instrs) middle progress

abbrev pub RunsThrough : Setting → World → BlockData → (from : Option ℕ) → State → Progress → Type 0
RunsThrough s w block from state progress = RunsFrom s w block (joined state from (phis_of block.instrs)) progress

-- where the old function has a block, the new one has a block that it follows
abbrev pub PlaceFollowed : (s s' : Setting) (w : World) (entry : Option ℕ → ℕ → State → State → Type 0) (middle after : State → State → Type 0) (exit : ℕ → State → State → Type 0) (b : ℕ) → (old new : Option BlockData) → Type 0
PlaceFollowed s s' w entry middle after exit b None new = Unit {0}
PlaceFollowed s s' w entry middle after exit b (Some old) None = ⊥
PlaceFollowed s s' w entry middle after exit b (Some old) (Some new) = IsBlockFollowed s s' w entry middle after exit b old new

-- all blocks, each with its own relations; and related states agree in what is outside the registers
pub record AreFollowed (s s' : Setting) (w : World) (entry : Option ℕ → ℕ → State → State → Type 0) (middle after : ℕ → State → State → Type 0) (exit : ℕ → ℕ → State → State → Type 0) (old new : List BlockData) : Type 0 where
  pub places : (b : ℕ) → PlaceFollowed s s' w entry (middle b) (after b) (exit b) b (slice_get old b) (slice_get new b)
  pub memory : (from : Option ℕ) (b : ℕ) (state state' : State) → entry from b state state' → state'.memory ≡ state.memory
  pub taken : (from : Option ℕ) (b : ℕ) (state state' : State) → entry from b state state' → state'.taken ≡ state.taken
