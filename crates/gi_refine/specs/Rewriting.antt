-- A rewriting of any number of places: each block is cut into pieces that stay or are changed, and what is hidden may
-- differ from point to point.
use Rattle.std.specs.Prelude.{◌≡◌, ℕ, ◌+◌, Bool, true, false, ◌||◌, ◌==◌, List, [], ◌∷◌, ◌++◌, Option, Some, None, slice_get}
use Rattle.gi_mir.specs.Data.{InstrData, BlockData, FunctionData}
use Rattle.gi_mir.specs.declared.operand.Operand.{Operand}
use Rattle.gi_mir.specs.declared.operand.Operand.TheVariants as operand
use Rattle.gi_meaning.specs.State.{World, IsWorld, State, Place}
use Rattle.gi_meaning.specs.Meaning.{meaning_of}
use Rattle.gi_meaning.specs.Runs.{setting_of, written_places, places_of, phis_of, after_phis, joined, is_among}
use Rattle.gi_refine.specs.Agreement.{Agree, AgreeAt, all_shown}
use Rattle.gi_refine.specs.Kept.{IsKept, AreSeenAs, UsesHold}
use Rattle.gi_refine.specs.Reached.{Arrives, IsReached, WhereReached}
use Rattle.gi_refine.specs.Simulation.{IsFollowed, PhisStand}

-- ══ Pieces ══

pub data Piece : Type 0 where
  -- an instruction that stays, with its uses renamed
  Kept : (old new : ℕ × InstrData) → Piece
  -- instructions that others replace
  Changed : (old new : List (ℕ × InstrData)) → Piece

abbrev pub old_of : Piece → List (ℕ × InstrData)
old_of (Kept i j) = i ∷ []
old_of (Changed is js) = is

abbrev pub new_of : Piece → List (ℕ × InstrData)
new_of (Kept i j) = j ∷ []
new_of (Changed is js) = js

-- the old instructions of pieces, each of which comes with what is hidden after it, and the new ones
abbrev pub all_old : List (Piece × (Place → Bool)) → List (ℕ × InstrData)
all_old [] = []
all_old (p ∷ ps) = old_of p.0 ++ all_old ps

abbrev pub all_new : List (Piece × (Place → Bool)) → List (ℕ × InstrData)
all_new [] = []
all_new (p ∷ ps) = new_of p.0 ++ all_new ps

-- ══ What pieces owe ══

-- what is hidden first is hidden then
pub record Covers (first then : Place → Bool) : Type 0 where
  pub by : (p : Place) → then p ≡ false → first p ≡ false

-- whether a block is among the operands
abbrev pub is_target : (c : ℕ) → List Operand → Bool
is_target c [] = false
is_target c (operand.Block b ∷ os) = (b == c) || is_target c os
is_target c (_ ∷ os) = is_target c os

-- Behind these instructions of the block, with this hidden, an instruction stays: it reads nothing hidden, in each reached
-- state each register that it uses has no value or that of its replacement, and at the blocks that it may go to no less
-- is hidden.
pub record Stays (x : ℕ) (names : List (List ℕ)) (f g : FunctionData) (entries : ℕ → Place → Bool) (rename : ℕ → ℕ) (w : World) (b : ℕ) (before : List (ℕ × InstrData)) (now next : Place → Bool) (i j : InstrData) : Type 0 where
  pub kept : IsKept rename i j
  pub seen : AreSeenAs (setting_of x names f) (setting_of x names g) now rename i.operands
  pub holds : (state : State) → IsReached (setting_of x names f) w f.blocks b before state → UsesHold rename state i.operands
  pub hides : Covers (all_shown now (written_places (meaning_of i.flags i.op) i.operands)) next
  pub leaves : (c : ℕ) → is_target c i.operands ≡ true → Covers now (entries c)

-- what a piece owes: one that stays, as told, and one that is changed follows from the states that runs reach
abbrev pub PieceFollows : (x : ℕ) → (names : List (List ℕ)) → (f g : FunctionData) → (entries : ℕ → Place → Bool) → (rename : ℕ → ℕ) → World → (b : ℕ) → (before : List (ℕ × InstrData)) → (now next : Place → Bool) → Piece → Type 0
PieceFollows x names f g entries rename w b before now next (Kept i j) = Stays x names f g entries rename w b before now next i.1 j.1
PieceFollows x names f g entries rename w b before now next (Changed is js) =
    IsFollowed (setting_of x names f) (setting_of x names g) w
    (WhereReached (setting_of x names f) w f.blocks b before (Agree (setting_of x names f) (setting_of x names g) now))
    (Agree (setting_of x names f) (setting_of x names g) next) (AgreeAt (setting_of x names f) (setting_of x names g) entries) is js

-- one after the other, up to what is hidden at the end
abbrev pub PiecesFollow : (x : ℕ) → (names : List (List ℕ)) → (f g : FunctionData) → (entries : ℕ → Place → Bool) → (rename : ℕ → ℕ) → World → (b : ℕ) → (before : List (ℕ × InstrData)) → (now : Place → Bool) → List (Piece × (Place → Bool)) → Type 0
PiecesFollow x names f g entries rename w b before now [] = Unit {0}
PiecesFollow x names f g entries rename w b before now (p ∷ ps) =
    PieceFollows x names f g entries rename w b before now p.1 p.0 × PiecesFollow x names f g entries rename w b (before ++ old_of p.0) p.1 ps

-- what is hidden after the last piece
abbrev pub hidden_after : (now : Place → Bool) → List (Piece × (Place → Bool)) → Place → Bool
hidden_after now [] = now
hidden_after now (p ∷ ps) = hidden_after p.1 ps

-- ══ Blocks and functions ══

-- the phis, from the states in which runs enter the block
pub record PhisFollow (x : ℕ) (names : List (List ℕ)) (f g : FunctionData) (w : World) (b : ℕ) (entry middle : Place → Bool) (old new : List (ℕ × InstrData)) : Type 0 where
  pub by : (entries : ℕ) (from : Option ℕ) (state state' : State) → Arrives (setting_of x names f) w f.blocks entries from b state
      → Agree (setting_of x names f) (setting_of x names g) entry state state'
      → PhisStand (Agree (setting_of x names f) (setting_of x names g) middle) (joined state from old) (joined state' from new)

-- what is hidden once phis have written
abbrev pub shown_by_phis : (hidden : Place → Bool) → List (ℕ × InstrData) → Place → Bool
shown_by_phis hidden [] = hidden
shown_by_phis hidden (i ∷ is) = all_shown (shown_by_phis hidden is) (places_of i.1.operands)

-- a block in pieces: what is hidden behind its phis, and the pieces after them
pub record BlockRewritten (x : ℕ) (names : List (List ℕ)) (f g : FunctionData) (entries : ℕ → Place → Bool) (rename : ℕ → ℕ) (b : ℕ) (old new : BlockData) : Type 0 where
  pub middle : Place → Bool
  pub pieces : List (Piece × (Place → Bool))
  pub successors : new.successors ≡ old.successors
  pub splits : after_phis old.instrs ≡ all_old pieces
  pub new_splits : after_phis new.instrs ≡ all_new pieces
  pub phis : (w : World) → IsWorld x w → PhisFollow x names f g w b (entries b) middle (phis_of old.instrs) (phis_of new.instrs)
  pub body : (w : World) → IsWorld x w → PiecesFollow x names f g entries rename w b [] middle pieces
  pub falls : is_among (b + 1) old.successors ≡ true → Covers (hidden_after middle pieces) (entries (b + 1))

abbrev pub RewrittenAt : (x : ℕ) → (names : List (List ℕ)) → (f g : FunctionData) → (entries : ℕ → Place → Bool) → (rename : ℕ → ℕ) → (b : ℕ) → (old new : Option BlockData) → Type 0
RewrittenAt x names f g entries rename b None new = Unit {0}
RewrittenAt x names f g entries rename b (Some old) None = ⊥
RewrittenAt x names f g entries rename b (Some old) (Some new) = BlockRewritten x names f g entries rename b old new

-- what is hidden at the entry of each block, the register that replaces each, and the blocks in pieces
pub record IsRewritten (x : ℕ) (names : List (List ℕ)) (f g : FunctionData) : Type 0 where
  pub entries : ℕ → Place → Bool
  pub rename : ℕ → ℕ
  pub places : (b : ℕ) → RewrittenAt x names f g entries rename b (slice_get f.blocks b) (slice_get g.blocks b)
