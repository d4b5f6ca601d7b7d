-- Which premises there are of rewriting one place and of rewriting piece by piece, and what it is to show that one isn't idle:
-- a case in which all others hold and the new function isn't a refinement.
use Rattle.std.specs.Prelude.{◌≡◌, ℕ, ◌+◌, Bool, true, false, cond, ◌==◌, List, [], ◌∷◌, ◌++◌, Option, Some, None, slice_get}
use Rattle.gi_mir.specs.Data.{InstrData, BlockData, FunctionData}
use Rattle.gi_mir.specs.declared.opcode.Opcode.TheVariants as op
use Rattle.gi_mir.specs.declared.operand.Operand.{Operand}
use Rattle.gi_mir.specs.declared.operand.Operand.TheVariants as operand
use Rattle.gi_meaning.specs.State.{World, IsWorld, State, Place}
use Rattle.gi_meaning.specs.Meaning.{meaning_of}
use Rattle.gi_meaning.specs.Runs.{setting_of, written_places, phis_of, after_phis, is_among}
use Rattle.gi_refine.specs.Agreement.{Agree, AgreeAt, all_shown}
use Rattle.gi_refine.specs.Examples.{of_one, block_of, function_of, s32, copy_in, copy_out, return_of, names, world_of}
use Rattle.gi_refine.specs.Kept.{IsKept, AreKept, AreSeenAs, AllSeenAs, UsesHold, PhisHold, BodyHolds}
use Rattle.gi_refine.specs.OnePlace.{OnePlace, only_virtual, StaysAt}
use Rattle.gi_refine.specs.Reached.{IsReached, WhereReached}
use Rattle.gi_refine.specs.Refinement.{RefinesUnchecked}
use Rattle.gi_refine.specs.Rewriting.{Piece, Kept, Changed, old_of, all_old, all_new, Covers, is_target, PieceFollows, hidden_after, PhisFollow}
use Rattle.gi_refine.specs.Replacing.{Replacement, IsReplaced}
use Rattle.gi_refine.specs.Simulation.{IsFollowed}

-- the premises of rewriting one place; each of those outside it is of the phis of its block, of what
-- stands before it and of what stands behind it
pub data Premise : Type 0 where
  -- the block keeps its successors
  Successors : Premise
  -- outside the place uses are renamed alone
  SameInstructions : Premise
  -- nothing hidden is read there
  NothingHidden : Premise
  -- what is read and written there has one width in both functions
  SameWidths : Premise
  -- what replaces a register there holds its value
  SameValues : Premise
  -- the other blocks stay
  Others : Premise
  -- the place itself follows
  Follows : Premise

-- by which premises are told apart
abbrev pub number_of : Premise → ℕ
number_of Successors = 0
number_of SameInstructions = 1
number_of NothingHidden = 2
number_of SameWidths = 3
number_of SameValues = 4
number_of Others = 5
number_of Follows = 6

-- a premise is owed unless it is the one that is dropped
abbrev pub Owed : (dropped : Option Premise) → Premise → Type 0 → Type 0
Owed None this T = T
Owed (Some dropped) this T = cond (number_of dropped == number_of this) (Unit {0}) T

-- no register that operands use, once it is renamed, is hidden
abbrev pub AreShown : (hidden : ℕ → Bool) → (rename : ℕ → ℕ) → List Operand → Type 0
AreShown hidden rename [] = Unit {0}
AreShown hidden rename (operand.Use r ∷ os) = (hidden (rename r.0) ≡ false) × AreShown hidden rename os
AreShown hidden rename (_ ∷ os) = AreShown hidden rename os

abbrev pub AllShown : (hidden : ℕ → Bool) → (rename : ℕ → ℕ) → List (ℕ × InstrData) → Type 0
AllShown hidden rename [] = Unit {0}
AllShown hidden rename (i ∷ is) = AreShown hidden rename i.1.operands × AllShown hidden rename is

-- widths alone: what `AllSeenAs` asks where nothing is hidden
abbrev pub AllOfWidth : (x : ℕ) → (f g : FunctionData) → (rename : ℕ → ℕ) → List (ℕ × InstrData) → Type 0
AllOfWidth x f g rename is = AllSeenAs (setting_of x names f) (setting_of x names g) (only_virtual (λ r. false)) rename is

-- all premises of rewriting one place but the dropped one
pub record OwesAllBut (dropped : Option Premise) (x : ℕ) (f g : FunctionData) (p : OnePlace) : Type 0 where
  pub block : BlockData
  pub new_block : BlockData
  pub here : slice_get f.blocks p.block ≡ Some block
  pub there : slice_get g.blocks p.block ≡ Some new_block
  pub successors : Owed dropped Successors (new_block.successors ≡ block.successors)
  pub splits : after_phis block.instrs ≡ p.before ++ (p.old ++ p.after)
  pub new_splits : after_phis new_block.instrs ≡ p.new_before ++ (p.new ++ p.new_after)
  pub phis_kept : Owed dropped SameInstructions (AreKept p.rename (phis_of block.instrs) (phis_of new_block.instrs))
  pub before_kept : Owed dropped SameInstructions (AreKept p.rename p.before p.new_before)
  pub after_kept : Owed dropped SameInstructions (AreKept p.rename p.after p.new_after)
  pub phis_shown : Owed dropped NothingHidden (AllShown p.hidden p.rename (phis_of block.instrs))
  pub before_shown : Owed dropped NothingHidden (AllShown p.hidden p.rename p.before)
  pub after_shown : Owed dropped NothingHidden (AllShown p.hidden p.rename p.after)
  pub phis_widths : Owed dropped SameWidths (AllOfWidth x f g p.rename (phis_of block.instrs))
  pub before_widths : Owed dropped SameWidths (AllOfWidth x f g p.rename p.before)
  pub after_widths : Owed dropped SameWidths (AllOfWidth x f g p.rename p.after)
  pub phis_hold : Owed dropped SameValues (PhisHold x names f p.block p.rename (phis_of block.instrs))
  pub before_holds : Owed dropped SameValues (BodyHolds x names f p.block p.rename [] p.before)
  pub after_holds : Owed dropped SameValues (BodyHolds x names f p.block p.rename (p.before ++ p.old) p.after)
  pub others : Owed dropped Others ((b : ℕ) → (b ≡ p.block → ⊥) → StaysAt x names f g p.hidden p.rename b (slice_get f.blocks b) (slice_get g.blocks b))
  pub follows : Owed dropped Follows ((w : World) → IsWorld x w
      → IsFollowed (setting_of x names f) (setting_of x names g) w
      (WhereReached (setting_of x names f) w f.blocks p.block p.before (Agree (setting_of x names f) (setting_of x names g) (only_virtual p.hidden)))
      (Agree (setting_of x names f) (setting_of x names g) (only_virtual p.hidden))
      (AgreeAt (setting_of x names f) (setting_of x names g) (λ b. only_virtual p.hidden)) p.old p.new)

-- a case in which all premises but this one hold and the new function isn't a refinement
pub record IsNotIdle (dropped : Premise) : Type 0 where
  pub old : FunctionData
  pub new : FunctionData
  pub place : OnePlace
  pub owes : OwesAllBut (Some dropped) 32 old new place
  pub refuted : RefinesUnchecked 32 names old new → ⊥

-- ══ Rewriting piece by piece ══

pub data PiecePremise : Type 0 where
  -- what an instruction that stays owes
  StayKept : PiecePremise
  StaySeen : PiecePremise
  StayHeld : PiecePremise
  StayHides : PiecePremise
  StayLeaves : PiecePremise
  -- what a changed piece, the phis, the end and the successors of a block owe
  PieceChanged : PiecePremise
  PhisFollowing : PiecePremise
  BlockFalls : PiecePremise
  BlockSuccessors : PiecePremise

abbrev pub number_of_piece : PiecePremise → ℕ
number_of_piece StayKept = 0
number_of_piece StaySeen = 1
number_of_piece StayHeld = 2
number_of_piece StayHides = 3
number_of_piece StayLeaves = 4
number_of_piece PieceChanged = 5
number_of_piece PhisFollowing = 6
number_of_piece BlockFalls = 7
number_of_piece BlockSuccessors = 8

abbrev pub OwedPiece : (dropped : Option PiecePremise) → PiecePremise → Type 0 → Type 0
OwedPiece None this T = T
OwedPiece (Some dropped) this T = cond (number_of_piece dropped == number_of_piece this) (Unit {0}) T

-- the premises of `Rewriting` but the dropped one: of an instruction that stays, of a piece, and of pieces
pub record StaysBut (dropped : Option PiecePremise) (x : ℕ) (f g : FunctionData) (entries : ℕ → Place → Bool) (rename : ℕ → ℕ) (w : World) (b : ℕ) (before : List (ℕ × InstrData)) (now next : Place → Bool) (i j : InstrData) : Type 0 where
  pub kept : OwedPiece dropped StayKept (IsKept rename i j)
  pub seen : OwedPiece dropped StaySeen (AreSeenAs (setting_of x names f) (setting_of x names g) now rename i.operands)
  pub holds : OwedPiece dropped StayHeld ((state : State) → IsReached (setting_of x names f) w f.blocks b before state → UsesHold rename state i.operands)
  pub hides : OwedPiece dropped StayHides (Covers (all_shown now (written_places (meaning_of i.flags i.op) i.operands)) next)
  pub leaves : OwedPiece dropped StayLeaves ((c : ℕ) → is_target c i.operands ≡ true → Covers now (entries c))

abbrev pub PieceBut : (dropped : Option PiecePremise) → (x : ℕ) → (f g : FunctionData) → (entries : ℕ → Place → Bool) → (rename : ℕ → ℕ) → World → (b : ℕ) → (before : List (ℕ × InstrData)) → (now next : Place → Bool) → Piece → Type 0
PieceBut dropped x f g entries rename w b before now next (Kept i j) = StaysBut dropped x f g entries rename w b before now next i.1 j.1
PieceBut dropped x f g entries rename w b before now next (Changed is js) =
    OwedPiece dropped PieceChanged (PieceFollows x names f g entries rename w b before now next (Changed is js))

abbrev pub PiecesBut : (dropped : Option PiecePremise) → (x : ℕ) → (f g : FunctionData) → (entries : ℕ → Place → Bool) → (rename : ℕ → ℕ) → World → (b : ℕ) → (before : List (ℕ × InstrData)) → (now : Place → Bool) → List (Piece × (Place → Bool)) → Type 0
PiecesBut dropped x f g entries rename w b before now [] = Unit {0}
PiecesBut dropped x f g entries rename w b before now (p ∷ ps) =
    PieceBut dropped x f g entries rename w b before now p.1 p.0 × PiecesBut dropped x f g entries rename w b (before ++ old_of p.0) p.1 ps

-- and of a block in pieces
pub record BlockBut (dropped : Option PiecePremise) (x : ℕ) (f g : FunctionData) (entries : ℕ → Place → Bool) (rename : ℕ → ℕ) (b : ℕ) (old new : BlockData) : Type 0 where
  pub middle : Place → Bool
  pub pieces : List (Piece × (Place → Bool))
  pub successors : OwedPiece dropped BlockSuccessors (new.successors ≡ old.successors)
  pub splits : after_phis old.instrs ≡ all_old pieces
  pub new_splits : after_phis new.instrs ≡ all_new pieces
  pub phis : OwedPiece dropped PhisFollowing ((w : World) → IsWorld x w → PhisFollow x names f g w b (entries b) middle (phis_of old.instrs) (phis_of new.instrs))
  pub body : (w : World) → IsWorld x w → PiecesBut dropped x f g entries rename w b [] middle pieces
  pub falls : OwedPiece dropped BlockFalls (is_among (b + 1) old.successors ≡ true → Covers (hidden_after middle pieces) (entries (b + 1)))

abbrev pub BlockButAt : (dropped : Option PiecePremise) → (x : ℕ) → (f g : FunctionData) → (entries : ℕ → Place → Bool) → (rename : ℕ → ℕ) → (b : ℕ) → (old new : Option BlockData) → Type 0
BlockButAt dropped x f g entries rename b None new = Unit {0}
BlockButAt dropped x f g entries rename b (Some old) None = ⊥
BlockButAt dropped x f g entries rename b (Some old) (Some new) = BlockBut dropped x f g entries rename b old new

-- all premises of rewriting piece by piece but the dropped one
pub record IsRewrittenBut (dropped : Option PiecePremise) (x : ℕ) (f g : FunctionData) : Type 0 where
  pub entries : ℕ → Place → Bool
  pub rename : ℕ → ℕ
  pub places : (b : ℕ) → BlockButAt dropped x f g entries rename b (slice_get f.blocks b) (slice_get g.blocks b)

-- a case in which all premises but this one hold and the new function isn't a refinement
pub record IsPieceNotIdle (dropped : PiecePremise) : Type 0 where
  pub old : FunctionData
  pub new : FunctionData
  pub owes : IsRewrittenBut (Some dropped) 32 old new
  pub refuted : RefinesUnchecked 32 names old new → ⊥

-- ══ A case that holds by reach alone ══

-- `%d:s32 = COPY %r`
abbrev pub copied : (d r : ℕ) → ℕ × InstrData
copied d r = of_one op.Copy d s32 r

-- a copy of a copy, and the copy of the value itself
abbrev pub copies_copy : FunctionData
copies_copy = function_of (block_of [] (copy_in 0 10 s32 ∷ copied 1 0 ∷ copied 2 1 ∷ copy_out 10 2 ∷ return_of 10 ∷ []) ∷ [])

abbrev pub copies_value : FunctionData
copies_value = function_of (block_of [] (copy_in 0 10 s32 ∷ copied 1 0 ∷ copied 2 0 ∷ copy_out 10 2 ∷ return_of 10 ∷ []) ∷ [])

abbrev pub copy_replaced : Replacement
copy_replaced = record {
  block = 0;
  before = copy_in 0 10 s32 ∷ copied 1 0 ∷ [];
  old = copied 2 1 ∷ [];
  new = copied 2 0 ∷ [];
  after = copy_out 10 2 ∷ return_of 10 ∷ [];
  hidden = λ r. false;
}

-- the replacement follows from the states that are reached, and in this world not from all states that agree
pub record IsByReach : Type 0 where
  pub replaced : IsReplaced 32 names copies_copy copies_value copy_replaced
  pub world : IsWorld 32 (world_of 1 2 0 [])
  pub not_everywhere : IsFollowed (setting_of 32 names copies_copy) (setting_of 32 names copies_value) (world_of 1 2 0 [])
      (Agree (setting_of 32 names copies_copy) (setting_of 32 names copies_value) (only_virtual (λ r. false)))
      (Agree (setting_of 32 names copies_copy) (setting_of 32 names copies_value) (only_virtual (λ r. false)))
      (AgreeAt (setting_of 32 names copies_copy) (setting_of 32 names copies_value) (λ b. only_virtual (λ r. false))) (copied 2 1 ∷ []) (copied 2 0 ∷ []) → ⊥
