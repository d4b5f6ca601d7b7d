-- The usual rewriting: in one block some instructions are replaced by others, and elsewhere uses of registers are
-- replaced by uses of registers that hold the same value.
use Rattle.std.specs.Prelude.{◌≡◌, ℕ, Bool, false, ◌==◌, List, [], ◌++◌, Option, Some, None, slice_get}
use Rattle.gi_mir.specs.Data.{InstrData, BlockData, FunctionData}
use Rattle.gi_meaning.specs.State.{World, IsWorld, Place, Virtual, Physical}
use Rattle.gi_meaning.specs.Runs.{setting_of, phis_of, after_phis}
use Rattle.gi_refine.specs.Agreement.{Agree, AgreeAt}
use Rattle.gi_refine.specs.Kept.{AreKept, AllSeenAs, PhisHold, BodyHolds}
use Rattle.gi_refine.specs.Reached.{WhereReached}
use Rattle.gi_refine.specs.Simulation.{IsFollowed}

-- a test of virtual registers as one of places: no physical register is hidden
abbrev pub only_virtual : (ℕ → Bool) → Place → Bool
only_virtual hidden (Virtual r) = hidden r
only_virtual hidden (Physical n) = false

-- no register, and this one alone
abbrev pub nothing : ℕ → Bool
nothing r = false

abbrev pub only : (q : ℕ) → ℕ → Bool
only q r = r == q

-- The place: a block, what stands before, in and after it (behind the phis of the block) in the old function and in the new
-- one, the virtual registers in which the two functions may differ, and the register that replaces each.
pub record OnePlace : Type 0 where
  pub block : ℕ
  pub before : List (ℕ × InstrData)
  pub old : List (ℕ × InstrData)
  pub after : List (ℕ × InstrData)
  pub new_before : List (ℕ × InstrData)
  pub new : List (ℕ × InstrData)
  pub new_after : List (ℕ × InstrData)
  pub hidden : ℕ → Bool
  pub rename : ℕ → ℕ

-- a block outside the place: its uses are renamed alone, it reads nothing hidden, and replacements hold in it
pub record BlockStays (x : ℕ) (names : List (List ℕ)) (f g : FunctionData) (hidden : ℕ → Bool) (rename : ℕ → ℕ) (b : ℕ) (old new : BlockData) : Type 0 where
  pub successors : new.successors ≡ old.successors
  pub kept : AreKept rename old.instrs new.instrs
  pub seen : AllSeenAs (setting_of x names f) (setting_of x names g) (only_virtual hidden) rename old.instrs
  pub phis : PhisHold x names f b rename (phis_of old.instrs)
  pub body : BodyHolds x names f b rename [] (after_phis old.instrs)

-- where the old function has a block outside the place, the new one has it too
abbrev pub StaysAt : (x : ℕ) → (names : List (List ℕ)) → (f g : FunctionData) → (hidden : ℕ → Bool) → (rename : ℕ → ℕ) → (b : ℕ) → (old new : Option BlockData) → Type 0
StaysAt x names f g hidden rename b None new = Unit {0}
StaysAt x names f g hidden rename b (Some old) None = ⊥
StaysAt x names f g hidden rename b (Some old) (Some new) = BlockStays x names f g hidden rename b old new

-- The new function is the old one with one place rewritten.
pub record RewritesOnePlace (x : ℕ) (names : List (List ℕ)) (f g : FunctionData) (p : OnePlace) : Type 0 where
  -- the block of the place, which keeps its successors
  pub block : BlockData
  pub new_block : BlockData
  pub here : slice_get f.blocks p.block ≡ Some block
  pub there : slice_get g.blocks p.block ≡ Some new_block
  pub successors : new_block.successors ≡ block.successors
  -- what stands in it behind its phis
  pub splits : after_phis block.instrs ≡ p.before ++ (p.old ++ p.after)
  pub new_splits : after_phis new_block.instrs ≡ p.new_before ++ (p.new ++ p.new_after)
  -- outside the place uses are renamed alone
  pub phis_kept : AreKept p.rename (phis_of block.instrs) (phis_of new_block.instrs)
  pub before_kept : AreKept p.rename p.before p.new_before
  pub after_kept : AreKept p.rename p.after p.new_after
  -- nothing hidden is read there, and what is read and written has one width in both functions
  pub phis_seen : AllSeenAs (setting_of x names f) (setting_of x names g) (only_virtual p.hidden) p.rename (phis_of block.instrs)
  pub before_seen : AllSeenAs (setting_of x names f) (setting_of x names g) (only_virtual p.hidden) p.rename p.before
  pub after_seen : AllSeenAs (setting_of x names f) (setting_of x names g) (only_virtual p.hidden) p.rename p.after
  -- in runs of the old function each register that is used there has no value, or that of its replacement
  pub phis_hold : PhisHold x names f p.block p.rename (phis_of block.instrs)
  pub before_holds : BodyHolds x names f p.block p.rename [] p.before
  pub after_holds : BodyHolds x names f p.block p.rename (p.before ++ p.old) p.after
  -- the other blocks
  pub others : (b : ℕ) → (b ≡ p.block → ⊥) → StaysAt x names f g p.hidden p.rename b (slice_get f.blocks b) (slice_get g.blocks b)
  -- the place itself, from the old states that are reached there
  pub follows : (w : World) → IsWorld x w
      → IsFollowed (setting_of x names f) (setting_of x names g) w
      (WhereReached (setting_of x names f) w f.blocks p.block p.before (Agree (setting_of x names f) (setting_of x names g) (only_virtual p.hidden)))
      (Agree (setting_of x names f) (setting_of x names g) (only_virtual p.hidden))
      (AgreeAt (setting_of x names f) (setting_of x names g) (λ b. only_virtual p.hidden)) p.old p.new
