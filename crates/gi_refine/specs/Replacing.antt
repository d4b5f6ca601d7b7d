-- Instructions of one block replaced by others, and nothing else changed.
use Rattle.std.specs.Prelude.{◌≡◌, ℕ, Bool, false, ◌||◌, map, List, [], ◌∷◌, ◌++◌, Some, slice_get, slice_set}
use Rattle.std.specs.List.{AllZip}
use Rattle.gi_mir.specs.Data.{InstrData, BlockData, FunctionData}
use Rattle.gi_mir.specs.declared.operand.Operand.{Operand}
use Rattle.gi_mir.specs.declared.operand.Operand.TheVariants as operand
use Rattle.gi_meaning.specs.State.{World, IsWorld}
use Rattle.gi_meaning.specs.Runs.{setting_of, phis_of, after_phis}
use Rattle.gi_refine.specs.Agreement.{Agree, AgreeAt}
use Rattle.gi_refine.specs.Kept.{reused}
use Rattle.gi_refine.specs.OnePlace.{only_virtual}
use Rattle.gi_refine.specs.Reached.{WhereReached}
use Rattle.gi_refine.specs.Simulation.{IsFollowed}

-- ══ What instructions touch ══

-- whether operands define one of these registers, or use one once their uses are renamed
abbrev pub touches : (hidden : ℕ → Bool) → (rename : ℕ → ℕ) → List Operand → Bool
touches hidden rename [] = false
touches hidden rename (operand.Def r k ∷ os) = hidden r.0 || touches hidden rename os
touches hidden rename (operand.Use r ∷ os) = hidden (rename r.0) || touches hidden rename os
touches hidden rename (_ ∷ os) = touches hidden rename os

abbrev pub any_touches : (hidden : ℕ → Bool) → (rename : ℕ → ℕ) → List (ℕ × InstrData) → Bool
any_touches hidden rename [] = false
any_touches hidden rename (i ∷ is) = touches hidden rename i.1.operands || any_touches hidden rename is

-- ══ Uses renamed everywhere ══

-- an instruction with its id, a list of them, and a block, each with its uses renamed
abbrev pub reused_pair : (rename : ℕ → ℕ) → ℕ × InstrData → ℕ × InstrData
reused_pair rename i = (i.0, reused rename i.1)

abbrev pub all_reused : (rename : ℕ → ℕ) → List (ℕ × InstrData) → List (ℕ × InstrData)
all_reused rename is = map (reused_pair rename) is

-- ══ A replacement ══

-- The block; what stands in it before the place (its phis too), the old and the new instructions, and what stands after; and
-- the registers in which the two functions may differ.
pub record Replacement : Type 0 where
  pub block : ℕ
  pub before : List (ℕ × InstrData)
  pub old : List (ℕ × InstrData)
  pub new : List (ℕ × InstrData)
  pub after : List (ℕ × InstrData)
  pub hidden : ℕ → Bool

-- The new function is the old one with a replacement.
pub record IsReplaced (x : ℕ) (names : List (List ℕ)) (f g : FunctionData) (r : Replacement) : Type 0 where
  pub block : BlockData
  pub here : slice_get f.blocks r.block ≡ Some block
  pub instrs : block.instrs ≡ r.before ++ (r.old ++ r.after)
  pub blocks : g.blocks ≡ slice_set f.blocks r.block (record block { instrs = r.before ++ (r.new ++ r.after) })
  -- the place isn't among the phis
  pub no_phi : phis_of (r.old ++ r.after) ≡ []
  pub no_new_phi : phis_of (r.new ++ r.after) ≡ []
  -- nothing outside it touches what is hidden
  pub before_clear : any_touches r.hidden (λ q. q) r.before ≡ false
  pub after_clear : any_touches r.hidden (λ q. q) r.after ≡ false
  pub others_clear : (b : ℕ) → (b ≡ r.block → ⊥) → (other : BlockData) → slice_get f.blocks b ≡ Some other → any_touches r.hidden (λ q. q) other.instrs ≡ false
  -- the other registers keep their widths
  pub widths : (q : ℕ) → r.hidden q ≡ false → (setting_of x names g).width q ≡ (setting_of x names f).width q
  -- the place itself, from the old states that are reached there
  pub follows : (w : World) → IsWorld x w
      → IsFollowed (setting_of x names f) (setting_of x names g) w
      (WhereReached (setting_of x names f) w f.blocks r.block (after_phis r.before) (Agree (setting_of x names f) (setting_of x names g) (only_virtual r.hidden)))
      (Agree (setting_of x names f) (setting_of x names g) (only_virtual r.hidden))
      (AgreeAt (setting_of x names f) (setting_of x names g) (λ b. only_virtual r.hidden)) r.old r.new

-- ══ The same instructions under other ids ══

-- the same successors, and the same instructions in order
pub record IsSameBlock (old new : BlockData) : Type 0 where
  pub successors : new.successors ≡ old.successors
  pub instrs : AllZip (λ i j. j.1 ≡ i.1) old.instrs new.instrs

-- the same blocks; the keys, the next register and the next id may differ too
abbrev pub AreSameBlocks : FunctionData → FunctionData → Type 0
AreSameBlocks f g = AllZip IsSameBlock f.blocks g.blocks
