-- A rule on values where it is used in a function: what it owes where runs reach the place.
use Rattle.std.specs.Prelude.{ℕ, List, Bool, ◌≡◌, true, map}
use Rattle.gi_mir.specs.Data.{InstrData, FunctionData}
use Rattle.gi_mir.specs.Registers.{kind_of}
use Rattle.gi_meaning.specs.State.{World, IsWorld, State, Place}
use Rattle.gi_meaning.specs.Runs.{setting_of, width_of_kind}
use Rattle.gi_refine.specs.Lifting.{Placing, IsPlaced, IsKnown, AllShow, are_all_fresh}
use Rattle.gi_refine.specs.Reached.{IsReached}
use Rattle.gi_refine.specs.Values.{Rule, IsSound, IsCertain, are_pure}

-- the widths of a function's registers
abbrev pub width_in : (x : ℕ) → FunctionData → ℕ → ℕ
width_in x f r = width_of_kind x (kind_of f r)

-- With these places hidden before and after: in each world the rule is sound, the old and the new instructions are its
-- operations on registers, and of the states that runs of the old function reach behind what stands before in the block,
-- enough is known.
pub record IsRuleUse (x : ℕ) (names : List (List ℕ)) (f g : FunctionData) (now next : Place → Bool) (rule : World → Rule) (placing : Placing) (block : ℕ) (before old new : List (ℕ × InstrData)) : Type 0 where
  pub sound : (w : World) → IsWorld x w → IsSound x w (rule w)
  pub placed : (w : World) → IsWorld x w
      → IsPlaced x names (width_in x f) (width_in x g) w (rule w) placing now next old new
  pub known : (w : World) → IsWorld x w → (state : State) → IsReached (setting_of x names f) w f.blocks block before state
      → IsKnown (setting_of x names f) w (rule w) placing.inputs state

-- In each world the rule is certain, the old instructions are its operations on registers, and of the states that runs
-- reach behind what stands before in the block, enough is known.
pub record IsCertainUse (x : ℕ) (names : List (List ℕ)) (f : FunctionData) (rule : World → Rule) (placing : Placing) (block : ℕ) (before old : List (ℕ × InstrData)) : Type 0 where
  pub certain : (w : World) → IsWorld x w → IsCertain x w (rule w)
  pub pure : (w : World) → IsWorld x w → are_pure (rule w).old ≡ true
  pub shown : (w : World) → IsWorld x w → AllShow (setting_of x names f) w placing.inputs placing.old (rule w).old old
  pub fresh : are_all_fresh placing.inputs placing.old ≡ true
  pub widths : (w : World) → IsWorld x w → map (width_in x f) placing.inputs ≡ (rule w).inputs
  pub known : (w : World) → IsWorld x w → (state : State) → IsReached (setting_of x names f) w f.blocks block before state
      → IsKnown (setting_of x names f) w (rule w) placing.inputs state
