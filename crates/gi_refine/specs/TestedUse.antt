-- A use of a rule whose premises are tests of the function: constants, sizes, and inputs that the root takes.
use Rattle.std.specs.Prelude.{◌≡◌, ℕ, suc, Bool, true, ◌&&◌, List, [], ◌∷◌, ◌++◌, Some, slice_get}
use Rattle.gi_mir.specs.Data.{InstrData, BlockData, FunctionData}
use Rattle.gi_meaning.specs.State.{World, IsWorld, Place}
use Rattle.gi_meaning.specs.Runs.{setting_of, after_phis}
use Rattle.gi_refine.specs.Constants.{only_constant}
use Rattle.gi_refine.specs.Fitting.{blocks_fit}
use Rattle.gi_refine.specs.Lifting.{Placing, IsPlaced, takes, first_slots}
use Rattle.gi_refine.specs.RuleUse.{width_in}
use Rattle.gi_refine.specs.ValueRules.{constant}
use Rattle.gi_refine.specs.Values.{Fact, Defines, Rule, Slot, IsSound}

-- an input that is a constant: its place in the rule, its register and its value
pub record ConstantInput : Type 0 where
  pub place : ℕ
  pub register : ℕ
  pub value : ℕ

-- that each is this constant
abbrev pub constant_facts : (width : ℕ → ℕ) → List ConstantInput → List Fact
constant_facts width [] = []
constant_facts width (c ∷ cs) = Defines (constant (width c.register) c.value) (c.place ∷ []) ∷ constant_facts width cs

-- each is the input at its place, and nothing but this constant defines its register
abbrev pub AreConstants : (registers : List ℕ) → List BlockData → List ConstantInput → Type 0
AreConstants registers blocks [] = Unit {0}
AreConstants registers blocks (c ∷ cs) =
    (slice_get registers c.place ≡ Some c.register) × (only_constant c.register c.value blocks ≡ true) × AreConstants registers blocks cs

-- the slots take each place from this one on
abbrev pub takes_all : List Slot → (place : ℕ) → List ℕ → Bool
takes_all slots place [] = true
takes_all slots place (r ∷ rs) = takes place slots && takes_all slots (suc place) rs

-- The rule is sound, and the old and the new instructions are its operations on registers; the old ones stand in the block
-- behind those before; the first old operation takes each input; values fit; and the rule's facts are of constants.
pub record IsTestedUse (x : ℕ) (names : List (List ℕ)) (f g : FunctionData) (now next : Place → Bool) (rule : Rule) (placing : Placing) (block : ℕ) (before old new : List (ℕ × InstrData)) : Type 0 where
  pub sound : (w : World) → IsWorld x w → IsSound x w rule
  pub placed : (w : World) → IsWorld x w → IsPlaced x names (width_in x f) (width_in x g) w rule placing now next old new
  pub block_data : BlockData
  pub back : List (ℕ × InstrData)
  pub here : slice_get f.blocks block ≡ Some block_data
  pub splits : after_phis block_data.instrs ≡ before ++ back
  pub taken : takes_all (first_slots rule.old) 0 placing.inputs ≡ true
  pub fit : blocks_fit (setting_of x names f) f.blocks ≡ true
  pub constants : List ConstantInput
  pub facts : rule.facts ≡ constant_facts (width_in x f) constants
  pub hold : AreConstants placing.inputs f.blocks constants
