-- What holds of an available register at each moment of a run: what its definition gives of the present values of its operands.
use Rattle.std.specs.Prelude.{◌≡◌, ℕ, ◌^◌, ◌<◌, Bool, true, false, ◌&&◌, ◌==◌, List, [], ◌∷◌, map, Some}
use Rattle.std.specs.List.{list_all}
use Rattle.gi_mir.specs.Data.{InstrData, FunctionData}
use Rattle.gi_mir.specs.declared.operand.Operand.{Operand}
use Rattle.gi_mir.specs.declared.operand.Operand.TheVariants as operand
use Rattle.gi_meaning.specs.Act.{Act, Results}
use Rattle.gi_meaning.specs.Argument.{Argument}
use Rattle.gi_meaning.specs.Meaning.{Meaning, Copying, Generic, Machine, meaning_of}
use Rattle.gi_meaning.specs.Runs.{Setting, setting_of, arguments_of}
use Rattle.gi_meaning.specs.State.{World, State, Outside}
use Rattle.gi_valid.specs.Definitions.{is_pure}
use Rattle.gi_meaning.specs.InRow.{type_in, results_in, checked_pair, checked_blocks}
use Rattle.gi_refine.specs.Reached.{IsReached}

-- ══ Which definitions ══

-- results from arguments alone
abbrev pub is_computing : Meaning → Bool
is_computing Copying = true
is_computing (Generic gives) = true
is_computing (Machine gives) = true
is_computing _ = false

-- what it gives is the same in every state: no physical register but x0
abbrev pub is_fixed : Operand → Bool
is_fixed (operand.Phys n) = n == 0
is_fixed (operand.ImplicitUse n) = n == 0
is_fixed _ = true

-- a pure definition that computes, and reads no physical register but x0, whose word never changes
abbrev pub is_steady : InstrData → Bool
is_steady i = is_pure i && is_computing (meaning_of i.flags i.op) && list_all is_fixed i.operands

-- ══ When ══

-- A run of the function has come behind the phis of a block and these instructions, in this state. It is undefined where it comes
-- to an instruction that doesn't stand in its row, and so it has passed none.
abbrev pub IsReachedInRuns : (x : ℕ) → (names : List (List ℕ)) → FunctionData → World → (b : ℕ) → (before : List (ℕ × InstrData)) → State → Type 0
IsReachedInRuns x names f w b before state = IsReached (setting_of x names f) w (checked_blocks x f) b (map (checked_pair x (type_in x f)) before) state

-- ══ What holds of them ══

-- these registers hold these values
abbrev pub AreHeld : State → (registers values : List ℕ) → Type 0
AreHeld state [] [] = Unit {0}
AreHeld state (r ∷ rs) (v ∷ vs) = (state.values r ≡ Some v) × AreHeld state rs vs
AreHeld state _ _ = ⊥

-- its registers hold what an instruction may give of the present values of its operands, whatever is outside the registers
pub record HoldsDefinition (s : Setting) (w : World) (i : InstrData) (state : State) : Type 0 where
  pub arguments : List Argument
  pub results : List ℕ
  pub read : arguments_of s w state i.operands ≡ Some arguments
  pub given : (outside : Outside) → Act s.x w (meaning_of i.flags i.op) i.mem (map s.width (results_in i.operands)) arguments outside (Results results outside)
  pub held : AreHeld state (results_in i.operands) results

-- a register holds a value of so many bits
pub record HoldsBelow (r bits : ℕ) (state : State) : Type 0 where
  pub value : ℕ
  pub held : state.values r ≡ Some value
  pub below : value < 2 ^ bits
