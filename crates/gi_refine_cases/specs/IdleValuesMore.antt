-- More small uses of rules, each of which breaks one premise of the lifting law and no other.
use Rattle.std.specs.Prelude.{◌≡◌, ℕ, [], ◌∷◌, Some, true, false, Bool, map}
use Rattle.gi_llt.specs.declared.Llt.TheVariants.{Scalar}
use Rattle.gi_mir.specs.Data.{InstrData, no_flags, reg_of}
use Rattle.gi_mir.specs.declared.opcode.Opcode.TheVariants as op
use Rattle.gi_mir.specs.declared.operand.MemOp.{MemOp}
use Rattle.gi_mir.specs.declared.operand.Operand.TheVariants.{Def}
use Rattle.gi_meaning.specs.State.{State, outside_of}
use Rattle.gi_meaning.specs.Runs.{Setting}
use Rattle.gi_refine.specs.Agreement.{Agree}
use Rattle.gi_refine.specs.Examples.{s32, made, use_of, of_one}
use Rattle.gi_refine_cases.specs.IdleValues.{quiet, copied}
use Rattle.gi_refine.specs.Lifting.{Placing, AreSized}
use Rattle.gi_refine.specs.OnePlace.{only_virtual}
use Rattle.gi_refine.specs.ValueRules.{constant, on_one}
use Rattle.gi_refine_cases.specs.TrialRules.{load_of}
use Rattle.gi_refine.specs.Values.{At, Operation, Rule, Environment, AllHold}

-- ══ Operations that change memory ══

abbrev pub byte : Bool → MemOp
byte is_load = record { load = is_load; ty = Scalar 8; align = 1 }

-- the low byte of the first input, stored at the second
abbrev pub byte_stored : Operation
byte_stored = record { op = op.GenericStore; flags = no_flags; slots = At 0 ∷ At 1 ∷ []; mem = Some (byte false); widths = [] }

-- nothing for a store
abbrev pub store_dropped : Rule
store_dropped = record { inputs = 32 ∷ 32 ∷ []; facts = []; old = byte_stored ∷ []; new = []; kept = [] }

abbrev pub store_placed : Placing
store_placed = record { inputs = 0 ∷ 1 ∷ []; old = [] ∷ []; new = [] }

-- a store for a load that nothing needs, of the same byte
abbrev pub store_made : Rule
store_made = record {
  inputs = 32 ∷ 32 ∷ [];
  facts = [];
  old = load_of op.GenericZeroExtendLoad 32 8 1 ∷ [];
  new = byte_stored ∷ [];
  kept = [];
}

abbrev pub load_placed : Placing
load_placed = record { inputs = 0 ∷ 1 ∷ []; old = (2 ∷ []) ∷ []; new = [] ∷ [] }

-- `G_STORE %0, %1 :: (store (s8))`, `%2 = G_ZEXTLOAD %1 :: (load (s8))`
abbrev pub store_in : ℕ × InstrData
store_in = made op.GenericStore (use_of 0 ∷ use_of 1 ∷ []) (Some (byte false))

abbrev pub load_in : ℕ × InstrData
load_in = made op.GenericZeroExtendLoad (Def (reg_of 2) s32 ∷ use_of 1 ∷ []) (Some (byte true))

-- ══ A result that overwrites an input ══

-- nothing for a constant, where the input is kept
abbrev pub input_kept : Rule
input_kept = record { inputs = 32 ∷ []; facts = []; old = constant 32 0 ∷ []; new = []; kept = (0, 0) ∷ [] }

-- the constant goes to the register of the input
abbrev pub overwriting : Placing
overwriting = record { inputs = 0 ∷ []; old = (0 ∷ []) ∷ []; new = [] }

-- ══ Inputs ══

-- a copy for nothing
abbrev pub copy_made : Rule
copy_made = record { inputs = 32 ∷ []; facts = []; old = []; new = copied ∷ []; kept = [] }

abbrev pub new_copy_placed : Placing
new_copy_placed = record { inputs = 0 ∷ []; old = []; new = (2 ∷ []) ∷ [] }

-- a count of ones in 32 bits, where %0 has 8 bits
abbrev pub count_same : Rule
count_same = record {
  inputs = 32 ∷ [];
  facts = [];
  old = on_one op.GenericPopulationCount 32 0 ∷ [];
  new = on_one op.GenericPopulationCount 32 0 ∷ [];
  kept = (1, 1) ∷ [];
}

abbrev pub count_of : ℕ → ℕ × InstrData
count_of r = of_one op.GenericPopulationCount 2 s32 r

-- states that agree, where the facts hold of some values of the inputs' widths, whatever the inputs have
pub record AgreeUnread (s t : Setting) (rule : Rule) (hidden : ℕ → Bool) (old new : State) : Type 0 where
  pub agree : Agree s t (only_virtual hidden) old new
  pub env : Environment
  pub widths : map (λ entry. entry.0) env ≡ rule.inputs
  pub sized : AreSized env
  pub facts : AllHold s.x quiet (outside_of old) env rule.facts
