-- Where each value fits its register: a premise of rules on values, from tests of instructions.
use Rattle.std.specs.Prelude.{ℕ, ◌^◌, ◌<◌, Bool, true, false, ◌&&◌, ◌||◌, nat_lt, ◌==◌, List, [], ◌∷◌, IfSome}
use Rattle.gi_mir.specs.Data.{InstrData, BlockData}
use Rattle.gi_mir.specs.Entries.{Room}
use Rattle.gi_mir.specs.Entries as room
use Rattle.gi_mir.specs.Row.{room_of}
use Rattle.gi_mir.specs.declared.opcode.Opcode.{Opcode}
use Rattle.gi_mir.specs.declared.opcode.Opcode.TheVariants as op
use Rattle.gi_mir.specs.declared.operand.Operand.{Operand}
use Rattle.gi_mir.specs.declared.operand.Operand.TheVariants as operand
use Rattle.gi_meaning.specs.State.{State, Place}
use Rattle.gi_meaning.specs.Meaning.{Meaning, Copying, Generic, Jumping, Branching, MachineBranching, Returning, Nothing, meaning_of}
use Rattle.gi_meaning.specs.Runs.{Setting, width_of_place, places_of, phis_of, after_phis}

-- the registers' values fit their widths, and the physical registers hold words
pub record IsFit (s : Setting) (state : State) : Type 0 where
  pub values : (r : ℕ) → IfSome (state.values r) (λ v. v < 2 ^ s.width r)
  pub words : (n : ℕ) → state.words n < 2 ^ s.x

-- ══ Instructions that keep it ══

-- generic opcodes whose results fit, whatever the widths of their operands are
abbrev pub is_always : Room → Bool
is_always room.Always = true
is_always _ = false

abbrev pub always_fits : Opcode → Bool
always_fits o = is_always (room_of o)

-- a constant that fits its register
abbrev pub is_fitting_constant : (width : ℕ → ℕ) → Opcode → List Operand → Bool
is_fitting_constant width op.GenericConstant (operand.Def r kind ∷ operand.Constant n value ∷ []) = nat_lt value (2 ^ width r.0)
is_fitting_constant width _ _ = false

-- by its meaning an instruction keeps it
abbrev pub keeps_fit : (width : ℕ → ℕ) → Meaning → Opcode → List Operand → Bool
keeps_fit width Copying o os = true
keeps_fit width (Generic gives) o os = always_fits o || is_fitting_constant width o os
keeps_fit width Jumping o os = true
keeps_fit width Branching o os = true
keeps_fit width (MachineBranching test) o os = true
keeps_fit width Returning o os = true
keeps_fit width Nothing o os = true
keeps_fit width _ o os = false

abbrev pub all_keep_fit : (width : ℕ → ℕ) → List (ℕ × InstrData) → Bool
all_keep_fit width [] = true
all_keep_fit width (i ∷ is) = keeps_fit width (meaning_of i.1.flags i.1.op) i.1.op i.1.operands && all_keep_fit width is

-- ══ Phis ══

-- each register that the operands use has this width
abbrev pub uses_have : (width : ℕ → ℕ) → ℕ → List Operand → Bool
uses_have width n [] = true
uses_have width n (operand.Use r ∷ os) = (width r.0 == n) && uses_have width n os
uses_have width n (_ ∷ os) = uses_have width n os

-- what a phi takes has the width of its result
abbrev pub phi_fits : Setting → List Place → List Operand → Bool
phi_fits s (place ∷ []) os = uses_have s.width (width_of_place s place) os
phi_fits s _ os = true

abbrev pub phis_fit : Setting → List (ℕ × InstrData) → Bool
phis_fit s [] = true
phis_fit s (i ∷ is) = phi_fits s (places_of i.1.operands) i.1.operands && phis_fit s is

-- all blocks: their phis, and their other instructions
abbrev pub blocks_fit : Setting → List BlockData → Bool
blocks_fit s [] = true
blocks_fit s (block ∷ blocks) = phis_fit s (phis_of block.instrs) && all_keep_fit s.width (after_phis block.instrs) && blocks_fit s blocks
