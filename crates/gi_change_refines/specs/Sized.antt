-- What is asked of a function: formed instructions, constants in range, and values that fit.
use Rattle.std.specs.Prelude.{◌≡◌, ℕ, ◌^◌, Bool, false, not, ◌&&◌, ◌==◌, nat_lt, List, [], ◌∷◌, ◌++◌, Some, slice_get}
use Rattle.std.specs.List.{list_all, list_any}
use Rattle.gi_mir.specs.Data.{InstrData, BlockData, FunctionData}
use Rattle.gi_mir.specs.Edit.{all_instrs}
use Rattle.gi_mir.specs.Formed.{is_constant, is_formed}
use Rattle.gi_mir.specs.declared.opcode.Opcode.{Opcode}
use Rattle.gi_mir.specs.declared.opcode.Opcode.TheVariants as op
use Rattle.gi_mir.specs.declared.operand.Operand.{Operand}
use Rattle.gi_mir.specs.declared.operand.Operand.TheVariants as operand
use Rattle.gi_meaning.specs.Runs.{after_phis, setting_of}
use Rattle.gi_meaning.specs.State.{IsWorld, State, World}
use Rattle.gi_refine.specs.Fitting.{IsFit}
use Rattle.gi_refine.specs.Reached.{IsReached}
use Rattle.gi_refine.specs.RuleUse.{width_in}

-- each instruction is formed
abbrev pub are_formed : FunctionData → Bool
are_formed f = list_all (λ p. is_formed p.1) (all_instrs f.blocks)

-- G_CONSTANT has a constant in range that is as wide as its register, and no other instruction has one
abbrev pub is_sized : (width : ℕ → ℕ) → Opcode → List Operand → Bool
is_sized width op.GenericConstant (operand.Def r kind ∷ operand.Constant bits value ∷ []) = (bits == width r.0) && nat_lt value (2 ^ bits)
is_sized width op.GenericConstant _ = false
is_sized width _ os = not (list_any is_constant os)

abbrev pub are_sized : (x : ℕ) → FunctionData → Bool
are_sized x f = list_all (λ p. is_sized (width_in x f) p.1.op p.1.operands) (all_instrs f.blocks)

-- wherever runs come behind the phis of a block, values fit their registers
pub record FitsAnywhere (x : ℕ) (names : List (List ℕ)) (f : FunctionData) : Type 0 where
  pub by : (w : World) → IsWorld x w → (b : ℕ) (block : BlockData) (before back : List (ℕ × InstrData)) → slice_get f.blocks b ≡ Some block → after_phis block.instrs ≡ before ++ back
      → (state : State) → IsReached (setting_of x names f) w f.blocks b before state → IsFit (setting_of x names f) state
