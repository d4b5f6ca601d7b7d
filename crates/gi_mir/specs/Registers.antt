-- What the virtual registers of a function are: of a register, its kind at its first definition in layout.
-- (MIR Format Reference Manual, "Machine Registers and Register Operands".)
use Rattle.std.specs.Prelude.{ℕ, List, [], ◌∷◌, Option, Some, None, ◌==◌, if◌then◌else◌, unwrap_or}
use Rattle.gi_llt.specs.declared.Llt.{Llt}
use Rattle.gi_mir.specs.declared.operand.Kind.{Kind}
use Rattle.gi_mir.specs.declared.operand.Kind.TheVariants.{Generic, Banked, Class}
use Rattle.gi_mir.specs.declared.operand.Operand.{Operand}
use Rattle.gi_mir.specs.declared.operand.Operand.TheVariants.{Def}
use Rattle.gi_mir.specs.Data.{InstrData, BlockData, FunctionData}

-- the type of a register of this kind, which one of class `gpr` has not
abbrev pub type_of_kind : Kind → Option Llt
type_of_kind (Generic ty) = Some ty
type_of_kind (Banked ty) = Some ty
type_of_kind Class = None

-- the first of two that is there
abbrev pub first_there : Option Kind → Option Kind → Option Kind
first_there None other = other
first_there (Some kind) other = Some kind

-- the kind at the first definition of a register among operands, instructions and blocks
abbrev pub kind_in_operand : ℕ → Operand → Option Kind
kind_in_operand reg (Def defined kind) = if defined.0 == reg then Some kind else None
kind_in_operand reg _ = None

abbrev pub kind_in_operands : ℕ → List Operand → Option Kind
kind_in_operands reg [] = None
kind_in_operands reg (operand ∷ operands) = first_there (kind_in_operand reg operand) (kind_in_operands reg operands)

abbrev pub kind_in_instrs : ℕ → List (ℕ × InstrData) → Option Kind
kind_in_instrs reg [] = None
kind_in_instrs reg (instr ∷ instrs) = first_there (kind_in_operands reg (instr.1).operands) (kind_in_instrs reg instrs)

abbrev pub kind_in_blocks : ℕ → List BlockData → Option Kind
kind_in_blocks reg [] = None
kind_in_blocks reg (block ∷ blocks) = first_there (kind_in_instrs reg block.instrs) (kind_in_blocks reg blocks)

-- the kind of a register: the one at its first definition in layout, and `Class` where it has none
abbrev pub kind_of : FunctionData → ℕ → Kind
kind_of f reg = unwrap_or (kind_in_blocks reg f.blocks) Class
