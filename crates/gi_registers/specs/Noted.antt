-- The kinds that are noted of registers.
use Rattle.std.specs.Prelude.{ℕ, List, [], ◌∷◌, ◌++◌, Option, fold, is_some, nat_eq, unwrap_or, if◌then◌else◌}
use Rattle.std.specs.Map.{lookup}
use Rattle.gi_mir.specs.Data.{InstrData, BlockData}
use Rattle.gi_mir.specs.declared.operand.Kind.{Kind}
use Rattle.gi_mir.specs.declared.operand.Kind.TheVariants.{Class}
use Rattle.gi_mir.specs.declared.operand.Operand.{Operand}
use Rattle.gi_mir.specs.declared.operand.Operand.TheVariants.{Def}

-- the kind that is noted of a register
abbrev pub kind_noted : List (ℕ × Kind) → ℕ → Option Kind
kind_noted kinds reg = lookup (nat_eq reg) kinds

-- the kind that is noted of a register, and `Class` where none is
abbrev pub kind_or_class : List (ℕ × Kind) → ℕ → Kind
kind_or_class kinds reg = unwrap_or (kind_noted kinds reg) Class

-- with the kind of one more register, unless it has one
abbrev pub with_kind : List (ℕ × Kind) → ℕ → Kind → List (ℕ × Kind)
with_kind kinds reg kind = if is_some (kind_noted kinds reg) then kinds else kinds ++ (reg, kind) ∷ []

-- with the kinds of what an operand, an instruction and a block define
abbrev pub with_operand : List (ℕ × Kind) → Operand → List (ℕ × Kind)
with_operand kinds (Def reg kind) = with_kind kinds reg.0 kind
with_operand kinds _ = kinds

abbrev pub with_instr : List (ℕ × Kind) → ℕ × InstrData → List (ℕ × Kind)
with_instr kinds instr = fold with_operand kinds (instr.1).operands

abbrev pub with_block : List (ℕ × Kind) → BlockData → List (ℕ × Kind)
with_block kinds block = fold with_instr kinds block.instrs
