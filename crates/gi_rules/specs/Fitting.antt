-- What fits a stage of a function, where x is the width of a register, 32 or 64; and which instruction is told where one
-- doesn't.
use Rattle.std.specs.Prelude.{◌≡◌, ℕ, Bool, true, false, not, ◌&&◌, ◌||◌, nat_lt, nat_le, ◌==◌, List, [], ◌∷◌, ◌++◌, Option, Some, None, if◌then◌else◌}
use Rattle.std.specs.List.{filter_map, list_all}
use Rattle.gi_mir.specs.Data.{InstrData, BlockData, FunctionData}
use Rattle.gi_mir.specs.Row.{is_wide_op}
use Rattle.gi_mir.specs.Stages.{is_kind_of, is_opcode_of}
use Rattle.gi_mir.specs.declared.opcode.Opcode.{Opcode}
use Rattle.gi_mir.specs.declared.operand.Operand.{Operand}
use Rattle.gi_mir.specs.declared.operand.Operand.TheVariants.{Def}
use Rattle.gi_mir.specs.declared.stage.Stage.{Stage}
use Rattle.gi_mir.specs.declared.stage.Stage.TheVariants as stage
use Rattle.gi_rules.specs.Legal.{is_legal}

-- ══ An instruction that fits ══

-- the opcodes of a stage; those of RV64 alone don't stand on RV32
abbrev pub stands_on : (x : ℕ) → Stage → Opcode → Bool
stands_on x stage op = is_opcode_of stage op && (x == 64 || not (is_wide_op op))

-- a register is defined as `_`, of a bank, or of class `gpr`, as the stage has it
abbrev pub is_defined_in : Stage → Operand → Bool
is_defined_in stage (Def r kind) = is_kind_of stage kind
is_defined_in stage operand = true

-- behind the legaliser, and before selection, each instruction is legal
abbrev pub has_legalized : Stage → Bool
has_legalized stage.Before = false
has_legalized stage.Legalized = true
has_legalized stage.Banked = true
has_legalized stage.Selected = false

abbrev pub fits_stage : (x : ℕ) → Stage → FunctionData → InstrData → Bool
fits_stage x stage f i =
    stands_on x stage i.op
    && list_all (is_defined_in stage) i.operands
    && (if has_legalized stage then is_legal x f i else true)

-- ══ The instructions that don't ══

-- the line and the opcode of one that doesn't fit
abbrev pub illegal_line : (x : ℕ) → Stage → FunctionData → InstrData → Option (ℕ × Opcode)
illegal_line x stage f i = if fits_stage x stage f i then None else Some (i.line, i.op)

-- those of all that don't, in layout order
abbrev pub illegal_in_instrs : (x : ℕ) → Stage → FunctionData → List (ℕ × InstrData) → List (ℕ × Opcode)
illegal_in_instrs x stage f instrs = filter_map (λ i. illegal_line x stage f i.1) instrs

abbrev pub illegal_in_blocks : (x : ℕ) → Stage → FunctionData → List BlockData → List (ℕ × Opcode)
illegal_in_blocks x stage f [] = []
illegal_in_blocks x stage f (block ∷ blocks) = illegal_in_instrs x stage f block.instrs ++ illegal_in_blocks x stage f blocks

abbrev pub illegal_in : (x : ℕ) → Stage → FunctionData → List (ℕ × Opcode)
illegal_in x stage f = illegal_in_blocks x stage f f.blocks

-- ══ The one that is told ══

-- it is one of these, those before it stand on higher lines, and none behind it on a lower one
pub record IsFirstOfLowestLine (lines : List (ℕ × Opcode)) (told : ℕ × Opcode) : Type 0 where
  pub before : List (ℕ × Opcode)
  pub behind : List (ℕ × Opcode)
  pub place : lines ≡ before ++ told ∷ behind
  pub sooner : list_all (λ line. nat_lt told.0 line.0) before ≡ true
  pub later : list_all (λ line. nat_le told.0 line.0) behind ≡ true

-- none is told exactly where there is none
abbrev pub IsTold : List (ℕ × Opcode) → Option (ℕ × Opcode) → Type 0
IsTold lines None = lines ≡ []
IsTold lines (Some told) = IsFirstOfLowestLine lines told

-- of two lines the lower, and of one line the first
abbrev pub of_lower_line : (first later : Option (ℕ × Opcode)) → Option (ℕ × Opcode)
of_lower_line first None = first
of_lower_line None (Some later) = Some later
of_lower_line (Some first) (Some later) = if nat_lt later.0 first.0 then Some later else Some first
