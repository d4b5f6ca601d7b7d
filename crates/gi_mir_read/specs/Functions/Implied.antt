-- The successors that the instructions of a block imply.
use Rattle.std.specs.Prelude.{ℕ, suc, Bool, true, not, ◌&&◌, List, [], ◌∷◌, Option, fold, length, map, ◌==◌, if◌then◌else◌}
use Rattle.std.specs.Option.{option_map_or, unwrap_or}
use Rattle.gi_mir.specs.Edit.{HeadData}
use Rattle.gi_mir.specs.Data.{InstrData}
use Rattle.gi_mir.specs.Row.{is_branch_op, is_unconditional_op}
use Rattle.gi_mir.specs.declared.operand.Operand.{Operand}
use Rattle.gi_mir.specs.declared.operand.Operand.TheVariants.{Block}
use Rattle.gi_spelling.specs.Blocks.{Lists}
use Rattle.gi_spelling.specs.Resolved.{block_place}
use Rattle.gi_spelling.specs.Printed.{with_place}

-- with the block that an operand names
abbrev pub with_target : List ℕ → Operand → List ℕ
with_target places (Block place) = with_place places place
with_target places operand = places

-- with the blocks that an instruction goes to
abbrev pub with_branch : List ℕ → InstrData → List ℕ
with_branch places instr = if is_branch_op instr.op then fold with_target places instr.operands else places

-- control may go past the end of the instructions
abbrev pub runs_past : List InstrData → Bool
runs_past [] = true
runs_past (instr ∷ []) = not (is_unconditional_op instr.op)
runs_past (instr ∷ next ∷ more) = runs_past (next ∷ more)

abbrev pub implied_by : (place count : ℕ) → List InstrData → List ℕ
implied_by place count instrs =
    if runs_past instrs && not (suc place == count) then with_place (fold with_branch [] instrs) (suc place) else fold with_branch [] instrs

-- the successors of a block, by the numbers that it states, if it does
abbrev pub successors_by : (numbers : List ℕ) → (place : ℕ) → Option (List ℕ) → List InstrData → List ℕ
successors_by numbers place stated instrs = option_map_or (λ those. map (block_place numbers) those) stated (implied_by place (length numbers) instrs)

abbrev pub head_by : (numbers : List ℕ) → (place : ℕ) → Lists → List InstrData → HeadData
head_by numbers place lists instrs = record { successors = successors_by numbers place lists.successors instrs; liveins = unwrap_or lists.liveins [] }
