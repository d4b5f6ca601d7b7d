-- A table of two rows on generic branches: one to the next block goes, and any other becomes a branch of the machine.
use Rattle.std.specs.Prelude.{◌≡◌, ℕ, ◌+◌, List, [], ◌∷◌, Option, Some, None, ◌==◌, if◌then◌else◌, length, option_map}
use Rattle.std.specs.Option.{option_and_then, option_map_or}
use Rattle.gi_mir.specs.Data.{InstrData, FunctionData, no_flags}
use Rattle.gi_mir.specs.Edit.{home_of, instr_of, without_instr}
use Rattle.gi_mir.specs.Ids.{AreOwnIds}
use Rattle.gi_mir.specs.declared.opcode.Opcode.{Opcode}
use Rattle.gi_mir.specs.declared.opcode.Opcode.TheVariants.{GenericBranch, PseudoBranch}
use Rattle.gi_mir.specs.declared.operand.Operand.{Operand}
use Rattle.gi_mir.specs.declared.operand.Operand.TheVariants.{Block}
use Rattle.gi_replace.specs.Applying.{line_of, root_replaced}
use Rattle.gi_normalise.specs.NormalForms.{Row}
use Rattle.gi_normalise.specs.Weights.{total_weight}

-- the block that a generic branch goes to
abbrev pub target_in : Opcode → List Operand → Option ℕ
target_in GenericBranch (Block n ∷ []) = Some n
target_in _ _ = None

abbrev pub target_of : InstrData → Option ℕ
target_of i = target_in i.op i.operands

abbrev pub target_at : FunctionData → (id : ℕ) → Option ℕ
target_at f id = option_and_then target_of (instr_of f id)

-- the machine's branch to a block
abbrev pub jump_to : (block line : ℕ) → InstrData
jump_to block line = record { op = PseudoBranch; flags = no_flags; operands = Block block ∷ []; mem = None; line = line }

-- a generic branch to the next block goes
abbrev pub next_row : Row
next_row f id = option_and_then (λ n. if n == home_of f id + 1 then Some (without_instr f id) else None) (target_at f id)

-- a generic branch becomes one of the machine
abbrev pub jump_row : Row
jump_row f id = option_map (λ n. root_replaced id (jump_to n (line_of f id) ∷ []) f) (target_at f id)

abbrev pub branch_rows : List Row
branch_rows = next_row ∷ jump_row ∷ []

-- how many generic branches there are
abbrev pub branch_weight : FunctionData → ℕ
branch_weight f = total_weight (λ i. option_map_or (λ n. 1) (target_of i) 0) f

pub record HasOwnIds (f : FunctionData) : Type 0 where
  pub own : AreOwnIds f.blocks f.next_id

-- it has the name of another, and as many blocks
pub record IsLike (f g : FunctionData) : Type 0 where
  pub name : g.name ≡ f.name
  pub blocks : length g.blocks ≡ length f.blocks
