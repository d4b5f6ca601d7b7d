-- The modules that name no block that isn't there.
use Rattle.std.specs.Prelude.{◌≡◌, ℕ, Bool, true, ◌&&◌, length, nat_lt}
use Rattle.std.specs.List.{list_all}
use Rattle.gi_mir.specs.declared.operand.Operand.{Operand}
use Rattle.gi_mir.specs.declared.operand.Operand.TheVariants.{Block}
use Rattle.gi_mir.specs.Data.{InstrData, BlockData, FunctionData, ModuleData}

-- of so many blocks, the one that an operand names is there
abbrev pub is_there_in : (count : ℕ) → Operand → Bool
is_there_in count (Block place) = nat_lt place count
is_there_in count operand = true

abbrev pub names_there : (count : ℕ) → ℕ × InstrData → Bool
names_there count instr = list_all (is_there_in count) (instr.1).operands

abbrev pub is_block_within : (count : ℕ) → BlockData → Bool
is_block_within count block = list_all (λ place. nat_lt place count) block.successors && list_all (names_there count) block.instrs

abbrev pub names_blocks_there : FunctionData → Bool
names_blocks_there f = list_all (is_block_within (length f.blocks)) f.blocks

pub record NamesBlocksThatAreThere (m : ModuleData) : Type 0 where
  pub each : list_all names_blocks_there m.functions ≡ true
