-- What a rewriting makes of the blocks of a function, seen at once.
use Rattle.std.specs.Prelude.{ℕ, ◌+◌, List, [], ◌∷◌, ◌++◌, take, drop, map, slice_set}
use Rattle.gi_mir.specs.Data.{InstrData, BlockData, FunctionData}
use Rattle.gi_mir.specs.Edit.{home_block, home_of, place_in_block}
use Rattle.gi_mir.specs.declared.operand.Operand.{Operand}
use Rattle.gi_mir.specs.declared.operand.Operand.TheVariants.{Use}

-- instructions with ids from this one on
abbrev pub with_ids : ℕ → List InstrData → List (ℕ × InstrData)
with_ids id [] = []
with_ids id (i ∷ is) = (id, i) ∷ with_ids (id + 1) is

-- a block in which instructions stand in the place of one
abbrev pub block_with : BlockData → (place : ℕ) → List (ℕ × InstrData) → BlockData
block_with b place made = record b { instrs = take place b.instrs ++ (made ++ drop (place + 1) b.instrs) }

-- the blocks in which instructions with new ids stand in the place of another
abbrev pub blocks_with : FunctionData → (id : ℕ) → List InstrData → List BlockData
blocks_with f id made =
    slice_set f.blocks (home_of f id) (block_with (home_block f id) (place_in_block f id) (with_ids f.next_id made))

-- another register in each use of an operand, and of an instruction
abbrev pub operand_renamed : (ℕ → ℕ) → Operand → Operand
operand_renamed rename (Use reg) = Use (record { 0 = rename reg.0 })
operand_renamed rename x = x

abbrev pub entry_renamed : (ℕ → ℕ) → ℕ × InstrData → ℕ × InstrData
entry_renamed rename p = (p.0, record p.1 { operands = map (operand_renamed rename) p.1.operands })
