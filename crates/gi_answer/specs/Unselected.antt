-- What selection leaves to a later time: an instruction of another shape than the five; and of a function of several blocks
-- its last instruction.
use Rattle.std.specs.Prelude.{ℕ, Bool, ◌&&◌, nat_lt, List, [], ◌∷◌, ◌++◌, Option, Some, None, option_map, length, codes, if◌then◌else◌}
use Rattle.std.specs.List.{list_any}
use Rattle.std.specs.Option.{is_none, option_or}
use Rattle.gi_mir.specs.Data.{InstrData, BlockData, FunctionData}
use Rattle.gi_mir.specs.declared.opcode.Opcode.{Opcode}
use Rattle.gi_observe.specs.declared.pass.Pass.TheVariants.{Select}
use Rattle.gi_observe.specs.Passes.{word_of}
use Rattle.gi_answer.specs.Messages.{at_line, unbuilt_line}
use Rattle.gi_answer.specs.Shapes.{is_shaped}

-- the line and the opcode of an instruction of another shape
abbrev pub other_line : InstrData → Option (ℕ × Opcode)
other_line instr = if is_shaped instr then None else Some (instr.line, instr.op)

-- the first such instruction
abbrev pub other_in_instrs : List (ℕ × InstrData) → Option (ℕ × Opcode)
other_in_instrs [] = None
other_in_instrs (instr ∷ instrs) = option_or (other_line instr.1) (other_in_instrs instrs)

abbrev pub other_in_blocks : List BlockData → Option (ℕ × Opcode)
other_in_blocks [] = None
other_in_blocks (block ∷ blocks) = option_or (other_in_instrs block.instrs) (other_in_blocks blocks)

-- the last instruction, and what stands before where there is none
abbrev pub last_in_instrs : Option (ℕ × Opcode) → List (ℕ × InstrData) → Option (ℕ × Opcode)
last_in_instrs before [] = before
last_in_instrs before (instr ∷ instrs) = last_in_instrs (Some ((instr.1).line, (instr.1).op)) instrs

abbrev pub last_in_blocks : Option (ℕ × Opcode) → List BlockData → Option (ℕ × Opcode)
last_in_blocks before [] = before
last_in_blocks before (block ∷ blocks) = last_in_blocks (last_in_instrs before block.instrs) blocks

abbrev pub last_of : FunctionData → Option (ℕ × Opcode)
last_of f = last_in_blocks None f.blocks

abbrev pub has_several : FunctionData → Bool
has_several f = nat_lt 1 (length f.blocks)

-- the first instruction of a function that isn't selected
abbrev pub unselected_in_function : FunctionData → Option (ℕ × Opcode)
unselected_in_function f = option_or (other_in_blocks f.blocks) (if has_several f then last_of f else None)

abbrev pub unselected_in : List FunctionData → Option (ℕ × Opcode)
unselected_in [] = None
unselected_in (f ∷ functions) = option_or (unselected_in_function f) (unselected_in functions)

-- a function of several blocks without an instruction
abbrev pub is_blank : FunctionData → Bool
is_blank f = has_several f && is_none (last_of f)

-- the first line stands for such a one
abbrev pub blank_message : List ℕ
blank_message = at_line 1 (codes "not built " ++ word_of Select)

-- what is said of functions that aren't selected, if one isn't
abbrev pub unselected : List FunctionData → Option (List ℕ)
unselected functions = if list_any is_blank functions then Some blank_message else option_map unbuilt_line (unselected_in functions)
