-- Virtual registers numbered from 0 in the order in which they first appear.
-- (How registers are numbered in a printed text is this project's own.)
use Rattle.std.specs.Prelude.{ℕ, ◌+◌, List, [], ◌∷◌, ◌++◌, nat_eq, if◌then◌else◌, length, position, unwrap_or, map, flat_map, fold}
use Rattle.std.specs.List.{list_any}
use Rattle.gi_mir.specs.Data.{InstrData, BlockData, FunctionData, ModuleData}
use Rattle.gi_mir.specs.declared.operand.Operand.{Operand}
use Rattle.gi_mir.specs.declared.operand.Operand.TheVariants.{Def, Use}
use Rattle.gi_mir.specs.Renaming.{renamed}

-- the registers of a function, in the order of its text
abbrev pub registers_in_operand : Operand → List ℕ
registers_in_operand (Def r k) = r.0 ∷ []
registers_in_operand (Use r) = r.0 ∷ []
registers_in_operand _ = []

abbrev pub registers_in_instr : ℕ × InstrData → List ℕ
registers_in_instr i = flat_map registers_in_operand i.1.operands

abbrev pub registers_in_block : BlockData → List ℕ
registers_in_block b = flat_map registers_in_instr b.instrs

-- a list with one more at its end, unless it is there
abbrev pub with_register : List ℕ → ℕ → List ℕ
with_register seen r = if list_any (nat_eq r) seen then seen else seen ++ r ∷ []

-- each register once, in the order of first appearance
abbrev pub order_of : FunctionData → List ℕ
order_of f = fold with_register [] (flat_map registers_in_block f.blocks)

-- a register's place in the order, and a number past the end where it has none
abbrev pub number_in : List ℕ → ℕ → ℕ
number_in order r = unwrap_or (position (nat_eq r) order) (length order + r)

-- the function with its registers numbered so
abbrev pub numbered : FunctionData → FunctionData
numbered f = renamed (number_in (order_of f)) f

-- the module with the registers of each function numbered so
abbrev pub numbered_module : ModuleData → ModuleData
numbered_module m = record m { functions = map numbered m.functions }
