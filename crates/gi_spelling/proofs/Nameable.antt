-- Instructions and blocks in which each name is a name.
use Rattle.std.specs.Prelude.{ℕ, Bool, true, List}
use Rattle.gi_mir.specs.Names.{name_at}
use Rattle.std.specs.List.{list_all}
use Rattle.gi_mir.specs.declared.operand.Operand.{Operand}
use Rattle.gi_mir.specs.declared.operand.Operand.TheVariants.{Global, Routine}
use Rattle.gi_mir.specs.Data.{InstrData, BlockData}
use Rattle.gi_mir.specs.Routines.{routine_names}
use Rattle.gi_spelling.specs.Documents.{is_name}

abbrev pub is_named_operand : (names : List (List ℕ)) → Operand → Bool
is_named_operand names (Global flag name) = is_name (name_at names name)
is_named_operand names (Routine flag place) = is_name (name_at routine_names place)
is_named_operand names _ = true

abbrev pub is_named_instr : (names : List (List ℕ)) → ℕ × InstrData → Bool
is_named_instr names instr = list_all (is_named_operand names) (instr.1).operands

abbrev pub is_named_block : (names : List (List ℕ)) → BlockData → Bool
is_named_block names block = list_all (is_named_instr names) block.instrs
