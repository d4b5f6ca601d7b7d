-- A line of a block as it is written, without how the program keeps it.
use Rattle.std.specs.Prelude.{List, Option}
use Rattle.gi_mir.specs.declared.opcode.Opcode.{Opcode}
use Rattle.gi_mir.specs.declared.operand.Flags.{Flags}
use Rattle.gi_spelling.specs.declared.written.Definition.{Definition}
use Rattle.gi_spelling.specs.declared.written.Source.{Source}
use Rattle.gi_spelling.specs.declared.written.Memory.{Memory}

pub record WrittenData : Type 0 where
  pub definitions : List Definition
  pub flags : Flags
  pub op : Opcode
  pub sources : List Source
  pub memory : Option Memory
