-- What a row of a table answers at a place, without how the program keeps it.
use Rattle.std.specs.Prelude.{ℕ, List}
use Rattle.gi_llt.specs.declared.Llt.{Llt}
use Rattle.gi_mir.specs.declared.opcode.Opcode.{Opcode}
use Rattle.gi_mir.specs.declared.operand.Flags.{Flags}
use Rattle.gi_rule_values.specs.declared.rewrite.Slot.{Slot}

-- an instruction without its registers: each result has a type
pub record OperationData : Type 0 where
  pub op : Opcode
  pub flags : Flags
  pub slots : List Slot
  pub types : List Llt

-- a definition that was looked at: its results stand at these places
pub record DefinitionData : Type 0 where
  pub operation : OperationData
  pub results : List ℕ

-- the types of the inputs, the definitions of some of them, the root, what is made in its place, and for each result of the
-- root the place that has its value
pub record RewriteData : Type 0 where
  pub inputs : List Llt
  pub definitions : List DefinitionData
  pub root : OperationData
  pub made : List OperationData
  pub results : List ℕ
