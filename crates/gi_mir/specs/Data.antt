-- What an instruction, a block, a function and a module are, without how the program keeps them.
use Rattle.std.specs.Prelude.{ℕ, Bool, false, List, Option}
use Rattle.gi_mir.specs.declared.opcode.Opcode.{Opcode}
use Rattle.gi_mir.specs.declared.operand.Flags.{Flags}
use Rattle.gi_mir.specs.declared.operand.MemOp.{MemOp}
use Rattle.gi_mir.specs.declared.operand.Operand.{Operand}
use Rattle.gi_mir.specs.declared.operand.Reg.{Reg}
use Rattle.gi_mir.specs.declared.operand.StackObject.{StackObject}

-- an instruction, with the line of the text that it comes from
pub record InstrData : Type 0 where
  pub op : Opcode
  pub flags : Flags
  pub operands : List Operand
  pub mem : Option MemOp
  pub line : ℕ

-- a block: the places of its successors, the physical registers that are live at its start, and its
-- instructions in order, each with its id
pub record BlockData : Type 0 where
  pub successors : List ℕ
  pub liveins : List ℕ
  pub instrs : List (ℕ × InstrData)

-- a function: the number of its name, three keys, its stack objects, its blocks in layout order, the
-- number of its next virtual register and its next id
pub record FunctionData : Type 0 where
  pub name : ℕ
  pub legalized : Bool
  pub banked : Bool
  pub selected : Bool
  pub stack : List StackObject
  pub blocks : List BlockData
  pub next_reg : ℕ
  pub next_id : ℕ

-- a module: the lines of its IR block if it has one, the bytes of each name, and its functions
pub record ModuleData : Type 0 where
  pub ir : Option (List (List ℕ))
  pub names : List (List ℕ)
  pub functions : List FunctionData

-- the register of a number, and no flags
abbrev pub reg_of : ℕ → Reg
reg_of number = record { 0 = number }

abbrev pub no_flags : Flags
no_flags = record { nuw = false; nsw = false; exact = false; disjoint = false; nneg = false }
