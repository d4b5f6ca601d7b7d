-- What a module of LLVM IR is, as plain data.
-- (Language Reference, "High Level Structure", "Type System", "Instruction Reference".)
use Rattle.std.specs.Prelude.{ℕ, List, Option}
use Rattle.gi_llt.specs.declared.Arg.{Arg}
use Rattle.gi_llt.specs.declared.Ext.{Ext}
use Rattle.gi_text.specs.declared.token.Token.{Token}
use Rattle.gi_mir.specs.declared.operand.Flags.{Flags}
use Rattle.gi_ir.specs.declared.instr.IrOp.{IrOp}
use Rattle.gi_ir.specs.declared.types.IrType.{IrType}
use Rattle.gi_ir.specs.declared.types.Layout.{Layout}
use Rattle.gi_ir.specs.declared.value.IrOperand.{IrOperand}

-- an instruction, with the line of the text at which it begins
pub record IrInstrData : Type 0 where
  pub op : IrOp
  pub flags : Flags
  pub ty : ℕ
  pub result : Option ℕ
  pub operands : List IrOperand
  pub exts : List Ext
  pub blocks : List ℕ
  pub align : Option ℕ
  pub line : ℕ

-- a function, whose blocks are lists of instructions
pub record IrFunctionData : Type 0 where
  pub name : ℕ
  pub args : List Arg
  pub result : ℕ
  pub result_ext : Ext
  pub blocks : List (List IrInstrData)
  pub line : ℕ

-- a module: lines and names as bytes, and of each type two layouts, for registers of 32 and of 64 bits
pub record IrModuleData : Type 0 where
  pub lines : List (List ℕ)
  pub names : List (List ℕ)
  pub triple : Option (ℕ × Token)
  pub types : List IrType
  pub layouts : List (List Layout)
  pub functions : List IrFunctionData
