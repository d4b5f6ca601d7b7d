-- Modules that are the same but for what a text doesn't show: the lines and ids of instructions, the two next numbers of
-- a function, and the numbers of names.
use Rattle.std.specs.Prelude.{◌≡◌, ℕ, List}
use Rattle.gi_mir.specs.Names.{name_at}
use Rattle.std.specs.List.{AllZip}
use Rattle.gi_mir.specs.Data.{InstrData, BlockData, FunctionData, ModuleData}
use Rattle.gi_mir.specs.declared.operand.Operand.{Operand}
use Rattle.gi_mir.specs.declared.operand.Operand.TheVariants.{Global}
use Rattle.gi_mir.specs.declared.operand.SymbolFlag.{SymbolFlag}

-- the same symbol, whose name may have another number
pub record IsSameGlobal (names others : List (List ℕ)) (flag : SymbolFlag) (number : ℕ) (other : Operand) : Type 0 where
  pub other_number : ℕ
  pub same : other ≡ Global flag other_number
  pub named : name_at others other_number ≡ name_at names number

abbrev pub IsSameOperand : (names others : List (List ℕ)) → Operand → Operand → Type 0
IsSameOperand names others (Global flag number) other = IsSameGlobal names others flag number other
IsSameOperand names others operand other = other ≡ operand

-- all but the line and the id
pub record IsSameInstr (names others : List (List ℕ)) (instr other : ℕ × InstrData) : Type 0 where
  pub op : (other.1).op ≡ (instr.1).op
  pub flags : (other.1).flags ≡ (instr.1).flags
  pub operands : AllZip (IsSameOperand names others) (instr.1).operands (other.1).operands
  pub memory : (other.1).mem ≡ (instr.1).mem

pub record IsSameBlock (names others : List (List ℕ)) (block other : BlockData) : Type 0 where
  pub successors : other.successors ≡ block.successors
  pub liveins : other.liveins ≡ block.liveins
  pub instrs : AllZip (IsSameInstr names others) block.instrs other.instrs

-- all but the two next numbers
pub record IsSameFunction (names others : List (List ℕ)) (f other : FunctionData) : Type 0 where
  pub name : name_at others other.name ≡ name_at names f.name
  pub legalized : other.legalized ≡ f.legalized
  pub banked : other.banked ≡ f.banked
  pub selected : other.selected ≡ f.selected
  pub stack : other.stack ≡ f.stack
  pub blocks : AllZip (IsSameBlock names others) f.blocks other.blocks

pub record IsSameModule (m other : ModuleData) : Type 0 where
  pub ir : other.ir ≡ m.ir
  pub functions : AllZip (IsSameFunction m.names other.names) m.functions other.functions
