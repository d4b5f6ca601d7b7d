-- What instruction selection makes of a function: the normal form of the table of rows; then each register is
-- of class `gpr`, and the key `selected` stands. Ids don't matter.
use Rattle.std.specs.Prelude.{◌≡◌, ℕ, true, map}
use Rattle.std.specs.List.{AllZip}
use Rattle.gi_mir.specs.Data.{InstrData, BlockData, FunctionData, ModuleData}
use Rattle.gi_refine.specs.Worded.{classed_block}
use Rattle.gi_answer.specs.NormalForm.{IsNormalForm}
use Rattle.gi_answer.specs.Rows.{selection_rows}

-- each register of class `gpr`, and the key
abbrev pub selected_form : FunctionData → FunctionData
selected_form f = record f { selected = true; blocks = map classed_block f.blocks }

-- the same but for ids
abbrev pub IsSameInstr : ℕ × InstrData → ℕ × InstrData → Type 0
IsSameInstr old new = new.1 ≡ old.1

pub record IsSameBlock (old new : BlockData) : Type 0 where
  pub successors : new.successors ≡ old.successors
  pub liveins : new.liveins ≡ old.liveins
  pub instrs : AllZip IsSameInstr old.instrs new.instrs

-- the same but for ids, the next id and the next register
pub record IsSameFunction (old new : FunctionData) : Type 0 where
  pub name : new.name ≡ old.name
  pub legalized : new.legalized ≡ old.legalized
  pub banked : new.banked ≡ old.banked
  pub chosen : new.selected ≡ old.selected
  pub stack : new.stack ≡ old.stack
  pub blocks : AllZip IsSameBlock old.blocks new.blocks

pub record IsSelected (old new : FunctionData) : Type 0 where
  pub normal : FunctionData
  pub is_normal : IsNormalForm selection_rows old normal
  pub same : IsSameFunction (selected_form normal) new

pub record IsSelectedModule (old new : ModuleData) : Type 0 where
  pub ir : new.ir ≡ old.ir
  pub names : new.names ≡ old.names
  pub functions : AllZip IsSelected old.functions new.functions
