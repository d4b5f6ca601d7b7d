-- A function in which each name has its number, from one in which a global has the place of its token in the text.
use Rattle.std.specs.Prelude.{◌≡◌, ℕ, suc, ◌<◌, List, ◌++◌, drop, length}
use Rattle.gi_mir.specs.Names.{name_at}
use Rattle.std.specs.List.{AllZip}
use Rattle.gi_llt.specs.Tokens.{is_word_byte, run_of}
use Rattle.gi_mir.specs.Data.{InstrData, BlockData, FunctionData}
use Rattle.gi_mir.specs.declared.operand.Operand.{Operand}
use Rattle.gi_mir.specs.declared.operand.Operand.TheVariants.{Global}
use Rattle.gi_mir.specs.declared.operand.SymbolFlag.{SymbolFlag}

-- the name of the token `@name` at a place
abbrev pub name_of_token : (text : List ℕ) → (place : ℕ) → List ℕ
name_of_token text place = run_of is_word_byte (drop (suc place) text)

-- the same symbol, by the number of its name
pub record IsNamedGlobal (text : List ℕ) (names : List (List ℕ)) (flag : SymbolFlag) (place : ℕ) (new : Operand) : Type 0 where
  pub number : ℕ
  pub same : new ≡ Global flag number
  pub within : number < length names
  pub named : name_at names number ≡ name_of_token text place

abbrev pub IsNamedOperand : (text : List ℕ) (names : List (List ℕ)) → Operand → Operand → Type 0
IsNamedOperand text names (Global flag place) new = IsNamedGlobal text names flag place new
IsNamedOperand text names old new = new ≡ old

pub record IsNamedInstr (text : List ℕ) (names : List (List ℕ)) (old new : InstrData) : Type 0 where
  pub op : new.op ≡ old.op
  pub flags : new.flags ≡ old.flags
  pub operands : AllZip (IsNamedOperand text names) old.operands new.operands
  pub memory : new.mem ≡ old.mem
  pub line : new.line ≡ old.line

pub record IsNamedEntry (text : List ℕ) (names : List (List ℕ)) (old new : ℕ × InstrData) : Type 0 where
  pub id : new.0 ≡ old.0
  pub instr : IsNamedInstr text names old.1 new.1

pub record IsNamedBlock (text : List ℕ) (names : List (List ℕ)) (old new : BlockData) : Type 0 where
  pub successors : new.successors ≡ old.successors
  pub liveins : new.liveins ≡ old.liveins
  pub instrs : AllZip (IsNamedEntry text names) old.instrs new.instrs

-- all but the number of the function's own name
pub record IsNamedFunction (text : List ℕ) (names : List (List ℕ)) (old new : FunctionData) : Type 0 where
  pub legalized : new.legalized ≡ old.legalized
  pub banked : new.banked ≡ old.banked
  pub selected : new.selected ≡ old.selected
  pub stack : new.stack ≡ old.stack
  pub blocks : AllZip (IsNamedBlock text names) old.blocks new.blocks
  pub next_reg : new.next_reg ≡ old.next_reg
  pub next_id : new.next_id ≡ old.next_id

-- names that have grown: the earlier ones keep their numbers
pub record Extends (old new : List (List ℕ)) : Type 0 where
  pub more : List (List ℕ)
  pub grown : new ≡ old ++ more
