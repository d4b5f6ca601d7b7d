-- What is read of a block so far, as the reader keeps it.
use Rattle.std.specs.Prelude.{◌≡◌, ℕ, Bool, true, List, [], ◌∷◌, ◌++◌, All, fold}
use Rattle.std.specs.List.{AllZip}
use Rattle.gi_mir.specs.Data.{InstrData}
use Rattle.gi_mir.specs.Formed.{is_formed}
use Rattle.gi_mir.specs.declared.operand.Kind.{Kind}
use Rattle.gi_spelling.specs.Blocks.{Body, Lists}
use Rattle.gi_spelling.specs.Documents.{lower}
use Rattle.gi_spelling.specs.Named.{Extends, IsNamedInstr}
use Rattle.gi_mir_read.specs.Functions.Noted.{NotesData}
use Rattle.gi_registers.specs.Noted.{with_operand}

pub record BodyData : Type 0 where
  pub lists : Lists
  pub instrs : List InstrData
  pub begun : Bool

abbrev pub with_instr : BodyData → InstrData → BodyData
with_instr body instr = record body { instrs = body.instrs ++ instr ∷ [] }

-- each instruction agrees with a row of its opcode
pub record AreFormed (instrs : List InstrData) : Type 0 where
  pub all : All (λ instr. is_formed instr ≡ true) instrs

-- the kinds that are kept of instructions
abbrev pub with_defined : List (ℕ × Kind) → InstrData → List (ℕ × Kind)
with_defined kinds instr = fold with_operand kinds instr.operands

-- what is kept of the lines of a block so far, with what was noted before
pub record IsReadSoFar (text : List ℕ) (names : List (List ℕ)) (before : NotesData) (spelled : Body) (body : BodyData) (notes : NotesData) : Type 0 where
  pub lists : body.lists ≡ spelled.lists
  pub begun : body.begun ≡ spelled.begun
  pub instrs : AllZip (IsNamedInstr text names) spelled.instrs body.instrs
  pub kinds : notes.kinds ≡ fold with_defined before.kinds spelled.instrs
  pub shown : notes.shown ≡ before.shown ++ spelled.shown
  pub lowest : notes.lowest ≡ fold lower before.lowest spelled.wrongs

-- what is kept changes as the block does, and names grow
pub record Reads (text : List ℕ) (old_names new_names : List (List ℕ)) (step : Body → Body) (old_body : BodyData) (old_notes : NotesData) (new_body : BodyData) (new_notes : NotesData) : Type 0 where
  pub grown : Extends old_names new_names
  pub kept : (before : NotesData) (spelled : Body) → IsReadSoFar text old_names before spelled old_body old_notes → IsReadSoFar text new_names before (step spelled) new_body new_notes

-- what a block that has been read spells
abbrev pub spelled_by : BodyData → Body
spelled_by body = record { lists = body.lists; instrs = body.instrs; shown = []; begun = body.begun; wrongs = [] }
