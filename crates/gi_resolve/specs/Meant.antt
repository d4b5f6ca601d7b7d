-- What is meant, where each global has the number of its name.
use Rattle.std.specs.Prelude.{◌≡◌, ◌<◌, ℕ, Bool, true, false, List, ◌++◌, Option, Some, length}
use Rattle.gi_mir.specs.Names.{name_at}
use Rattle.std.specs.List.{AllZip}
use Rattle.gi_mir.specs.Data.{InstrData}
use Rattle.gi_mir.specs.declared.operand.Operand.{Operand}
use Rattle.gi_spelling.specs.declared.written.Source.{Source}
use Rattle.gi_spelling.specs.declared.written.Source.TheVariants as source
use Rattle.gi_spelling.specs.Named.{IsNamedOperand, IsNamedInstr}

-- a name has this number
pub record IsNumberOf (names : List (List ℕ)) (name : List ℕ) (number : ℕ) : Type 0 where
  pub within : number < length names
  pub named : name_at names number ≡ name

abbrev pub is_symbol : Source → Bool
is_symbol (source.Global flag start) = true
is_symbol s = false

-- the operand is what is meant
pub record IsMeantOperand (text : List ℕ) (names : List (List ℕ)) (meaning : Option Operand) (new : Operand) : Type 0 where
  pub meant : Operand
  pub is : meaning ≡ Some meant
  pub named : IsNamedOperand text names meant new

-- operands that are what is meant have come behind others
pub record AreMeant (text : List ℕ) (names : List (List ℕ)) (meaning : Option (List Operand)) (before after : List Operand) : Type 0 where
  pub meant : List Operand
  pub more : List Operand
  pub is : meaning ≡ Some meant
  pub grown : after ≡ before ++ more
  pub named : AllZip (IsNamedOperand text names) meant more

-- the instruction is what is meant
pub record IsMeantInstr (text : List ℕ) (names : List (List ℕ)) (meaning : Option InstrData) (new : InstrData) : Type 0 where
  pub meant : InstrData
  pub is : meaning ≡ Some meant
  pub named : IsNamedInstr text names meant new
