-- What is kept to the end of a function.
use Rattle.std.specs.Prelude.{ℕ, Bool, List, [], ◌∷◌, ◌++◌, Option, None, fold}
use Rattle.std.specs.List.{cons_option}
use Rattle.std.specs.Option.{option_map_or}
use Rattle.gi_llt.specs.declared.Llt.{Llt}
use Rattle.gi_mir.specs.Registers.{type_of_kind}
use Rattle.gi_mir.specs.declared.operand.Kind.{Kind}
use Rattle.gi_mir.specs.declared.operand.Operand.{Operand}
use Rattle.gi_registers.specs.Noted.{with_operand}
use Rattle.gi_spelling.specs.declared.written.Shown.{Shown}
use Rattle.gi_spelling.specs.declared.written.Source.{Source}
use Rattle.gi_spelling.specs.declared.written.Source.TheVariants as source
use Rattle.gi_spelling.specs.declared.written.Wrong.{Wrong}
use Rattle.gi_spelling.specs.Blocks.{has_type, shown_wrong}
use Rattle.gi_spelling.specs.Documents.{lower}

-- the kinds of registers, each at its first definition, the types that uses show, and what is wrong at the lowest line
pub record NotesData : Type 0 where
  pub kinds : List (ℕ × Kind)
  pub shown : List Shown
  pub lowest : Option Wrong

-- with the type that a use on a line shows
abbrev pub with_source : (line : ℕ) → List Shown → Source → List Shown
with_source line shown (source.TypedUse reg ty) = shown ++ record { line = line; reg = reg; ty = ty } ∷ []
with_source line shown other = shown

abbrev pub with_lowest : NotesData → Option Wrong → NotesData
with_lowest notes lowest = record notes { lowest = lowest }

-- with the kinds and types of an instruction
abbrev pub with_notes : NotesData → (line : ℕ) → List Source → List Operand → NotesData
with_notes notes line sources operands =
    record notes { kinds = fold with_operand notes.kinds operands; shown = fold (with_source line) notes.shown sources }

-- a type is that of a kind, unless that has none
abbrev pub has_kind : Option Kind → Llt → Bool
has_kind kind ty = has_type (option_map_or type_of_kind kind None) ty

-- what is wrong at the lowest line, where it is wrong to show a type that isn't the register's
abbrev pub with_shown : List (ℕ × Kind) → Option Wrong → Shown → Option Wrong
with_shown kinds lowest shown = fold lower lowest (cons_option (shown_wrong kinds shown) [])
