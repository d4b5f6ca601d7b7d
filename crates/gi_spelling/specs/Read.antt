-- What reading a text answers: the module that it spells, with the lines, ids and next numbers that reading gives; or
-- the first line that spells nothing.
use Rattle.std.specs.Prelude.{◌≡◌, ◌<◌, ⊤, ℕ, List, length, Option, Some, None, map, option_map}
use Rattle.gi_mir.specs.Names.{name_at}
use Rattle.std.specs.List.{AllZip}
use Rattle.gi_text.specs.declared.token.TextError.{TextError}
use Rattle.gi_text.specs.declared.token.TextError.TheVariants as error
use Rattle.gi_mir.specs.Data.{FunctionData, ModuleData}
use Rattle.gi_spelling.specs.declared.written.Fault.TheVariants as fault
use Rattle.gi_spelling.specs.Lines.{Line, Section, parts_of_text}
use Rattle.gi_spelling.specs.declared.written.Wrong.{Wrong}
use Rattle.gi_spelling.specs.Blocks.{wrong}
use Rattle.gi_spelling.specs.Documents.{Document, entries_of, read_document, function_of, wrong_in}
use Rattle.gi_spelling.specs.Named.{IsNamedFunction}

pub record IsReadAs (text : List ℕ) (names : List (List ℕ)) (document : Document) (f : FunctionData) : Type 0 where
  pub within : f.name < length names
  pub name : name_at names f.name ≡ document.name
  pub same : IsNamedFunction text names (function_of text document) f

abbrev pub IsReadFunction : (text : List ℕ) (names : List (List ℕ)) → Section → FunctionData → Type 0
IsReadFunction text names section f = IsReadAs text names (read_document text (entries_of section)) f

abbrev pub bytes_of_line : Line → List ℕ
bytes_of_line line = line.bytes

pub record IsReadModule (text : List ℕ) (m : ModuleData) : Type 0 where
  pub right : wrong_in text ≡ None
  pub ir : m.ir ≡ option_map (map bytes_of_line) (parts_of_text text).ir
  pub functions : AllZip (IsReadFunction text m.names) (parts_of_text text).documents m.functions

-- the refusal tells the first line that spells nothing, and why
abbrev pub IsRefusal : Option Wrong → TextError → Type 0
IsRefusal found (error.Syntax line) = found ≡ Some (wrong line fault.Syntax)
IsRefusal found (error.Unknown line start end) = found ≡ Some (wrong line (fault.Unknown start end))
IsRefusal found error.Memory = ⊤
