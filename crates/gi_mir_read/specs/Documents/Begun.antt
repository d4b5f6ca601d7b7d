-- A function before its blocks.
use Rattle.std.specs.Prelude.{ℕ, fold}
use Rattle.gi_mir.specs.Data.{FunctionData}
use Rattle.gi_mir.specs.Edit.{empty_function, with_keys, with_stack}
use Rattle.gi_spelling.specs.Documents.{Document}

-- the function of this number with the keys of a document, and with its stack objects
abbrev pub keyed : (number : ℕ) → Document → FunctionData
keyed number document = with_keys (empty_function number) document.legalized document.banked document.selected

abbrev pub begun : (number : ℕ) → Document → FunctionData
begun number document = fold with_stack (keyed number document) document.objects
