-- Files in memory.
use Rattle.std.specs.Prelude.{ℕ, List, [], ◌∷◌, if◌then◌else◌, Option, Some, None, map, Vec, String, string_bytes}
use Rattle.std.specs.Str.{bytes_eq}
use Rattle.std.specs.declared.alloc.Global.{Global}

-- a name and the bytes under it
pub record File : Type 0 where
  pub name : List ℕ
  pub bytes : List ℕ

-- a pair of a program as a file
abbrev pub file_of : (String Global × Vec ℕ Global) → File
file_of pair = record { name = string_bytes pair.0; bytes = pair.1.items }

abbrev pub files_of : List (String Global × Vec ℕ Global) → List File
files_of pairs = map file_of pairs

-- the bytes of the first file of the name
abbrev pub bytes_under : List File → List ℕ → Option (List ℕ)
bytes_under [] name = None
bytes_under (file ∷ files) name = if bytes_eq file.name name then Some file.bytes else bytes_under files name
