-- A source in memory.
use Rattle.std.specs.Prelude.{ℕ, List, [], Bool, false, Option, Some, None, unwrap_or, is_none, ◌||◌}
use Rattle.gi_io.specs.Calls.{call_after, fault_after, is_made_to_fail}
use Rattle.gi_io.specs.Files.{File, bytes_under}

pub record MemorySource : Type 0 where
  pub files : List File
  pub standard : List ℕ
  pub fail : List ℕ
  pub calls : ℕ
  pub faults : ℕ
  pub left : List ℕ

-- the bytes under a name, and under none; empty where no file has the name
abbrev pub stored_in : MemorySource → Option (List ℕ) → List ℕ
stored_in source None = source.standard
stored_in source (Some name) = unwrap_or (bytes_under source.files name) []

-- no file has the name
abbrev pub is_unknown : MemorySource → Option (List ℕ) → Bool
is_unknown source None = false
is_unknown source (Some name) = is_none (bytes_under source.files name)

abbrev pub open_fails : MemorySource → Option (List ℕ) → Bool
open_fails source name = is_made_to_fail source.fail source.calls || is_unknown source name

-- after a call that failed
abbrev pub failed_source : MemorySource → MemorySource
failed_source source = record source { calls = call_after source.calls; faults = fault_after source.faults }

-- after a call that leaves these bytes
abbrev pub source_with : MemorySource → List ℕ → MemorySource
source_with source left = record source { calls = call_after source.calls; left = left }
