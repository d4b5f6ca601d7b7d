-- What was opened last.
use Rattle.std.specs.Prelude.{ℕ, List, [], slice_get}
use Rattle.std.specs.Option.{option_map_or}
use Rattle.gi_io.specs.Files.{File}
use Rattle.gi_io.specs.declared.memory_source.Opened.{Opened}
use Rattle.gi_io.specs.declared.memory_source.Opened.TheVariants.{Nothing, Standard, File as FileAt}

-- all its bytes
abbrev pub opened_bytes : Opened → List File → List ℕ → List ℕ
opened_bytes Nothing files standard = []
opened_bytes Standard files standard = standard
opened_bytes (FileAt k) files standard = option_map_or (λ file. file.bytes) (slice_get files k) []
