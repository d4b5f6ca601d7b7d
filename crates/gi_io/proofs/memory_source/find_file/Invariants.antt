use Rattle.std.proofs.Common.{◌≡◌, drop}
use Rattle.gi_io.specs.Files.{bytes_under, files_of}
use Rattle.gi_io.proofs.memory_source.find_file.Given as goal

-- no file so far has the name
abbrev pub invariant-loop-k : goal.invariant-loop-k
invariant-loop-k l = bytes_under (files_of (drop l.k l.files)) l.name ≡ bytes_under (files_of l.files) l.name
