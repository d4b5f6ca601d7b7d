-- Files found by their names.
use Rattle.std.proofs.Common.{◌≡◌, ℕ, ◌<◌, List, [], length, drop, get_or, true, refl, Some, String, Vec, string_bytes}
use Rattle.std.proofs.Math.Seq.{drop-cons}
use Rattle.std.proofs.lemmas.Option.{slice_get-map, slice_get_read}
use Rattle.std.specs.Str.{bytes_eq}
use Rattle.std.specs.declared.alloc.Global.{Global}
use Rattle.gi_io.specs.Files.{files_of, bytes_under}
use Rattle.gi_io.specs.Opened.{opened_bytes}
use Rattle.gi_io.specs.declared.memory_source.Opened.TheVariants.{File as FileAt}

-- where no file before has the name, the file that has it gives the bytes
pub bytes_under_found : (pairs : List (String Global × Vec ℕ Global)) (k : ℕ) (pair : String Global × Vec ℕ Global) (name : List ℕ)
    → k < length pairs → pair ≡ get_or pairs k pair → bytes_eq (string_bytes pair.0) name ≡ true
    → bytes_under (files_of (drop k pairs)) name ≡ bytes_under (files_of pairs) name
    → bytes_under (files_of pairs) name ≡ Some (opened_bytes (FileAt k) (files_of pairs) [])
bytes_under_found pairs k pair name inside is_pair same so_far =
    rw (slice_get-map, slice_get_read pairs (length pairs) k pair refl inside is_pair)
    (rw (← so_far) (rw (drop-cons pairs k pair inside, ← is_pair) (rw same refl)))
