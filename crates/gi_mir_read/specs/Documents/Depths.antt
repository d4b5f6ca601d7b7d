-- How deep in brackets an entry is passed over.
use Rattle.std.specs.Prelude.{ℕ}
use Rattle.gi_spelling.specs.declared.written.EntryState.{EntryState}
use Rattle.gi_spelling.specs.declared.written.EntryState.TheVariants as state

abbrev pub depth_of : EntryState → ℕ
depth_of (state.Passing depth) = depth
depth_of s = 0
