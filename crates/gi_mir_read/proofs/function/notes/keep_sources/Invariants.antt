use Rattle.std.proofs.Common.{◌≡◌, drop}
use Rattle.std.specs.Prelude.{fold}
use Rattle.gi_mir_read.specs.Functions.Noted.{with_source}
use Rattle.gi_mir_read.proofs.function.notes.keep_sources.Given as goal

-- those of what is left are to be kept behind those so far
abbrev pub invariant-loop-source : goal.invariant-loop-source
invariant-loop-source l = fold (with_source l.line) l.shown.items (drop l.source-index l.sources) ≡ fold (with_source l.line) l.initial.shown.items l.sources
