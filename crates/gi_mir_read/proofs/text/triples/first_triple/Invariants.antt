use Rattle.std.proofs.Common.{◌≡◌, drop, map, string_bytes}
use Rattle.gi_mir_read.specs.Triples.{triple_from}
use Rattle.gi_mir_read.proofs.text.triples.first_triple.Given as goal

-- no line so far tells the triple
abbrev pub invariant-loop-place : goal.invariant-loop-place
invariant-loop-place l = triple_from 0 (map string_bytes l.fn.lines) ≡ triple_from l.place (map string_bytes (drop l.place l.fn.lines))
