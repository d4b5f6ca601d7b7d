use Rattle.std.proofs.Common.{take}
use Rattle.gi_spelling.specs.Named.{Extends}
use Rattle.gi_spelling.specs.Resolved.{each, resolved_source}
use Rattle.gi_resolve.specs.Meant.{AreMeant}
use Rattle.gi_resolve.proofs.resolve.with_sources.Given as goal

-- the operands so far, while the names grow
abbrev pub invariant-loop-written : goal.invariant-loop-written
invariant-loop-written l = record {
  meant : AreMeant l.bytes l.names (each (resolved_source l.tables) (take l.written-index l.sources)) l.fn.operands.items l.operands.items;
  grown : Extends l.fn.names l.names;
}
