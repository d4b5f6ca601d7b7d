use Rattle.std.proofs.Common.{◌≡◌, ◌+◌, ◌≤◌, drop, length}
use Rattle.gi_spelling.specs.Printed.{definitions_of, sources_of}
use Rattle.gi_mir_read.proofs.sizes.definition_count.Given as goal

-- only definitions stand before here
abbrev pub invariant-loop-place : goal.invariant-loop-place
invariant-loop-place l = record {
  within : l.place ≤ length l.operands;
  definitions : length (definitions_of l.operands) ≡ l.place + length (definitions_of (drop l.place l.operands));
  sources : sources_of l.operands ≡ sources_of (drop l.place l.operands);
}
