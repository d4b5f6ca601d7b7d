use Rattle.std.proofs.Common.{◌≡◌, map, take}
use Rattle.gi_spelling.specs.Resolved.{block_place}
use Rattle.gi_mir_read.proofs.function.successors.stated_successors.Given as goal

-- those so far
abbrev pub invariant-loop-number : goal.invariant-loop-number
invariant-loop-number l = l.places.items ≡ map (block_place l.tables.blocks) (take l.number-index l.numbers)
