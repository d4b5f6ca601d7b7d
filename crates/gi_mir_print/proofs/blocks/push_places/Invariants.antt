use Rattle.std.proofs.Common.{◌≡◌, ◌++◌, codes, drop}
use Rattle.gi_spelling.specs.Printed.{block_pieces}
use Rattle.gi_mir_print.proofs.PieceLemmas.{led}
use Rattle.gi_mir_print.proofs.blocks.push_places.Given as goal

-- the text with what is left is the text with all
abbrev pub invariant-loop-place : goal.invariant-loop-place
invariant-loop-place l =
    l.out.items ++ led l.lead (block_pieces (drop l.place-index l.places)) ≡ l.fn.out.items ++ led (codes " ") (block_pieces l.places)
