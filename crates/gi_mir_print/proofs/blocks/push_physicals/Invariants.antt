use Rattle.std.proofs.Common.{◌≡◌, ◌++◌, codes, drop}
use Rattle.gi_spelling.specs.Printed.{physical_pieces}
use Rattle.gi_mir_print.proofs.PieceLemmas.{led}
use Rattle.gi_mir_print.proofs.blocks.push_physicals.Given as goal

-- the text with what is left is the text with all
abbrev pub invariant-loop-number : goal.invariant-loop-number
invariant-loop-number l =
    l.out.items ++ led l.lead (physical_pieces (drop l.number-index l.numbers)) ≡ l.fn.out.items ++ led (codes " ") (physical_pieces l.numbers)
