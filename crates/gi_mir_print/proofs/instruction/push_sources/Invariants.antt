use Rattle.std.proofs.Common.{◌≡◌, ◌++◌, codes, drop}
use Rattle.gi_spelling.specs.Printed.{source_pieces}
use Rattle.gi_mir_print.specs.Shown.{kind_at, shown_operands}
use Rattle.gi_mir_print.proofs.PieceLemmas.{led}
use Rattle.gi_mir_print.proofs.instruction.push_sources.Given as goal

-- the text with what is left is the text with all
abbrev pub invariant-loop-operand : goal.invariant-loop-operand
invariant-loop-operand l =
    l.out.items ++ led l.lead (source_pieces (kind_at l.registers) l.names l.left (shown_operands l.registers (drop l.operand-index l.operands)))
    ≡ l.fn.out.items ++ led (codes " ") (source_pieces (kind_at l.registers) l.names l.forms (shown_operands l.registers l.operands))
