use Rattle.std.proofs.Common.{◌≡◌, ◌++◌, [], drop}
use Rattle.gi_spelling.specs.Printed.{definition_pieces}
use Rattle.gi_mir_print.specs.Shown.{shown_operands}
use Rattle.gi_mir_print.proofs.PieceLemmas.{led}
use Rattle.gi_mir_print.proofs.instruction.push_definitions.Given as goal

-- the text with what is left is the text with all
abbrev pub invariant-loop-operand : goal.invariant-loop-operand
invariant-loop-operand l =
    l.out.items ++ led l.lead (definition_pieces (shown_operands l.registers (drop l.operand-index l.operands)))
    ≡ l.fn.out.items ++ led [] (definition_pieces (shown_operands l.registers l.operands))
