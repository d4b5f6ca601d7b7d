use Rattle.std.proofs.Common.{◌++◌, [], codes, drop, sym, ap, ◌∙◌, arith}
use Rattle.gi_mir.specs.Numbering.{number_in}
use Rattle.gi_spelling.specs.Printed.{definition_pieces}
use Rattle.gi_mir_print.specs.Shown.{shown_operands}
use Rattle.gi_mir_print.proofs.ListSteps.{drop_end, text_end, on_ok_joined, on_ok_same}
use Rattle.gi_mir_print.proofs.OperandLemmas.{equals_some}
use Rattle.gi_mir_print.proofs.PieceLemmas.{led, defined_led}
use Rattle.gi_mir_print.proofs.instruction.push_definitions.Goals as goal

pub returns-else-is_empty : goal.returns-else-is_empty
returns-else-is_empty c =
    let cells = definition_pieces (shown_operands c.args.registers.now c.args.operands.now) in
    on_ok_same _ c.args.out.now.items _ _ _
    (sym (defined_led cells ∙ ap (λ bs. led [] cells ++ bs) (equals_some (number_in c.args.registers.now.order) c.args.operands.now (sym c.if-is_empty.ensures))))
    (on_ok_joined _ c.args.out.now.items (led [] cells) (codes " = ") c.loop-operand.out.items _
    (text_end c.loop-operand.out.items (led c.loop-operand.lead.now (definition_pieces (shown_operands c.args.registers.now (drop c.loop-operand.operand-index c.args.operands.now)))) _
    (ap (λ ys. led c.loop-operand.lead.now (definition_pieces (shown_operands c.args.registers.now ys))) (drop_end c.args.operands.now c.loop-operand.operand-index (omega arith)))
    c.loop-operand.invariant)
    c.push-else-is_empty.ensures)
