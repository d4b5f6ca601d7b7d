use Rattle.std.proofs.Common.{◌++◌, drop, sym, ap, ◌∙◌, arith}
use Rattle.gi_spelling.specs.Printed.{source_pieces}
use Rattle.gi_mir_print.specs.Shown.{kind_at, shown_operands}
use Rattle.gi_mir_print.proofs.ListSteps.{drop_end, text_end}
use Rattle.gi_mir_print.proofs.PieceLemmas.{led, sources_led}
use Rattle.gi_mir_print.proofs.instruction.push_sources.Goals as goal

pub returns : goal.returns
returns c =
    text_end c.loop-operand.out.items
    (led c.loop-operand.lead.now (source_pieces (kind_at c.args.registers.now) c.args.names.now c.loop-operand.left.now (shown_operands c.args.registers.now (drop c.loop-operand.operand-index c.args.operands.now)))) _
    (ap (λ ys. led c.loop-operand.lead.now (source_pieces (kind_at c.args.registers.now) c.args.names.now c.loop-operand.left.now (shown_operands c.args.registers.now ys)))
    (drop_end c.args.operands.now c.loop-operand.operand-index (omega arith)))
    c.loop-operand.invariant
    ∙ ap (λ bs. c.args.out.now.items ++ bs) (sym (sources_led (source_pieces (kind_at c.args.registers.now) c.args.names.now c.args.forms.now (shown_operands c.args.registers.now c.args.operands.now))))
