use Rattle.std.proofs.Common.{sym, ap, ◌∙◌}
use Rattle.gi_llt.specs.Tokens.{piece_bytes}
use Rattle.gi_mir.specs.Numbering.{number_in}
use Rattle.gi_spelling.specs.Printed.{defined_pieces, definition_pieces}
use Rattle.gi_mir_print.specs.Shown.{shown_operands}
use Rattle.gi_mir_print.proofs.ListSteps.{on_ok_same}
use Rattle.gi_mir_print.proofs.OperandLemmas.{definitions_renamed}
use Rattle.gi_mir_print.proofs.instruction.push_all_definitions.Goals as goal

pub returns : goal.returns
returns c =
    on_ok_same _ c.args.out.now.items _ _ _
    (ap (λ os. piece_bytes (defined_pieces (definition_pieces os)))
    (ap (shown_operands c.args.registers.now) c.definitions.ensures.value ∙ sym (definitions_renamed (number_in c.args.registers.now.order) c.args.operands.now)))
    c.push_definitions.ensures
