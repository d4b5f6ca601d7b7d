use Rattle.std.proofs.Common.{sym, ap, ap₂, ◌∙◌}
use Rattle.gi_llt.specs.Tokens.{piece_bytes}
use Rattle.gi_mir.specs.Numbering.{number_in}
use Rattle.gi_spelling.specs.Printed.{source_forms, sources_pieces, source_pieces}
use Rattle.gi_mir_print.specs.Shown.{kind_at, shown_operands}
use Rattle.gi_mir_print.proofs.ListSteps.{on_ok_same}
use Rattle.gi_mir_print.proofs.OperandLemmas.{sources_renamed}
use Rattle.gi_mir_print.proofs.instruction.push_all_sources.Goals as goal

pub returns : goal.returns
returns c =
    on_ok_same _ c.args.out.now.items _ _ _
    (ap₂ (λ fs os. piece_bytes (sources_pieces (source_pieces (kind_at c.args.registers.now) c.args.names.now fs os)))
    (c.source_forms-forms.ensures ∙ ap source_forms c.first_row.ensures)
    (ap (shown_operands c.args.registers.now) c.sources.ensures ∙ sym (sources_renamed (number_in c.args.registers.now.order) c.args.operands.now)))
    c.push_sources.ensures
