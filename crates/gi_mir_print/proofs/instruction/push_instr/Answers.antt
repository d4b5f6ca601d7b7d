use Rattle.std.proofs.Common.{◌≡◌, ◌++◌, List, OnOk, ap, ◌∙◌, subst}
use Rattle.gi_llt.specs.Tokens.{piece_bytes}
use Rattle.gi_mir.specs.Data.{InstrData}
use Rattle.gi_spelling.specs.Printed.{instr_pieces}
use Rattle.gi_mir.specs.declared.operand.Operand.{Operand}
use Rattle.gi_mir_print.specs.Shown.{kind_at, shown_instr}
use Rattle.gi_mir_print.proofs.ListSteps.{on_ok_joined, on_ok_same}
use Rattle.gi_mir_print.proofs.OperandLemmas.{instr_bytes}
use Rattle.gi_mir_print.proofs.instruction.push_instr.Goals as goal

pub returns : goal.returns
returns c =
    let out = c.args.out.now.items in
    let one = c.push_all_definitions.new.out.items in
    let two = c.push_flags.new.out.items in
    let three = c.push.new.out.items in
    let four = c.push_all_sources.new.out.items in
    let seen : List Operand → InstrData = λ operands. record { op = c.instr.inside.op; flags = c.instr.inside.flags; operands = operands; mem = c.instr.inside.mem; line = c.instr.inside.line } in
    let P : InstrData → Type 0 = λ i. OnOk c.push_memory.result (c.push_memory.new.out.items ≡ out ++ piece_bytes (instr_pieces (kind_at c.args.registers.now) c.args.names.now (shown_instr c.args.registers.now i))) in
    subst P (ap seen c.as_slice-operands.ensures ∙ c.instr.view_is)
    (on_ok_same _ out _ _ _ (instr_bytes (kind_at c.args.registers.now) c.args.names.now (shown_instr c.args.registers.now (seen c.as_slice-operands.result.now)))
    (on_ok_joined _ out _ _ one _ c.in_ok-push_all_definitions.ensures
    (on_ok_joined _ one _ _ two _ c.in_ok-push_flags.ensures
    (on_ok_joined _ two _ _ three _ (c.in_ok-push.ensures ∙ ap (λ bs. two ++ bs) (c.as_bytes.ensures.value ∙ c.word.ensures))
    (on_ok_joined _ three _ _ four _ c.in_ok-push_all_sources.ensures c.push_memory.ensures)))))
