use Rattle.gi_mir.specs.Instrs.{left}
use Rattle.std.proofs.Common.{◌≡◌, ◌++◌, ℕ, List, OnOk, sym, ap, ap₂, ◌∙◌, subst}
use Rattle.gi_mir.specs.Data.{BlockData}
use Rattle.gi_mir.specs.Edit.{HeadData}
use Rattle.gi_mir.specs.Numbering.{number_in}
use Rattle.gi_spelling.specs.Printed.{block_lines, text_of, states_successors}
use Rattle.gi_mir_print.specs.Shown.{kind_at, shown_instrs}
use Rattle.gi_mir_print.proofs.LineLemmas.{block_bytes, implied_renamed}
use Rattle.gi_mir_print.proofs.ListSteps.{on_ok_joined, on_ok_same}
use Rattle.gi_mir_print.proofs.blocks.push_block_lines.Goals as goal

pub returns : goal.returns
returns c =
    let kinds = kind_at c.args.registers.now in
    let seen : HeadData → BlockData = λ h. record { successors = h.successors; liveins = h.liveins; instrs = shown_instrs c.args.registers.now (left c.args.instrs) } in
    let head : List ℕ → List ℕ → HeadData = λ s v. record { successors = s; liveins = v } in
    let P : HeadData → Type 0 = λ h. OnOk c.push_lines.result (c.push_lines.new.out.items ≡ c.args.out.now.items ++ text_of (block_lines kinds c.args.names.now c.args.place c.args.count (seen h))) in
    subst P (ap₂ head c.as_slice-successors.ensures.value c.as_slice-liveins.ensures.value ∙ c.block.view_is)
    (on_ok_same _ c.args.out.now.items _ _ _
    (block_bytes kinds c.args.names.now c.args.place c.args.count c.states_successors-is_stated.result (seen (head c.as_slice-successors.result.now c.as_slice-liveins.result.now))
    (c.states_successors-is_stated.ensures
    ∙ ap (states_successors c.as_slice-successors.result.now) (sym (implied_renamed (number_in c.args.registers.now.order) c.args.place c.args.count (left c.args.instrs)))))
    (on_ok_joined _ c.args.out.now.items _ _ c.push_head.new.out.items _ c.in_ok-push_head.ensures
    (on_ok_joined _ c.push_head.new.out.items _ _ c.push_notes.new.out.items _ c.in_ok-push_notes.ensures c.push_lines.ensures)))
