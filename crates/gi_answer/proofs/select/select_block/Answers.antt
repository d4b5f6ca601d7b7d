use Rattle.std.proofs.Common.{◌∙◌}
use Rattle.gi_mir.specs.Instrs.{left}
use Rattle.gi_answer.proofs.SelectLoops.{selected_by}
use Rattle.gi_answer.proofs.select.select_block.Goals as goal

pub returns : goal.returns
returns c =
    selected_by c.args.function.now c.requires (left c.instrs-instrs.result) _ c.in_ok-backwards.backwards.items c.in_ok-head_copy.field-0 _ _ _
    c.instrs-instrs.ensures c.in_ok-constants.ensures c.in_ok-backwards.ensures.selected
    (c.in_ok-head_copy.ensures ∙ c.block.ensures) c.in_ok-selected.ensures c.in_ok-add_block.ensures.ok c.in_ok-put_backwards.ensures
