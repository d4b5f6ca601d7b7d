use Rattle.std.proofs.Common.{◌++◌, ap, ◌∙◌}
use Rattle.gi_spelling.specs.Printed.{stack_lines, text_of}
use Rattle.gi_mir_print.proofs.ListSteps.{on_ok_joined}
use Rattle.gi_mir_print.proofs.functions.push_shown.Goals as goal

pub returns : goal.returns
returns c =
    let one = c.push_begin.new.out.items in
    let two = c.push_stack.new.out.items in
    let three = c.push.new.out.items in
    on_ok_joined _ c.args.out.now.items _ _ one _ c.in_ok-push_begin.ensures
    (on_ok_joined _ one _ _ two _ (c.in_ok-push_stack.ensures ∙ ap (λ objects. one ++ text_of (stack_lines objects)) c.stack.ensures)
    (on_ok_joined _ two _ _ three _ c.in_ok-push.ensures
    (on_ok_joined _ three _ _ c.push_blocks.new.out.items _ c.in_ok-push_blocks.ensures c.push-2.ensures)))
