use Rattle.std.proofs.Common.{◌+◌, ◌++◌, drop, map, sym, ap, ◌∙◌}
use Rattle.gi_mir.specs.Numbering.{numbered}
use Rattle.gi_spelling.specs.Printed.{printed_lines, functions_lines, text_of}
use Rattle.gi_mir_print.proofs.LineLemmas.{text_of_append}
use Rattle.gi_mir_print.proofs.ListSteps.{drop_element, text_step}
use Rattle.gi_mir_print.proofs.functions.push_functions.Goals as goal

pub loop-function-preserved : goal.loop-function-preserved
loop-function-preserved c =
    let names = c.args.names.now in
    let rest = map numbered (drop (c.loop-function.function-index + 1) c.args.functions.now) in
    text_step c.loop-function.out.items (text_of (printed_lines names (numbered c.function-item.result))) (text_of (functions_lines names rest)) _ _
    c.in_ok-push_function.ensures
    (ap (λ bs. c.loop-function.out.items ++ bs) (sym (text_of_append (printed_lines names (numbered c.function-item.result)) (functions_lines names rest)))
    ∙ ap (λ fs. c.loop-function.out.items ++ text_of (functions_lines names (map numbered fs)))
    (sym (drop_element c.args.functions.now c.loop-function.function-index c.function-item.result c.loop-function-test.true c.function-item.is))
    ∙ c.loop-function.invariant)
