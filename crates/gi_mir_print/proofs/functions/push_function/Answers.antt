use Rattle.gi_mir_print.proofs.FunctionLemmas.{function_text}
use Rattle.gi_mir_print.proofs.ListSteps.{on_ok_same}
use Rattle.gi_mir_print.proofs.functions.push_function.Goals as goal

pub returns : goal.returns
returns c =
    on_ok_same _ c.args.out.now.items _ _ _
    (function_text c.in_ok-registers.registers c.args.names.now c.args.function.now c.in_ok-registers.ensures.order c.in_ok-registers.ensures.kinds)
    c.push_shown.ensures
