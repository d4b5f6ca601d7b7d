use Rattle.std.proofs.Common.{take, ◌+◌, sym, subst}
use Rattle.gi_rules.specs.Fitting.{IsTold}
use Rattle.gi_answer.specs.Legality.{illegal_among}
use Rattle.gi_answer.proofs.IllegalLines.{one_function_more}
use Rattle.gi_answer.proofs.legality.lowest_illegal.Goals as goal

pub loop-function-preserved : goal.loop-function-preserved
loop-function-preserved c =
    subst (λ told. IsTold (illegal_among c.args.target.xlen c.args.stage (take (c.loop-function.function-index + 1) c.args.functions.now)) told) (sym c.of_lower_line-told.ensures)
    (one_function_more c.args.target.xlen c.args.stage c.args.functions.now c.loop-function.function-index c.function-item.result c.loop-function.told c.first_illegal.result c.loop-function-test.true c.function-item.is
    c.first_illegal.ensures.some c.first_illegal.ensures.none c.loop-function.invariant)
