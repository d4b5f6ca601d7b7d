use Rattle.std.proofs.Common.{◌+◌, drop, sym, subst, arith}
use Rattle.std.proofs.lemmas.List.{drop_all}
use Rattle.gi_valid.specs.Typing.{phase_of}
use Rattle.gi_answer.proofs.LowestFaults.{IsSoFar, at_end, at_start, one_more}
use Rattle.gi_answer.proofs.validity.lowest_fault.Goals as goal

pub loop-function-init : goal.loop-function-init
loop-function-init c = at_start c.args.target.xlen (phase_of c.args.stage) c.args.functions.now

pub loop-function-preserved : goal.loop-function-preserved
loop-function-preserved c =
    subst (λ so_far. IsSoFar c.args.target.xlen (phase_of c.args.stage) c.args.functions.now (drop (c.loop-function.function-index + 1) c.args.functions.now) so_far) (sym c.of_lower_line-lowest.ensures)
    (one_more c.args.target.xlen (phase_of c.args.stage) c.args.functions.now c.loop-function.function-index c.function-item.result c.loop-function.lowest _ c.loop-function-test.true c.function-item.is
    c.in_ok-told.ensures c.loop-function.invariant)

pub returns : goal.returns
returns c =
    at_end c.args.target.xlen (phase_of c.args.stage) c.args.functions.now (drop c.loop-function.function-index c.args.functions.now) c.loop-function.lowest
    (drop_all c.loop-function.function-index c.args.functions.now (omega (arith, c.loop-function-test.false))) c.loop-function.invariant
