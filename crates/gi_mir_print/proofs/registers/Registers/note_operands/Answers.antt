use Rattle.std.proofs.Common.{arith}
use Rattle.gi_mir_print.proofs.ListSteps.{drop_step, drop_end}
use Rattle.gi_mir_print.proofs.NoteLemmas.{noted_operand, noted_operands_end}
use Rattle.gi_mir_print.proofs.registers.Registers.note_operands.Goals as goal

pub loop-operand-preserved : goal.loop-operand-preserved
loop-operand-preserved c = λ e rest.
    c.loop-operand.invariant e
    (noted_operand _ _ _ _ _ _ (drop_step c.args.operands.now c.loop-operand.operand-index _ c.loop-operand-test.true) c.in_ok-note_operand.ensures rest)

pub returns : goal.returns
returns c =
    c.loop-operand.invariant _
    (noted_operands_end _ _ (drop_end c.args.operands.now c.loop-operand.operand-index (omega arith)))
