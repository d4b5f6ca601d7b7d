use Rattle.std.proofs.Common.{add-one}
use Rattle.gi_mir.specs.Uses.{operand_replaced}
use Rattle.gi_mir.proofs.Lists.{map-step}
use Rattle.gi_mir.proofs.instr.replace_among.Goals as goal

pub loop-x-preserved : goal.loop-x-preserved
loop-x-preserved c =
    rw (c.with_reg_replaced.ensures, c.loop-x.invariant, add-one) (map-step (operand_replaced c.args.old.0 c.args.new.0) c.args.operands.now c.loop-x.x-index _ c.loop-x-test.true)
