use Rattle.std.proofs.Common.{◌<◌, length, arith}
use Rattle.gi_verify.proofs.Roles.{seen_on}
use Rattle.gi_verify.proofs.seen.seen_in.Goals as goal

pub loop-operand-preserved : goal.loop-operand-preserved
loop-operand-preserved c =
    let within : c.loop-operand.operand-index < length c.args.operands.now = omega arith in
    seen_on c.args.round.now c.args.operands.now c.loop-operand.operand-index _ within c.loop-operand.seen c.with_operand-seen.result c.loop-operand.invariant c.with_operand-seen.ensures
