use Rattle.std.proofs.Common.{◌<◌, length, arith}
use Rattle.gi_verify.proofs.Masking.{among_on}
use Rattle.gi_verify.proofs.physical.with_all.Goals as goal

pub loop-n-preserved : goal.loop-n-preserved
loop-n-preserved c =
    let within : c.loop-n.n-index < length c.args.registers.now = omega arith in
    among_on c.args.mask c.args.registers.now c.loop-n.n-index within c.loop-n.all c.with-all.result c.loop-n.invariant c.with-all.ensures
