use Rattle.std.proofs.Common.{◌≤◌, length, arith}
use Rattle.gi_verify.proofs.Covering.{in_block}
use Rattle.gi_verify.proofs.Using.{shrunk_then, sure_all, sure_below_on}
use Rattle.gi_verify.proofs.sure.look_through.Goals as goal

pub loop-b-preserved : goal.loop-b-preserved
loop-b-preserved c = (
  sure_below_on c.args.function.now c.args.round.now c.loop-b.b c.loop-b.fine.items c.look_in.new.fine.items c.loop-b.invariant.0 c.look_in.ensures.shrunk c.look_in.ensures.sure,
  shrunk_then c.args.fine.now.items c.loop-b.fine.items c.look_in.new.fine.items c.loop-b.invariant.1 c.look_in.ensures.shrunk,
)

pub returns-clause-sure : goal.returns-clause-sure
returns-clause-sure c =
    let past : length c.args.function.now.blocks ≤ c.loop-b.b = omega arith in
    sure_all c.args.function.now c.args.round.now c.loop-b.b c.loop-b.fine.items past (in_block c.args.function.now) c.loop-b.invariant.0
