use Rattle.std.proofs.Common.{◌≤◌, ◌<◌, length, arith}
use Rattle.gi_verify.proofs.Naming.{named_all, named_on, named_up_to_none}
use Rattle.gi_verify.proofs.predecessors.Predecessors.name_all.Goals as goal

pub loop-b-init : goal.loop-b-init
loop-b-init c = named_up_to_none c.args.self.now c.args.a c.args.successors.now c.new-front.result c.new-front.ensures

pub loop-b-preserved : goal.loop-b-preserved
loop-b-preserved c =
    let within : c.loop-b.b-index < length c.args.successors.now = omega arith in
    named_on c.args.self.now c.loop-b.self c.name_one.new.self c.args.a c.args.successors.now c.loop-b.b-index c.loop-b.front c.name_one.new.front within c.loop-b.invariant c.in_ok-name_one.ensures

pub returns : goal.returns
returns c =
    let past : length c.args.successors.now ≤ c.loop-b.b-index = omega arith in
    named_all c.args.self.now c.loop-b.self c.args.a c.args.successors.now c.loop-b.b-index c.loop-b.front past c.loop-b.invariant
