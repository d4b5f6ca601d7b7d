use Rattle.std.proofs.Common.{◌≤◌, ◌<◌, length, get_or, take, take_all, sym, subst, arith}
use Rattle.gi_verify.specs.Counted.{AreTallied}
use Rattle.gi_verify.proofs.Counting.{none_tallied, one_tallied}
use Rattle.gi_verify.proofs.Marking.{taken_next}
use Rattle.gi_verify.proofs.blocks.tally.Goals as goal

pub loop-b-init : goal.loop-b-init
loop-b-init c = none_tallied c.new-kept.result c.new-kept.ensures

pub loop-b-preserved : goal.loop-b-preserved
loop-b-preserved c =
    let within : c.loop-b.b-index < length c.args.list.now = omega arith in
    subst (λ l. AreTallied l c.count_one.new.self) (sym (taken_next c.args.list.now c.loop-b.b-index within))
    (one_tallied (take c.loop-b.b-index c.args.list.now) (get_or c.args.list.now c.loop-b.b-index 0) c.loop-b.kept c.count_one.new.self c.loop-b.invariant c.in_ok-count_one.ensures)

pub returns : goal.returns
returns c =
    let past : length c.args.list.now ≤ c.loop-b.b-index = omega arith in
    subst (λ l. AreTallied l c.loop-b.kept) (take_all c.loop-b.b-index c.args.list.now past) c.loop-b.invariant
