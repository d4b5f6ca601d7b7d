use Rattle.gi_verify.proofs.Marking.{all_reached, passes_end}
use Rattle.gi_verify.proofs.reached.reached.Goals as goal

pub loop-is_new-smaller : goal.loop-is_new-smaller
loop-is_new-smaller c = passes_end c.args.function.now c.loop-is_new.marks.items c.pass-is_new.new.marks.items c.pass-is_new.result c.loop-is_new.is_new c.loop-is_new-test.true c.loop-is_new.invariant.0 c.pass-is_new.ensures

pub returns : goal.returns
returns c =
    all_reached c.args.function.now c.loop-is_new.marks.items c.loop-is_new.invariant.0 c.loop-is_new.invariant.1 c.loop-is_new.invariant.2 (c.loop-is_new.invariant.3 c.loop-is_new-test.false)
