use Rattle.std.proofs.Common.{◌+◌, ◌≤◌, length, sym, subst, arith}
use Rattle.gi_verify.proofs.Marking.{IsPassBelow, pass_begins, pass_either, pass_ends}
use Rattle.gi_verify.proofs.reached.pass.Goals as goal

pub loop-a-init : goal.loop-a-init
loop-a-init c = pass_begins c.args.function.now c.args.marks.now.items

pub loop-a-preserved : goal.loop-a-preserved
loop-a-preserved c =
    subst (λ t. IsPassBelow c.args.function.now (c.loop-a.a + 1) c.args.marks.now.items c.mark_behind-found.new.marks.items t) (sym c.either-is_new.ensures)
    (pass_either c.args.function.now c.loop-a.a c.args.marks.now.items c.loop-a.marks.items c.mark_behind-found.new.marks.items c.loop-a.is_new c.mark_behind-found.result
    c.loop-a.invariant c.mark_behind-found.ensures.marked c.mark_behind-found.ensures.unmarked)

pub returns : goal.returns
returns c =
    let past : length c.args.function.now.blocks ≤ c.loop-a.a = omega arith in
    pass_ends c.args.function.now c.loop-a.a c.args.marks.now.items c.loop-a.marks.items c.loop-a.is_new c.requires past c.loop-a.invariant
