use Rattle.std.proofs.Common.{◌||◌, ◌+◌, ◌<◌, length, get_or, take, sym, subst, arith}
use Rattle.gi_verify.specs.Sets.{IsMarkedMore}
use Rattle.gi_verify.proofs.Marking.{marked_then, taken_next}
use Rattle.gi_verify.proofs.reached.mark_successors.Goals as goal

pub loop-b-preserved : goal.loop-b-preserved
loop-b-preserved c =
    let within : c.loop-b.b-index < length c.args.successors.now = omega arith in
    subst (λ t. IsMarkedMore (take (c.loop-b.b-index + 1) c.args.successors.now) c.args.marks.now.items c.mark-found.new.marks.items t) (sym c.either-is_new.ensures)
    (subst (λ l. IsMarkedMore l c.args.marks.now.items c.mark-found.new.marks.items (c.mark-found.result || c.loop-b.is_new)) (sym (taken_next c.args.successors.now c.loop-b.b-index within))
    (marked_then (take c.loop-b.b-index c.args.successors.now) (get_or c.args.successors.now c.loop-b.b-index 0) c.args.marks.now.items c.loop-b.marks.items c.mark-found.new.marks.items c.loop-b.is_new c.mark-found.result
    c.loop-b.invariant c.mark-found.ensures))
