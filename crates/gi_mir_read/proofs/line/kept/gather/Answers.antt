use Rattle.std.proofs.Common.{◌≡◌, ◌<◌, length, drop, ◌∙◌, ap, arith}
use Rattle.gi_mir_read.specs.Lines.Turns.{turn_after}
use Rattle.gi_mir_read.proofs.Lines.KeptLemmas.{kept-moved, kept-passed}
use Rattle.gi_mir_read.proofs.line.kept.gather.Goals as goal
use Rattle.gi_mir_read.proofs.line.kept.gather.Goals.{then-turn, else-turn}

pub loop-place-preserved : goal.loop-place-preserved
loop-place-preserved c =
    let within : c.loop-place.place < length c.loop-place.items = omega arith in
    let turned : c.turn_after-turn.result ≡ turn_after c.loop-place.next (drop c.loop-place.place c.loop-place.items) =
    c.turn_after-turn.ensures ∙ ap (turn_after c.loop-place.next) c.from_place.ensures in
    elim c.if-turn.branch [
      | then-turn w ↦ record {
        behind = omega arith;
        kept = rw (w.items-is, w.count-is) (kept-moved c.loop-place.count c.loop-place.items c.loop-place.next c.turn_after-turn.result c.loop-place.place _ _
            within c.loop-place.invariant.behind turned w.if-turn.true c.loop-place.invariant.kept);
      }
      | else-turn w ↦ record {
        behind = omega arith;
        kept = rw (w.items-is, w.count-is) (kept-passed _ c.loop-place.next c.turn_after-turn.result c.loop-place.place c.loop-place.items _
            within turned w.if-turn.false c.loop-place.invariant.kept);
      }
    ]
