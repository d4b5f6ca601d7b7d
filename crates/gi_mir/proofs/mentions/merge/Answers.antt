-- What is left of one list follows where the other is at its end.
use Rattle.std.proofs.Common.{◌≤◌, ◌⊎◌, inl, inr, length, arith}
use Rattle.gi_mir.specs.Mentions.{stands_before}
use Rattle.gi_mir.proofs.Merging.{merged-end}
use Rattle.gi_mir.proofs.mentions.merge.Goals as goal
use Rattle.gi_mir.proofs.mentions.merge.Goals.{then-loop-at-test+else-at-ys, else-loop-at-test}

pub returns : goal.returns
returns c =
    let end : (length c.args.xs.now ≤ c.loop-at.at.left) ⊎ (length c.args.ys.now ≤ c.loop-at.at.right) = elim c.loop-at-test.branch [
      | then-loop-at-test+else-at-ys w ↦ inr (omega arith)
      | else-loop-at-test w ↦ inl (omega arith)
    ] in
    merged-end (stands_before c.args.places.now) c.args.xs.now c.args.ys.now c.loop-at.ids.items c.append.new.ids.items c.append-2.new.ids.items c.loop-at.at.left c.loop-at.at.right end c.in_ok-append.ensures c.in_ok-append-2.ensures c.loop-at.invariant.so_far
