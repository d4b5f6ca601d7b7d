use Rattle.std.proofs.Common.{◌≡◌, ◌+◌, ◌-◌, ◌≤◌, ◌++◌, length, drop}
use Rattle.gi_mir.specs.Mentions.{stands_before, merged}
use Rattle.gi_mir.proofs.mentions.merge.Given as goal

abbrev pub invariant-loop-at : goal.invariant-loop-at
invariant-loop-at l = record {
  left : l.at.left ≤ length l.xs;
  right : l.at.right ≤ length l.ys;
  so_far : l.ids.items ++ merged (stands_before l.places) (drop l.at.left l.xs) (drop l.at.right l.ys) ≡ merged (stands_before l.places) l.xs l.ys;
}

abbrev pub decreases-loop-at : goal.decreases-loop-at
decreases-loop-at l = (length l.xs + length l.ys) - (l.at.left + l.at.right)
