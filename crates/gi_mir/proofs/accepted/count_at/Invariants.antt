use Rattle.std.proofs.Common.{◌≡◌, ◌≤◌, ◌+◌, drop, length}
use Rattle.gi_mir.specs.Accepted.{types_at}
use Rattle.gi_mir.proofs.accepted.count_at.Given as goal

abbrev pub invariant-loop-place : goal.invariant-loop-place
invariant-loop-place l =
    (l.count ≤ l.place) × (l.count + length (types_at l.l (drop l.place l.letters) l.more (drop l.place l.types)) ≡ length (types_at l.l l.letters l.more l.types))
