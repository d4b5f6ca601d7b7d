use Rattle.std.proofs.Common.{◌≡◌, drop}
use Rattle.gi_mir.specs.Accepted.{types_at}
use Rattle.gi_mir.proofs.accepted.first_at.Given as goal

abbrev pub invariant-loop-place : goal.invariant-loop-place
invariant-loop-place l = types_at l.l (drop l.place l.letters) l.more (drop l.place l.types) ≡ types_at l.l l.letters l.more l.types
