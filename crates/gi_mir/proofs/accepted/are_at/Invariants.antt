use Rattle.std.proofs.Common.{◌≡◌, drop}
use Rattle.std.specs.List.{list_all}
use Rattle.gi_mir.specs.Accepted.{types_at}
use Rattle.gi_mir.specs.Types.{same_type}
use Rattle.gi_mir.proofs.accepted.are_at.Given as goal

abbrev pub invariant-loop-place : goal.invariant-loop-place
invariant-loop-place l =
    list_all (λ other. same_type l.ty other) (types_at l.l (drop l.place l.letters) l.more (drop l.place l.types))
    ≡ list_all (λ other. same_type l.ty other) (types_at l.l l.letters l.more l.types)
