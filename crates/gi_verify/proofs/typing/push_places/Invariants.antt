use Rattle.std.proofs.Common.{◌≡◌, ◌++◌, drop}
use Rattle.gi_valid.specs.Typing.{places_with}
use Rattle.gi_verify.proofs.typing.push_places.Given as goal

-- what is put with what is left is all
abbrev pub invariant-loop-place : goal.invariant-loop-place
invariant-loop-place l = l.out.items ++ places_with l.l (drop l.place l.letters) l.more (drop l.place l.types) ≡ l.fn.out.items ++ places_with l.l l.letters l.more l.types
