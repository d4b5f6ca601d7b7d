use Rattle.std.proofs.Common.{◌≡◌, ◌++◌, drop}
use Rattle.gi_valid.specs.Typing.{known}
use Rattle.gi_verify.proofs.typing.known.Given as goal

-- what is put with what is left is all
abbrev pub invariant-loop-ty : goal.invariant-loop-ty
invariant-loop-ty l = l.known.items ++ known (drop l.ty-index l.types) ≡ known l.types
