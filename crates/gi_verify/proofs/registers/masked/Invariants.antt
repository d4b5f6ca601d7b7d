use Rattle.std.proofs.Common.{◌≡◌, take}
use Rattle.gi_verify.proofs.registers.masked.Given as goal

abbrev pub invariant-loop-ty : goal.invariant-loop-ty
invariant-loop-ty l = l.known.items ≡ take l.ty-index l.types
