use Rattle.std.proofs.Common.{◌≡◌, ◌++◌, drop, map}
use Rattle.gi_valid.specs.Typing.{type_in, phase_of}
use Rattle.gi_verify.proofs.registers.types_of.Given as goal

abbrev pub invariant-loop-r : goal.invariant-loop-r
invariant-loop-r l = l.types.items ++ map (type_in (phase_of l.stage) l.function) (drop l.r-index l.registers) ≡ map (type_in (phase_of l.stage) l.function) l.registers
