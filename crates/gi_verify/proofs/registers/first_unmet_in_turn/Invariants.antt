use Rattle.std.proofs.Common.{◌≡◌, ℕ, Option, [], drop, take, map}
use Rattle.gi_llt.specs.declared.Llt.{Llt}
use Rattle.gi_valid.specs.Typing.{first_unmet}
use Rattle.gi_verify.proofs.registers.first_unmet_in_turn.Given as goal

abbrev pub invariant-loop-k : goal.invariant-loop-k
invariant-loop-k l = (type_of : ℕ → Option Llt) → l.types ≡ map type_of l.registers → first_unmet l.x type_of l.typing l.results (take l.k l.registers) (drop l.k l.registers) ≡ first_unmet l.x type_of l.typing l.results [] l.registers
