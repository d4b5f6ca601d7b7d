use Rattle.std.proofs.Common.{◌≡◌, drop}
use Rattle.std.specs.Prelude.{fold}
use Rattle.gi_mir_read.specs.Functions.Implied.{with_target}
use Rattle.gi_mir_read.proofs.function.successors.add_targets.Given as goal

-- those that are left come behind those so far
abbrev pub invariant-loop-operand : goal.invariant-loop-operand
invariant-loop-operand l = fold with_target l.places.keys (drop l.operand-index l.operands) ≡ fold with_target l.initial.places.keys l.operands
