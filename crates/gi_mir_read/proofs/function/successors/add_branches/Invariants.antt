use Rattle.std.proofs.Common.{◌≡◌, drop}
use Rattle.std.specs.Prelude.{fold}
use Rattle.gi_mir_read.specs.Functions.Implied.{with_branch}
use Rattle.gi_mir_read.proofs.function.successors.add_branches.Given as goal

-- those that are left come behind those so far
abbrev pub invariant-loop-instr : goal.invariant-loop-instr
invariant-loop-instr l = fold with_branch l.places.keys (drop l.instr-index l.instrs) ≡ fold with_branch l.initial.places.keys l.instrs
