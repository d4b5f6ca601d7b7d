use Rattle.std.proofs.Common.{◌≡◌, ◌++◌, drop}
use Rattle.gi_mir.specs.Edit.{all_instrs}
use Rattle.gi_valid.specs.Faults.{definitions}
use Rattle.gi_verify.proofs.definitions.definitions.Given as goal

abbrev pub invariant-loop-b : goal.invariant-loop-b
invariant-loop-b l = l.all.items ++ definitions (all_instrs (drop l.b l.function.blocks)) ≡ definitions (all_instrs l.function.blocks)
