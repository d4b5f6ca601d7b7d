use Rattle.std.proofs.Common.{◌≡◌, drop}
use Rattle.gi_answer.specs.Unselected.{unselected_in}
use Rattle.gi_answer.proofs.unselected.unselected_in.Given as goal

abbrev pub invariant-loop-function : goal.invariant-loop-function
invariant-loop-function l = unselected_in l.functions ≡ unselected_in (drop l.function-index l.functions)
