use Rattle.std.proofs.Common.{drop}
use Rattle.gi_valid.specs.Typing.{phase_of}
use Rattle.gi_answer.proofs.LowestFaults.{IsSoFar}
use Rattle.gi_answer.proofs.validity.lowest_fault.Given as goal

abbrev pub invariant-loop-function : goal.invariant-loop-function
invariant-loop-function l = IsSoFar l.target.xlen (phase_of l.stage) l.functions (drop l.function-index l.functions) l.lowest
