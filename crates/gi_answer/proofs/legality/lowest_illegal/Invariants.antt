use Rattle.std.proofs.Common.{take}
use Rattle.gi_rules.specs.Fitting.{IsTold}
use Rattle.gi_answer.specs.Legality.{illegal_among}
use Rattle.gi_answer.proofs.legality.lowest_illegal.Given as goal

abbrev pub invariant-loop-function : goal.invariant-loop-function
invariant-loop-function l = IsTold (illegal_among l.target.xlen l.stage (take l.function-index l.functions)) l.told
