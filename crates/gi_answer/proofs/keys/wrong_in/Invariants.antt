use Rattle.std.proofs.Common.{◌≡◌, drop}
use Rattle.gi_answer.specs.Keys.{wrong_in, wrong_among}
use Rattle.gi_answer.proofs.keys.wrong_in.Given as goal

abbrev pub invariant-loop-function : goal.invariant-loop-function
invariant-loop-function l = wrong_among l.m.names l.keys (drop l.function-index l.function-items) ≡ wrong_in l.fn.start l.fn.m
