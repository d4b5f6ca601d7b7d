use Rattle.std.proofs.Common.{take}
use Rattle.gi_rules.specs.Fitting.{IsTold, illegal_in_blocks}
use Rattle.gi_rules.proofs.fitting.first_illegal.Given as goal

abbrev pub invariant-loop-block : goal.invariant-loop-block
invariant-loop-block l = IsTold (illegal_in_blocks l.target.xlen l.stage l.function (take l.block l.function.blocks)) l.told
