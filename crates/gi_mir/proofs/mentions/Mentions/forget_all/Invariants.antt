use Rattle.std.proofs.Common.{take}
use Rattle.gi_mir.specs.Mentions.{IsForgotten}
use Rattle.gi_mir.proofs.mentions.Mentions.forget_all.Given as goal

abbrev pub invariant-loop-x : goal.invariant-loop-x
invariant-loop-x l = IsForgotten l.initial.self l.self (take l.x-index l.operands) l.id
