use Rattle.std.proofs.Common.{take}
use Rattle.gi_mir.specs.Mentions.{IsNoted, precedes}
use Rattle.gi_mir.proofs.mentions.Mentions.note_all.Given as goal

abbrev pub invariant-loop-x : goal.invariant-loop-x
invariant-loop-x l = IsNoted l.initial.self l.self (precedes l.places l.spot) (take l.x-index l.operands) l.id
