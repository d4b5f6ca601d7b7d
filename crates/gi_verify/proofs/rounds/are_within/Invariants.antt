use Rattle.std.proofs.Common.{take}
use Rattle.gi_verify.specs.Rounds.{AreWithin}
use Rattle.gi_verify.proofs.rounds.are_within.Given as goal

abbrev pub invariant-loop-b : goal.invariant-loop-b
invariant-loop-b l = AreWithin l.starts (take l.b-index l.blocks) l.end
