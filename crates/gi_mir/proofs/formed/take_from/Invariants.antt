use Rattle.std.proofs.Common.{◌≡◌, drop}
use Rattle.gi_mir.specs.Formed.{taken}
use Rattle.gi_mir.proofs.formed.take_from.Given as goal

abbrev pub invariant-loop-i : goal.invariant-loop-i
invariant-loop-i l = taken l.x (drop l.i l.forms) ≡ taken l.x (drop l.at l.forms)
