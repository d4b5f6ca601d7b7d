use Rattle.std.proofs.Common.{◌≡◌, ◌≤◌, drop, length}
use Rattle.gi_mir.specs.Formed.{fits, with_wanted}
use Rattle.gi_mir.proofs.formed.fits.Given as goal

abbrev pub invariant-loop-x : goal.invariant-loop-x
invariant-loop-x l =
    (l.at ≤ length l.forms)
    × (fits (with_wanted l.wanted (drop l.at l.forms)) (drop l.x-index l.operands) ≡ fits l.forms l.operands)
