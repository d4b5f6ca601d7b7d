use Rattle.std.proofs.Common.{◌≡◌, ◌≤◌, drop, length}
use Rattle.gi_rules.specs.Legal.{fits, types_of}
use Rattle.gi_rules.proofs.legal.fits.Given as goal

abbrev pub invariant-loop-operand : goal.invariant-loop-operand
invariant-loop-operand l =
    (l.at ≤ length l.row)
    × (fits l.x (drop l.at l.row) (types_of l.function (drop l.operand-index l.operands) l.mem) ≡ fits l.x l.row (types_of l.function l.operands l.mem))
