use Rattle.std.proofs.Common.{◌≡◌, drop}
use Rattle.gi_ir.specs.Sizes.{in_functions}
use Rattle.gi_ir.proofs.sizes.in_functions.Given as goal

abbrev pub invariant-loop-number : goal.invariant-loop-number
invariant-loop-number l = in_functions l.target.xlen l.layouts 0 l.functions ≡ in_functions l.target.xlen l.layouts l.number (drop l.number l.functions)
