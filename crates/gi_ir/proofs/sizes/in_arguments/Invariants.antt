use Rattle.std.proofs.Common.{◌≡◌, drop}
use Rattle.gi_ir.specs.Sizes.{first_among, in_argument}
use Rattle.gi_ir.proofs.sizes.in_arguments.Given as goal

abbrev pub invariant-loop-arg : goal.invariant-loop-arg
invariant-loop-arg l = first_among (in_argument l.target.xlen l.line) l.args ≡ first_among (in_argument l.target.xlen l.line) (drop l.arg-index l.args)
