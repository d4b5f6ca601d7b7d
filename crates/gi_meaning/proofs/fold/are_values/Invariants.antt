use Rattle.std.proofs.Common.{◌≡◌, drop}
use Rattle.gi_meaning.specs.Fold.{are_values}
use Rattle.gi_meaning.proofs.fold.are_values.Given as goal

abbrev pub invariant-loop-i : goal.invariant-loop-i
invariant-loop-i l = are_values l.target.xlen (drop l.i l.types) (drop l.i l.values) ≡ are_values l.target.xlen l.types l.values
