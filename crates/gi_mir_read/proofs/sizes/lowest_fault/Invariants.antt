use Rattle.std.proofs.Common.{◌≡◌, drop}
use Rattle.std.specs.Prelude.{None}
use Rattle.gi_mir_read.specs.Sizes.{functions_faults, lowest_after}
use Rattle.gi_mir_read.proofs.sizes.lowest_fault.Given as goal

abbrev pub invariant-loop-place : goal.invariant-loop-place
invariant-loop-place l = lowest_after None (functions_faults l.target.xlen 0 l.functions) ≡ lowest_after l.lowest (functions_faults l.target.xlen l.place (drop l.place l.functions))
