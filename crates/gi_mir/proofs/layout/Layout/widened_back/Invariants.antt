use Rattle.std.proofs.Common.{◌-◌, ◌^◌}
use Rattle.gi_mir.specs.Arena.{blocks_of}
use Rattle.gi_mir.specs.Labels.{IsRun}
use Rattle.gi_mir.proofs.layout.Layout.widened_back.Given as goal

abbrev pub invariant-loop-previous : goal.invariant-loop-previous
invariant-loop-previous l = IsRun (blocks_of l.self) l.wide

abbrev pub decreases-loop-previous : goal.decreases-loop-previous
decreases-loop-previous l = 2 ^ 62 - l.wide.count
