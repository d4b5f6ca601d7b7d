use Rattle.std.proofs.Common.{◌-◌, ◌^◌}
use Rattle.gi_mir.specs.Arena.{blocks_of}
use Rattle.gi_mir.specs.Labels.{BeginsAt}
use Rattle.gi_mir.proofs.layout.Layout.widened.Given as goal

abbrev pub invariant-loop-next : goal.invariant-loop-next
invariant-loop-next l = BeginsAt l.self.places.items (blocks_of l.self) l.span.low l.wide

abbrev pub decreases-loop-next : goal.decreases-loop-next
decreases-loop-next l = 2 ^ 62 - l.wide.count
