use Rattle.std.proofs.Common.{◌≡◌, drop}
use Rattle.gi_mir_read.specs.Sizes.{lowest_after, objects_faults}
use Rattle.gi_mir_read.proofs.sizes.with_objects.Given as goal

abbrev pub invariant-loop-object : goal.invariant-loop-object
invariant-loop-object l = lowest_after l.fn.lowest (objects_faults l.line l.objects) ≡ lowest_after l.lowest (objects_faults l.line (drop l.object-index l.objects))
