use Rattle.std.proofs.Common.{◌<◌, ◌^◌}
use Rattle.gi_mir.specs.Arena.{blocks_of}
use Rattle.gi_mir.specs.Labels.{IsRun}
use Rattle.gi_mir.proofs.layout.Layout.sparse_span.Given as goal

abbrev pub invariant-loop-bits : goal.invariant-loop-bits
invariant-loop-bits l = record {
  is_run : IsRun (blocks_of l.self) l.run;
  few : l.limit < 2 ^ l.bits;
}
