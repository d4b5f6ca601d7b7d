-- An instruction alone is a run.
use Rattle.std.proofs.Common.{arith}
use Rattle.gi_mir.specs.Arena.{blocks_of}
use Rattle.gi_mir.proofs.LabelLemmas.{label_below, stands_placed, IsRun-of}
use Rattle.gi_mir.proofs.layout.Layout.sparse_span.Goals as goal

pub label_of-label-requires : goal.label_of-label-requires
label_of-label-requires c = stands_placed c.args.self.now.places.items (blocks_of c.args.self.now) c.args.id.0 c.requires.stored.order c.requires.stands

pub loop-bits-init : goal.loop-bits-init
loop-bits-init c = record {
  is_run = IsRun-of (blocks_of c.args.self.now) c.of-run.result c.args.id c.requires.stands c.of-run.ensures.first c.of-run.ensures.last c.of-run.ensures.count;
  few = omega arith;
}

pub around-span-requires-clause-label : goal.around-span-requires-clause-label
around-span-requires-clause-label c =
    label_below c.args.self.now.places.items (blocks_of c.args.self.now) c.args.id.0 c.label_of-label.result c.requires.stored.order c.requires.stands c.label_of-label.ensures
