-- The instructions around a gap have labels that rise.
use Rattle.std.proofs.lemmas.Option.{IfSome_then}
use Rattle.gi_mir.specs.Arena.{blocks_of}
use Rattle.gi_mir.proofs.LabelLemmas.{previous_placed, next_placed, gap_open, fits_gap}
use Rattle.gi_mir.proofs.layout.Layout.label_in.Goals as goal

pub label_or-requires : goal.label_or-requires
label_or-requires c = previous_placed c.args.self.now.places.items (blocks_of c.args.self.now) c.args.gap c.requires.stored.order c.requires.gap

pub label_or-requires-2 : goal.label_or-requires-2
label_or-requires-2 c = next_placed c.args.self.now.places.items (blocks_of c.args.self.now) c.args.gap c.requires.stored.order c.requires.gap

pub between-requires : goal.between-requires
between-requires c =
    rw (c.label_or.ensures, c.label_or-2.ensures)
    (gap_open c.args.self.now.places.items (blocks_of c.args.self.now) c.args.gap c.requires.stored.order c.requires.gap).0

pub returns : goal.returns
returns c =
    IfSome_then c.between.result c.between.ensures
    (λ label within. fits_gap c.args.self.now.places.items (blocks_of c.args.self.now) c.args.gap label c.requires.stored.order c.requires.gap
    (rw c.label_or.ensures at within.0) (rw c.label_or-2.ensures at within.1))
