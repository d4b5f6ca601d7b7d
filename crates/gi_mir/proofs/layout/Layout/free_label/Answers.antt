-- The instructions around a gap are in its block.
use Rattle.std.proofs.Common.{sym, ◌∙◌}
use Rattle.gi_mir.specs.Arena.{blocks_of}
use Rattle.gi_mir.proofs.LabelLemmas.{gap_neighbour}
use Rattle.gi_mir.proofs.layout.Layout.free_label.Goals as goal

pub make_room-requires-clause-stands : goal.make_room-requires-clause-stands
make_room-requires-clause-stands c =
    gap_neighbour (blocks_of c.args.self.now) c.args.gap c.in_ok-id.id c.requires.gap (sym c.or.ensures ∙ c.in_ok-id.ensures.ok_part)
