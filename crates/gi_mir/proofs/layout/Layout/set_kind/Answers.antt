-- The instruction changes, and what it mentions stays.
use Rattle.std.proofs.Common.{rules, ◌<◌, length}
use Rattle.std.specs.Vec.{with_item}
use Rattle.gi_mir.specs.Data.{InstrData}
use Rattle.gi_mir.specs.Arena.{blocks_of, spot_of}
use Rattle.gi_mir.specs.Edit.{with_kind}
use Rattle.gi_mir.specs.Places.{with_changed_at}
use Rattle.gi_mir.proofs.Linked.{id_in-spot}
use Rattle.gi_mir.proofs.Stored.{IsSpelled, live-edited, live-slot, live-some, live-within, mentions-with_kind, spelled-blocks, spelled-edited, spelled-stored, stored-spelled}
use Rattle.gi_mir.proofs.layout.Layout.set_kind.Goals as goal

pub index_mut-slot-requires : goal.index_mut-slot-requires
index_mut-slot-requires c =
    let within : c.args.id.0 < length c.args.self.now.slots.items = live-within c.args.self.now c.args.id.0 c.requires.stored c.requires.stands in
    search rules

pub set_kind-requires-clause-there : goal.set_kind-requires-clause-there
set_kind-requires-clause-there c = live-some c.args.self.now c.args.id.0 c.index_mut-slot.result.now c.requires.stored c.requires.stands c.index_mut-slot.ensures.value

pub set_kind-requires-clause-can : goal.set_kind-requires-clause-can
set_kind-requires-clause-can c =
    rw (live-slot c.args.self.now c.args.id.0 c.index_mut-slot.result.now c.requires.stored c.requires.stands c.index_mut-slot.ensures.value) c.requires.can

edited : (c : goal.After-self-1) → IsSpelled c.args.self.now.bodies.items (with_item c.args.self.now.slots c.args.id.0 c.set_kind.new.self).items c.args.self.now.places.items c.args.self.now.mentions (with_changed_at (λ i. with_kind i c.args.k c.args.kind) (blocks_of c.args.self.now) (spot_of (blocks_of c.args.self.now) c.args.id.0))
edited c =
    let l = c.args.self.now in
    let blocks = blocks_of l in
    let spot = spot_of blocks c.args.id.0 in
    let edit = λ (i : InstrData). with_kind i c.args.k c.args.kind in
    spelled-edited l.bodies.items l.slots.items _ l.places.items l.mentions blocks spot.block spot.at edit c.args.id (id_in-spot blocks c.args.id.0 c.requires.stands)
    (live-edited l c.args.id.0 c.index_mut-slot.result.now c.set_kind.new.self edit c.requires.stored c.requires.stands c.index_mut-slot.ensures.value c.set_kind.ensures)
    (mentions-with_kind c.args.kind c.args.k) (stored-spelled l c.requires.stored)

pub returns-clause-blocks : goal.returns-clause-blocks
returns-clause-blocks c = spelled-blocks (edited c)

pub returns-clause-stored : goal.returns-clause-stored
returns-clause-stored c = spelled-stored _ _ (edited c)
