-- The new mention is noted first, and the old one taken out where it was the last.
use Rattle.std.proofs.Common.{rules, ◌<◌, ◌≡◌, ◌∙◌, ap, sym, length, true, false}
use Rattle.std.specs.Prelude.{slice_get}
use Rattle.std.specs.Vec.{with_item}
use Rattle.gi_mir.specs.declared.block.Slot.{Slot}
use Rattle.gi_mir.specs.Data.{InstrData}
use Rattle.gi_mir.specs.Arena.{blocks_of, spot_of}
use Rattle.gi_mir.specs.Edit.{with_operand}
use Rattle.gi_mir.specs.Formed.{is_formed}
use Rattle.gi_mir.specs.Places.{body_at, with_changed_at}
use Rattle.gi_mir.proofs.Linked.{id_in-spot}
use Rattle.gi_mir.proofs.Stored.{AreInRank-after_note, IsSpelled, IsSorted-at, entry_of, live-edited, live-place, live-place-within, live-slot, live-some, live-within, operands-around, some-instr, spelled-blocks, spelled-operand-last, spelled-operand-more, spelled-stored, stored-spelled}
use Rattle.gi_mir.proofs.layout.Layout.set_operand.Goals as goal

pub index-spot-requires : goal.index-spot-requires
index-spot-requires c =
    let within : c.args.id.0 < length c.args.self.now.places.items = live-place-within c.args.self.now c.args.id.0 c.requires.stored c.requires.stands in
    search rules

pub note_operand-requires : goal.note_operand-requires
note_operand-requires c =
    let l = c.args.self.now in
    let blocks = blocks_of l in
    rw c.as_slice.ensures.value (IsSorted-at l.bodies.items l.slots.items l.places.items l.mentions blocks _ _ c.args.id c.index-spot.result.now (id_in-spot blocks c.args.id.0 c.requires.stands) (live-place l c.args.id.0 c.index-spot.result.now c.requires.stored c.requires.stands c.index-spot.ensures) (stored-spelled l c.requires.stored))

pub index_mut-slot-requires : goal.index_mut-slot-requires
index_mut-slot-requires c =
    let within : c.args.id.0 < length c.args.self.now.slots.items = live-within c.args.self.now c.args.id.0 c.requires.stored c.requires.stands in
    search rules

pub set_operand-old-requires-clause-there : goal.set_operand-old-requires-clause-there
set_operand-old-requires-clause-there c = live-some c.args.self.now c.args.id.0 c.index_mut-slot.result.now c.requires.stored c.requires.stands c.index_mut-slot.ensures.value

pub set_operand-old-requires-clause-can : goal.set_operand-old-requires-clause-can
set_operand-old-requires-clause-can c =
    let blocks = blocks_of c.args.self.now in
    let spot = spot_of blocks c.args.id.0 in
    rw (live-slot c.args.self.now c.args.id.0 c.index_mut-slot.result.now c.requires.stored c.requires.stands c.index_mut-slot.ensures.value)
    (some-instr (λ i. (c.args.k < length i.operands) × (is_formed (with_operand i c.args.k c.args.new) ≡ true)) (slice_get (body_at blocks spot.block).instrs spot.at) c.requires.can)

pub forget_operand-requires : goal.forget_operand-requires
forget_operand-requires c =
    let l = c.args.self.now in
    let blocks = blocks_of l in
    let spot = spot_of blocks c.args.id.0 in
    let noted = rw c.as_slice.ensures.value at c.in_ok-note_operand.ensures.ok in
    rw c.as_slice-then-not-mentions.ensures.value
    (AreInRank-after_note l.bodies.items l.slots.items l.places.items l.mentions c.note_operand.new.self blocks spot.block spot.at c.args.id c.index-spot.result.now c.args.new (id_in-spot blocks c.args.id.0 c.requires.stands)
    (live-place l c.args.id.0 c.index-spot.result.now c.requires.stored c.requires.stands c.index-spot.ensures) noted (stored-spelled l c.requires.stored))

last : (c : goal.After-forget_operand) → IsSpelled c.args.self.now.bodies.items (with_item c.args.self.now.slots c.args.id.0 c.set_operand-old.new.self).items c.args.self.now.places.items c.forget_operand.new.self (with_changed_at (λ i. with_operand i c.args.k c.args.new) (blocks_of c.args.self.now) (spot_of (blocks_of c.args.self.now) c.args.id.0))
last c =
    let l = c.args.self.now in
    let blocks = blocks_of l in
    let spot = spot_of blocks c.args.id.0 in
    let stands = id_in-spot blocks c.args.id.0 c.requires.stands in
    let edit = λ (i : InstrData). with_operand i c.args.k c.args.new in
    let slot = live-slot l c.args.id.0 c.index_mut-slot.result.now c.requires.stored c.requires.stands c.index_mut-slot.ensures.value in
    let noted = rw c.as_slice.ensures.value at c.in_ok-note_operand.ensures.ok in
    entry_of (IsSpelled l.bodies.items (with_item l.slots c.args.id.0 c.set_operand-old.new.self).items l.places.items c.forget_operand.new.self (with_changed_at edit blocks spot)) blocks spot.block spot.at c.args.id.0 stands
    (λ i here.
    let around = operands-around c.index_mut-slot.result.now c.set_operand-old.new.self c.args.id.0 c.args.k i c.set_operand-old.result c.args.new false (ap (λ (s : Slot). s.entry) slot ∙ here) c.set_operand-old.ensures.changed c.set_operand-old.ensures.old (sym c.mentions.ensures ∙ c.if-not-mentions.true) in
    spelled-operand-last l.bodies.items l.slots.items _ l.places.items l.mentions c.note_operand.new.self c.forget_operand.new.self blocks spot.block spot.at c.args.id c.index-spot.result.now i c.args.k c.set_operand-old.result c.args.new
    stands (live-place l c.args.id.0 c.index-spot.result.now c.requires.stored c.requires.stands c.index-spot.ensures) here
    (live-edited l c.args.id.0 c.index_mut-slot.result.now c.set_operand-old.new.self edit c.requires.stored c.requires.stands c.index_mut-slot.ensures.value c.set_operand-old.ensures.changed)
    around.0 around.1 noted c.forget_operand.ensures (stored-spelled l c.requires.stored))

more : (c : goal.Else-not-mentions) → IsSpelled c.args.self.now.bodies.items (with_item c.args.self.now.slots c.args.id.0 c.set_operand-old.new.self).items c.args.self.now.places.items c.note_operand.new.self (with_changed_at (λ i. with_operand i c.args.k c.args.new) (blocks_of c.args.self.now) (spot_of (blocks_of c.args.self.now) c.args.id.0))
more c =
    let l = c.args.self.now in
    let blocks = blocks_of l in
    let spot = spot_of blocks c.args.id.0 in
    let stands = id_in-spot blocks c.args.id.0 c.requires.stands in
    let edit = λ (i : InstrData). with_operand i c.args.k c.args.new in
    let slot = live-slot l c.args.id.0 c.index_mut-slot.result.now c.requires.stored c.requires.stands c.index_mut-slot.ensures.value in
    let noted = rw c.as_slice.ensures.value at c.in_ok-note_operand.ensures.ok in
    entry_of (IsSpelled l.bodies.items (with_item l.slots c.args.id.0 c.set_operand-old.new.self).items l.places.items c.note_operand.new.self (with_changed_at edit blocks spot)) blocks spot.block spot.at c.args.id.0 stands
    (λ i here.
    let around = operands-around c.index_mut-slot.result.now c.set_operand-old.new.self c.args.id.0 c.args.k i c.set_operand-old.result c.args.new true (ap (λ (s : Slot). s.entry) slot ∙ here) c.set_operand-old.ensures.changed c.set_operand-old.ensures.old (sym c.mentions.ensures ∙ c.if-not-mentions.false) in
    spelled-operand-more l.bodies.items l.slots.items _ l.places.items l.mentions c.note_operand.new.self blocks spot.block spot.at c.args.id c.index-spot.result.now i c.args.k c.set_operand-old.result c.args.new
    stands (live-place l c.args.id.0 c.index-spot.result.now c.requires.stored c.requires.stands c.index-spot.ensures) here
    (live-edited l c.args.id.0 c.index_mut-slot.result.now c.set_operand-old.new.self edit c.requires.stored c.requires.stands c.index_mut-slot.ensures.value c.set_operand-old.ensures.changed)
    around.0 around.1 noted (stored-spelled l c.requires.stored))

pub returns-then-not-mentions-clause-ok : goal.returns-then-not-mentions-clause-ok
returns-then-not-mentions-clause-ok c = spelled-blocks (last c)

pub returns-then-not-mentions-clause-stored : goal.returns-then-not-mentions-clause-stored
returns-then-not-mentions-clause-stored c = spelled-stored _ _ (last c)

pub returns-else-not-mentions-clause-ok : goal.returns-else-not-mentions-clause-ok
returns-else-not-mentions-clause-ok c = spelled-blocks (more c)

pub returns-else-not-mentions-clause-stored : goal.returns-else-not-mentions-clause-stored
returns-else-not-mentions-clause-stored c = spelled-stored _ _ (more c)
