-- The neighbours of the instruction become each other's.
use Rattle.std.proofs.Common.{rules, ◌<◌, ◌≡◌, ◌∙◌, ℕ, suc, ◌+◌, List, Option, get_or, set, ap, ap₂, sym, length, length-set, arith}
use Rattle.std.specs.Prelude.{slice_get, option_map}
use Rattle.std.specs.Vec.{with_item}
use Rattle.gi_mir.specs.declared.block.Body.{Body}
use Rattle.gi_mir.specs.declared.block.InstrId.{InstrId}
use Rattle.gi_mir.specs.declared.block.Slot.{Slot}
use Rattle.gi_mir.specs.Data.{InstrData}
use Rattle.gi_mir.specs.Arena.{blocks_of, id_ahead, next_set, nth_instr_id, previous_set, spot_of}
use Rattle.gi_mir.specs.Mentions.{IsForgotten}
use Rattle.gi_mir.specs.Places.{body_at, with_removed}
use Rattle.gi_mir.proofs.Edits.{slice_get-set_other, slice_get-set_same}
use Rattle.gi_mir.proofs.Linked.{id_in-spot, linked-bodies, linked-body, order-home}
use Rattle.gi_mir.proofs.Located.{id_in-within, nth_id-within}
use Rattle.gi_mir.proofs.Stored.{AreInRank-at, IsSpelled, ends-removed, entry-is, length-next_set, live-place, live-place-within, live-slot, live-some, live-within, next-given, previous-given, spelled-blocks, spelled-removed, spelled-stored, stored-spelled}
use Rattle.gi_mir.proofs.layout.Layout.remove.Goals as goal

pub index-spot-requires : goal.index-spot-requires
index-spot-requires c =
    let within : c.args.id.0 < length c.args.self.now.places.items = live-place-within c.args.self.now c.args.id.0 c.requires.stored c.requires.stands in
    search rules

pub index_mut-slot-requires : goal.index_mut-slot-requires
index_mut-slot-requires c =
    let within : c.args.id.0 < length c.args.self.now.slots.items = live-within c.args.self.now c.args.id.0 c.requires.stored c.requires.stands in
    search rules

pub take-instr-requires : goal.take-instr-requires
take-instr-requires c = live-some c.args.self.now c.args.id.0 c.index_mut-slot.result.now c.requires.stored c.requires.stands c.index_mut-slot.ensures.value

pub set_next-requires : goal.set_next-requires
set_next-requires c =
    let l = c.args.self.now in
    let spot = spot_of (blocks_of l) c.args.id.0 in
    let slot = live-slot l c.args.id.0 c.index_mut-slot.result.now c.requires.stored c.requires.stands c.index_mut-slot.ensures.value in
    previous-given l spot.block spot.at _ c.index_mut-slot.result.now.previous c.requires.stored (ap (λ (s : Slot). s.previous) slot) (length-set l.slots.items c.args.id.0 c.take-instr.new.self)

pub set_previous-requires : goal.set_previous-requires
set_previous-requires c =
    let l = c.args.self.now in
    let spot = spot_of (blocks_of l) c.args.id.0 in
    let slot = live-slot l c.args.id.0 c.index_mut-slot.result.now c.requires.stored c.requires.stands c.index_mut-slot.ensures.value in
    next-given l spot.block (spot.at + 1) _ c.index_mut-slot.result.now.next c.requires.stored (ap (λ (s : Slot). s.next) slot)
    (ap length c.set_next.ensures.slots ∙ length-next_set c.index_mut-slot.result.now.previous c.index_mut-slot.result.now.next (with_item l.slots c.args.id.0 c.take-instr.new.self).items ∙ length-set l.slots.items c.args.id.0 c.take-instr.new.self)

pub index_mut-body-requires : goal.index_mut-body-requires
index_mut-body-requires c =
    let l = c.args.self.now in
    let blocks = blocks_of l in
    let stands = id_in-spot blocks c.args.id.0 c.requires.stands in
    let block = order-home l.places.items blocks _ _ c.args.id.0 c.index-spot.result.now c.requires.stored.order stands c.index-spot.ensures in
    let bodies = ap (λ v. v.items) (c.set_previous.ensures.bodies ∙ c.set_next.ensures.bodies) in
    let within : c.index-spot.result.now.block < length c.set_previous.new.self.bodies.items =
    rw (bodies, linked-bodies l.bodies.items l.slots.items blocks c.requires.stored.linked, block) (id_in-within c.args.id.0 blocks (spot_of blocks c.args.id.0).block (spot_of blocks c.args.id.0).at stands) in
    search rules

pub lose-requires : goal.lose-requires
lose-requires c =
    let l = c.args.self.now in
    let blocks = blocks_of l in
    let spot = spot_of blocks c.args.id.0 in
    let stands = id_in-spot blocks c.args.id.0 c.requires.stands in
    let block = order-home l.places.items blocks spot.block spot.at c.args.id.0 c.index-spot.result.now c.requires.stored.order stands c.index-spot.ensures in
    let read : c.index_mut-body.result.now ≡ get_or l.bodies.items spot.block c.index_mut-body.result.now = c.index_mut-body.ensures.value
    ∙ ap (λ (xs : List Body). get_or xs c.index-spot.result.now.block c.index_mut-body.result.now) (ap (λ v. v.items) (c.set_previous.ensures.bodies ∙ c.set_next.ensures.bodies))
    ∙ ap (λ (b : ℕ). get_or l.bodies.items b c.index_mut-body.result.now) block in
    let body = linked-body l.bodies.items l.slots.items blocks spot.block c.index_mut-body.result.now c.requires.stored.linked (id_in-within c.args.id.0 blocks spot.block spot.at stands) read in
    let count = ap (λ (b : Body). b.count) body in
    let some = nth_id-within c.args.id.0 (body_at blocks spot.block).instrs spot.at stands in
    omega arith

pub forget_all-requires : goal.forget_all-requires
forget_all-requires c =
    let l = c.args.self.now in
    let blocks = blocks_of l in
    let spot = spot_of blocks c.args.id.0 in
    rw (c.as_slice.ensures.value, c.set_previous.ensures.places ∙ c.set_next.ensures.places, c.set_previous.ensures.mentions ∙ c.set_next.ensures.mentions)
    (AreInRank-at l.bodies.items l.slots.items l.places.items l.mentions blocks spot.block spot.at c.args.id c.index-spot.result.now (id_in-spot blocks c.args.id.0 c.requires.stands)
    (live-place l c.args.id.0 c.index-spot.result.now c.requires.stored c.requires.stands c.index-spot.ensures) (stored-spelled l c.requires.stored))

pub returns-clause-taken : goal.returns-clause-taken
returns-clause-taken c =
    let blocks = blocks_of c.args.self.now in
    let spot = spot_of blocks c.args.id.0 in
    let slot = live-slot c.args.self.now c.args.id.0 c.index_mut-slot.result.now c.requires.stored c.requires.stands c.index_mut-slot.ensures.value in
    entry-is (slice_get (body_at blocks spot.block).instrs spot.at) c.args.id.0 c.take-instr.result (id_in-spot blocks c.args.id.0 c.requires.stands)
    (ap (λ (s : Slot). option_map (λ (p : ℕ × InstrData). p.1) s.entry) (sym slot) ∙ c.take-instr.ensures.taken)

removed : (c : goal.After-forget_all) → IsSpelled (with_item c.set_previous.new.self.bodies c.index-spot.result.now.block c.lose.new.self).items c.set_previous.new.self.slots.items c.set_previous.new.self.places.items c.forget_all.new.self (with_removed (blocks_of c.args.self.now) (spot_of (blocks_of c.args.self.now) c.args.id.0))
removed c =
    let l = c.args.self.now in
    let blocks = blocks_of l in
    let spot = spot_of blocks c.args.id.0 in
    let stands = id_in-spot blocks c.args.id.0 c.requires.stands in
    let within = id_in-within c.args.id.0 blocks spot.block spot.at stands in
    let block = order-home l.places.items blocks spot.block spot.at c.args.id.0 c.index-spot.result.now c.requires.stored.order stands c.index-spot.ensures in
    let slot = live-slot l c.args.id.0 c.index_mut-slot.result.now c.requires.stored c.requires.stands c.index_mut-slot.ensures.value in
    let bodies = c.set_previous.ensures.bodies ∙ c.set_next.ensures.bodies in
    let places = c.set_previous.ensures.places ∙ c.set_next.ensures.places in
    let mentions = c.set_previous.ensures.mentions ∙ c.set_next.ensures.mentions in
    let after : spot.at + 1 ≡ suc spot.at = omega arith in
    let before : c.index_mut-slot.result.now.previous ≡ id_ahead (body_at blocks spot.block).instrs spot.at = ap (λ (s : Slot). s.previous) slot in
    let behind : c.index_mut-slot.result.now.next ≡ nth_instr_id (body_at blocks spot.block).instrs (suc spot.at) = ap (λ (s : Slot). s.next) slot ∙ ap (nth_instr_id (body_at blocks spot.block).instrs) after in
    let taken = set l.slots.items c.args.id.0 c.take-instr.new.self in
    let given = live-within l c.args.id.0 c.requires.stored c.requires.stands in
    let links : c.set_previous.new.self.slots.items ≡ previous_set (nth_instr_id (body_at blocks spot.block).instrs (suc spot.at)) (id_ahead (body_at blocks spot.block).instrs spot.at) (next_set (id_ahead (body_at blocks spot.block).instrs spot.at) (nth_instr_id (body_at blocks spot.block).instrs (suc spot.at)) taken) =
    c.set_previous.ensures.slots ∙ ap (previous_set c.index_mut-slot.result.now.next c.index_mut-slot.result.now.previous) c.set_next.ensures.slots
    ∙ ap₂ (λ (p n : Option InstrId). previous_set n p (next_set p n taken)) before behind in
    let read : c.index_mut-body.result.now ≡ get_or l.bodies.items c.index-spot.result.now.block c.index_mut-body.result.now = c.index_mut-body.ensures.value
    ∙ ap (λ (xs : List Body). get_or xs c.index-spot.result.now.block c.index_mut-body.result.now) (ap (λ v. v.items) bodies) in
    let ends = ends-removed l.bodies.items l.slots.items blocks spot.block spot.at c.index-spot.result.now.block c.index_mut-body.result.now c.lose.new.self _ _ c.requires.stored.linked within
    (nth_id-within c.args.id.0 (body_at blocks spot.block).instrs spot.at stands) block read before behind c.lose.ensures in
    let operands = c.as_slice-2.ensures ∙ ap (λ (i : InstrData). i.operands) c.instr.view_is in
    let forgotten : IsForgotten l.mentions c.forget_all.new.self c.take-instr.result.operands c.args.id = rw (mentions, operands) at c.forget_all.ensures in
    rw (bodies, places) (spelled-removed l.bodies.items _ l.slots.items taken c.set_previous.new.self.slots.items l.places.items l.mentions c.forget_all.new.self blocks spot.block spot.at c.args.id c.take-instr.result c.index-spot.result.now
    stands (returns-clause-taken c) (live-place l c.args.id.0 c.index-spot.result.now c.requires.stored c.requires.stands c.index-spot.ensures)
    (length-set l.slots.items c.args.id.0 c.take-instr.new.self)
    (λ k ne. slice_get-set_other l.slots.items c.args.id.0 k c.take-instr.new.self ne)
    (λ s found. let same : s ≡ c.take-instr.new.self = cc (slice_get-set_same l.slots.items c.args.id.0 c.take-instr.new.self given) in ap (λ (t : Slot). t.entry) same ∙ c.take-instr.ensures.rest)
    links ends forgotten (stored-spelled l c.requires.stored))

pub returns-clause-rest : goal.returns-clause-rest
returns-clause-rest c = spelled-blocks (removed c)

pub returns-clause-stored : goal.returns-clause-stored
returns-clause-stored c = spelled-stored _ _ (removed c)
