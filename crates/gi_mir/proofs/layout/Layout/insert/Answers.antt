-- A new instruction comes into a gap, with a label between those around it.
use Rattle.std.proofs.Common.{◌≤◌, ◌≡◌, ◌∙◌, ◌++◌, ◌∷◌, [], ℕ, List, Some, get_or, refl, ap, ap₂, subst, length, length-append, arith}
use Rattle.std.specs.Vec.{with_item}
use Rattle.gi_mir.specs.declared.block.Body.{Body}
use Rattle.gi_mir.specs.declared.block.InstrId.{InstrId}
use Rattle.gi_mir.specs.declared.room.Gap.{Gap}
use Rattle.gi_mir.specs.Arena.{FitsGap, blocks_of, gap_at, id_named, next_set, previous_set, slot_between}
use Rattle.gi_mir.specs.Edit.{spot_in}
use Rattle.gi_mir.specs.Places.{body_at, place, with_inserted}
use Rattle.gi_mir.proofs.IdsLemmas.{few-instrs}
use Rattle.gi_mir.proofs.Linked.{linked-body}
use Rattle.gi_mir.proofs.Ordered.{IsBetween-fits}
use Rattle.gi_mir.proofs.Stored.{IsSpelled, ends-inserted, given-more, length-next_set, next-given, previous-given, pushed-fresh, pushed-sorted, relabelled, split-pushed, spelled-blocks, spelled-inserted, spelled-stored, spot-bound}
use Rattle.gi_mir.proofs.layout.Layout.insert.Goals as goal

pub free_label-requires-clause-gap : goal.free_label-requires-clause-gap
free_label-requires-clause-gap c =
    let blocks = blocks_of c.args.self.now in
    rw c.gap-gap.ensures (record {
      within = c.requires.within;
      at = spot_in (body_at blocks c.args.block).instrs c.args.before;
      bound = spot-bound blocks c.args.block c.args.before c.requires.stands;
      before = refl;
      behind = refl;
    })

pub enter-requires-clause-sorted : goal.enter-requires-clause-sorted
enter-requires-clause-sorted c =
    let blocks = blocks_of c.args.self.now in
    let now = c.free_label.new.self in
    let at = spot_in (body_at blocks c.args.block).instrs c.args.before in
    let spelled = relabelled c.args.self.now now c.free_label.ensures.bodies c.free_label.ensures.slots c.free_label.ensures.stored in
    let fits : FitsGap now.places.items (gap_at blocks (place c.args.block at)) c.in_ok-at.at = rw c.gap-gap.ensures at c.in_ok-at.ensures.fits in
    let between = IsBetween-fits now.places.items blocks c.args.block at c.in_ok-at.at (spot-bound blocks c.args.block c.args.before c.requires.stands) spelled.order fits in
    pushed-sorted now.bodies.items now.slots.items now.places.items now.mentions blocks (place c.args.block c.in_ok-at.at) at c.requires.within between spelled

pub enter-requires-clause-fresh : goal.enter-requires-clause-fresh
enter-requires-clause-fresh c =
    let blocks = blocks_of c.args.self.now in
    let now = c.free_label.new.self in
    let at = spot_in (body_at blocks c.args.block).instrs c.args.before in
    let spelled = relabelled c.args.self.now now c.free_label.ensures.bodies c.free_label.ensures.slots c.free_label.ensures.stored in
    let fits : FitsGap now.places.items (gap_at blocks (place c.args.block at)) c.in_ok-at.at = rw c.gap-gap.ensures at c.in_ok-at.ensures.fits in
    let between = IsBetween-fits now.places.items blocks c.args.block at c.in_ok-at.at (spot-bound blocks c.args.block c.args.before c.requires.stands) spelled.order fits in
    pushed-fresh now.bodies.items now.slots.items now.places.items now.mentions blocks (place c.args.block c.in_ok-at.at) at c.requires.within between spelled

pub enter-requires-clause-own : goal.enter-requires-clause-own
enter-requires-clause-own c =
    let blocks = blocks_of c.args.self.now in
    let now = c.free_label.new.self in
    let at = spot_in (body_at blocks c.args.block).instrs c.args.before in
    let spelled = relabelled c.args.self.now now c.free_label.ensures.bodies c.free_label.ensures.slots c.free_label.ensures.stored in
    let fits : FitsGap now.places.items (gap_at blocks (place c.args.block at)) c.in_ok-at.at = rw c.gap-gap.ensures at c.in_ok-at.ensures.fits in
    let between = IsBetween-fits now.places.items blocks c.args.block at c.in_ok-at.at (spot-bound blocks c.args.block c.args.before c.requires.stands) spelled.order fits in
    (split-pushed now.bodies.items now.slots.items now.places.items now.mentions blocks (place c.args.block c.in_ok-at.at) at between spelled).own

pub set_next-requires : goal.set_next-requires
set_next-requires c =
    let l = c.args.self.now in
    let blocks = blocks_of l in
    let at = spot_in (body_at blocks c.args.block).instrs c.args.before in
    let now = c.free_label.new.self in
    let longer = ap length c.in_ok-id.ensures.ok ∙ length-append now.slots.items (slot_between c.gap-gap.result (length now.slots.items, c.args.instr) ∷ []) in
    let same = ap (λ v. length v.items) c.free_label.ensures.slots in
    given-more c.gap-gap.result.previous (length l.slots.items) (length c.enter.new.self.slots.items) (omega arith)
    (previous-given l c.args.block at (length l.slots.items) c.gap-gap.result.previous c.requires.stored (ap (λ (g : Gap). g.previous) c.gap-gap.ensures) refl)

pub set_previous-requires : goal.set_previous-requires
set_previous-requires c =
    let l = c.args.self.now in
    let blocks = blocks_of l in
    let at = spot_in (body_at blocks c.args.block).instrs c.args.before in
    let now = c.free_label.new.self in
    let linked = ap length c.set_next.ensures.slots ∙ length-next_set c.gap-gap.result.previous (Some c.in_ok-id.id) c.enter.new.self.slots.items in
    let longer = ap length c.in_ok-id.ensures.ok ∙ length-append now.slots.items (slot_between c.gap-gap.result (length now.slots.items, c.args.instr) ∷ []) in
    let same = ap (λ v. length v.items) c.free_label.ensures.slots in
    given-more c.gap-gap.result.next (length l.slots.items) (length c.set_next.new.self.slots.items) (omega arith)
    (next-given l c.args.block at (length l.slots.items) c.gap-gap.result.next c.requires.stored (ap (λ (g : Gap). g.next) c.gap-gap.ensures) refl)

pub gain-requires : goal.gain-requires
gain-requires c =
    let l = c.args.self.now in
    let blocks = blocks_of l in
    let bodies = c.set_previous.ensures.bodies ∙ c.set_next.ensures.bodies ∙ c.enter.ensures.bodies ∙ c.free_label.ensures.bodies in
    let read : c.index_mut-body.result.now ≡ get_or l.bodies.items c.args.block c.index_mut-body.result.now = c.index_mut-body.ensures.value
    ∙ ap (λ (xs : List Body). get_or xs c.args.block c.index_mut-body.result.now) (ap (λ v. v.items) bodies) in
    let body = linked-body l.bodies.items l.slots.items blocks c.args.block c.index_mut-body.result.now c.requires.stored.linked c.requires.within read in
    let count : c.index_mut-body.result.now.count ≡ length (body_at blocks c.args.block).instrs = ap (λ (b : Body). b.count) body in
    let few : length (body_at blocks c.args.block).instrs ≤ length l.slots.items = few-instrs blocks (length l.slots.items) c.args.block _ c.requires.within c.requires.stored.own in
    omega (arith, l.slots.ok.0, l.slots.ok.1, l.slots.small)

inserted : (c : goal.After-self-1) → IsSpelled (with_item c.set_previous.new.self.bodies c.args.block c.gain.new.self).items c.set_previous.new.self.slots.items c.set_previous.new.self.places.items c.set_previous.new.self.mentions
    (with_inserted (blocks_of c.args.self.now) (place c.args.block (spot_in (body_at (blocks_of c.args.self.now) c.args.block).instrs c.args.before)) (length c.args.self.now.slots.items, c.args.instr))
inserted c =
    let l = c.args.self.now in
    let blocks = blocks_of l in
    let now = c.free_label.new.self in
    let at = spot_in (body_at blocks c.args.block).instrs c.args.before in
    let bound = spot-bound blocks c.args.block c.args.before c.requires.stands in
    let spelled = relabelled l now c.free_label.ensures.bodies c.free_label.ensures.slots c.free_label.ensures.stored in
    let fits : FitsGap now.places.items (gap_at blocks (place c.args.block at)) c.in_ok-at.at = rw c.gap-gap.ensures at c.in_ok-at.ensures.fits in
    let gap = c.gap-gap.ensures in
    let before = ap (λ (g : Gap). g.previous) gap in
    let behind = ap (λ (g : Gap). g.next) gap in
    let id : c.in_ok-id.id ≡ id_named (length now.slots.items) = ap id_named c.in_ok-id.ensures.id in
    let bodies = c.set_previous.ensures.bodies ∙ c.set_next.ensures.bodies ∙ c.enter.ensures.bodies in
    let places : c.set_previous.new.self.places.items ≡ now.places.items ++ place c.args.block c.in_ok-at.at ∷ [] = ap (λ v. v.items) (c.set_previous.ensures.places ∙ c.set_next.ensures.places) ∙ c.in_ok-id.ensures.places in
    let mentions = c.set_previous.ensures.mentions ∙ c.set_next.ensures.mentions in
    let links = c.set_previous.ensures.slots ∙ ap (previous_set c.gap-gap.result.next (Some c.in_ok-id.id)) (c.set_next.ensures.slots ∙ ap (next_set c.gap-gap.result.previous (Some c.in_ok-id.id)) c.in_ok-id.ensures.ok)
    ∙ ap₂ (λ (g : Gap) (i : InstrId). previous_set g.next (Some i) (next_set g.previous (Some i) (now.slots.items ++ slot_between g (length now.slots.items, c.args.instr) ∷ []))) gap id in
    let read : c.index_mut-body.result.now ≡ get_or now.bodies.items c.args.block c.index_mut-body.result.now = c.index_mut-body.ensures.value
    ∙ ap (λ (xs : List Body). get_or xs c.args.block c.index_mut-body.result.now) (ap (λ v. v.items) bodies) in
    let ends = ends-inserted now.bodies.items now.slots.items blocks c.args.block at c.in_ok-id.id (length now.slots.items, c.args.instr) c.index_mut-body.result.now c.gain.new.self _ _ spelled.linked c.requires.within bound read id before behind c.gain.ensures in
    let put : IsSpelled (with_item c.set_previous.new.self.bodies c.args.block c.gain.new.self).items c.set_previous.new.self.slots.items c.set_previous.new.self.places.items c.set_previous.new.self.mentions (with_inserted blocks (place c.args.block at) (length now.slots.items, c.args.instr)) =
    rw (bodies, places, mentions) (spelled-inserted now.bodies.items _ now.slots.items c.set_previous.new.self.slots.items now.places.items now.mentions c.enter.new.self.mentions blocks c.args.block at c.in_ok-at.at c.args.instr
    c.requires.within bound fits links ends c.in_ok-id.ensures.noted spelled) in
    subst (λ (n : ℕ). IsSpelled (with_item c.set_previous.new.self.bodies c.args.block c.gain.new.self).items c.set_previous.new.self.slots.items c.set_previous.new.self.places.items c.set_previous.new.self.mentions (with_inserted blocks (place c.args.block at) (n, c.args.instr)))
    (ap (λ v. length v.items) c.free_label.ensures.slots) put

pub returns-clause-ok : goal.returns-clause-ok
returns-clause-ok c = spelled-blocks (inserted c)

pub returns-clause-stored : goal.returns-clause-stored
returns-clause-stored c = spelled-stored _ _ (inserted c)
