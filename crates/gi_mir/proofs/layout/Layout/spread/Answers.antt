-- One instruction after the other has its new label.
use Rattle.std.proofs.Common.{◌≡◌, refl, arith, ◌∙◌}
use Rattle.gi_mir.specs.Arena.{blocks_of}
use Rattle.gi_mir.proofs.SpreadLemmas.{step_of, spread_next, IsSpreading-none, IsSpreading-within, IsSpreading-linked, IsSpreading-step, IsStored-spread}
use Rattle.gi_mir.proofs.layout.Layout.spread.Goals as goal

pub loop-k-init : goal.loop-k-init
loop-k-init c = record {
  bodies = refl;
  slots = refl;
  mentions = refl;
  spreading = IsSpreading-none c.args.self.now.places.items (blocks_of c.args.self.now) c.args.span c.args.run _ c.requires.fills;
}

pub set_label-requires : goal.set_label-requires
set_label-requires c =
    let l = c.args.self.now in
    IsSpreading-within l.places.items c.loop-k.self.places.items (blocks_of l) c.args.span c.args.run _ c.loop-k.k c.loop-k.id c.requires.stored.order c.loop-k-test.true c.loop-k.invariant.spreading

pub next_of-requires : goal.next_of-requires
next_of-requires c =
    let l = c.args.self.now in
    let slots = c.set_label.ensures.slots ∙ c.loop-k.invariant.slots in
    rw slots (IsSpreading-linked l.bodies.items l.slots.items l.places.items c.loop-k.self.places.items (blocks_of l) c.args.span c.args.run _ c.loop-k.k c.loop-k.id c.requires.stored.linked c.loop-k-test.true c.loop-k.invariant.spreading)

pub loop-k-preserved : goal.loop-k-preserved
loop-k-preserved c =
    let l = c.args.self.now in
    let slots = c.set_label.ensures.slots ∙ c.loop-k.invariant.slots in
    let next = rw slots at c.next_of.ensures in
    let so_far = c.loop-k.invariant.spreading in
    record {
      bodies = c.set_label.ensures.bodies ∙ c.loop-k.invariant.bodies;
      slots = slots;
      mentions = c.set_label.ensures.mentions ∙ c.loop-k.invariant.mentions;
      spreading = rw (c.set_label.ensures.places, c.unwrap_or-id.ensures)
          (IsSpreading-step l.places.items c.loop-k.self.places.items (blocks_of l) c.args.span c.args.run _ c.loop-k.k _ c.loop-k.id _ c.requires.stored.own c.requires.stored.order c.loop-k-test.true so_far
          (λ more. spread_next l.bodies.items l.slots.items l.places.items c.loop-k.self.places.items (blocks_of l) c.args.span c.args.run _ c.loop-k.k c.loop-k.id c.next_of.result c.requires.stored.linked more next so_far));
    }

pub returns-clause-stored : goal.returns-clause-stored
returns-clause-stored c =
    let all : c.loop-k.k ≡ c.args.run.count = omega arith in
    IsStored-spread c.args.self.now c.loop-k.self c.args.span c.args.run _ c.loop-k.k c.loop-k.id c.requires.stored (step_of c.args.span c.args.run c.requires.room) all c.loop-k.invariant.bodies c.loop-k.invariant.slots c.loop-k.invariant.mentions c.loop-k.invariant.spreading
