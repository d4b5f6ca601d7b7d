-- A run that begins one instruction before, as long as there is one whose label is high enough.
use Rattle.std.proofs.Common.{arith}
use Rattle.gi_mir.specs.Arena.{blocks_of}
use Rattle.gi_mir.proofs.LabelLemmas.{first_within, placed, before_run, run_count, BeginsAt-first, BeginsAt-stop, IsRun-back}
use Rattle.gi_mir.proofs.layout.Layout.widened_back.Goals as goal

pub previous_of-requires : goal.previous_of-requires
previous_of-requires c =
    let l = c.args.self.now in
    first_within l.bodies.items l.slots.items (blocks_of l) c.loop-previous.wide c.requires.stored.linked c.loop-previous.invariant

pub label_of-requires : goal.label_of-requires
label_of-requires c =
    let l = c.args.self.now in
    let is = c.loop-previous.invariant in
    let before = before_run l.bodies.items l.slots.items (blocks_of l) c.loop-previous.wide is c.in-Some.previous c.requires.stored.linked c.in-Some.ensures in
    placed l.places.items (blocks_of l) is.block before.at c.in-Some.previous.0 c.requires.stored.order before.stands

pub returns-then-label_of-low : goal.returns-then-label_of-low
returns-then-label_of-low c =
    let l = c.args.self.now in
    let is = c.loop-previous.invariant in
    let before = before_run l.bodies.items l.slots.items (blocks_of l) c.loop-previous.wide is c.in-Some.previous c.requires.stored.linked c.in-Some.ensures in
    BeginsAt-stop l.places.items (blocks_of l) c.args.low c.loop-previous.wide is c.in-Some.previous c.requires.stored.order before
    (λ p h. omega (arith, c.label_of.ensures p h))

pub overflow_add-wide : goal.overflow_add-wide
overflow_add-wide c =
    let l = c.args.self.now in
    omega (arith, run_count l.places.items (blocks_of l) c.loop-previous.wide c.requires.stored.order c.loop-previous.invariant)

pub loop-previous-smaller : goal.loop-previous-smaller
loop-previous-smaller c =
    let l = c.args.self.now in
    omega (arith, run_count l.places.items (blocks_of l) c.loop-previous.wide c.requires.stored.order c.loop-previous.invariant)

pub loop-previous-preserved : goal.loop-previous-preserved
loop-previous-preserved c =
    let l = c.args.self.now in
    let is = c.loop-previous.invariant in
    let before = before_run l.bodies.items l.slots.items (blocks_of l) c.loop-previous.wide is c.in-Some.previous c.requires.stored.linked c.in-Some.ensures in
    IsRun-back (blocks_of l) c.loop-previous.wide is c.in-Some.previous before

pub returns : goal.returns
returns c =
    let l = c.args.self.now in
    BeginsAt-first l.bodies.items l.slots.items l.places.items (blocks_of l) c.args.low c.loop-previous.wide c.requires.stored.linked c.loop-previous.invariant c.in_default.ensures
