-- A run that ends one instruction further on, as long as there is one whose label is low enough.
use Rattle.std.proofs.Common.{◌+◌, arith}
use Rattle.gi_mir.specs.Arena.{blocks_of}
use Rattle.gi_mir.proofs.LabelLemmas.{last_within, placed, behind_run, run_count, BeginsAt-on, FillsSpan-last, FillsSpan-stop}
use Rattle.gi_mir.proofs.layout.Layout.widened.Goals as goal

pub next_of-requires : goal.next_of-requires
next_of-requires c =
    let l = c.args.self.now in
    last_within l.bodies.items l.slots.items (blocks_of l) c.loop-next.wide c.requires.stored.linked c.loop-next.invariant.is_run

pub label_of-requires : goal.label_of-requires
label_of-requires c =
    let l = c.args.self.now in
    let is = c.loop-next.invariant.is_run in
    let stands = behind_run l.bodies.items l.slots.items (blocks_of l) c.loop-next.wide is c.in-Some.next c.requires.stored.linked c.in-Some.ensures in
    placed l.places.items (blocks_of l) is.block (is.to + 1) c.in-Some.next.0 c.requires.stored.order stands

pub returns-then-label_of-span : goal.returns-then-label_of-span
returns-then-label_of-span c =
    let l = c.args.self.now in
    let begins = c.loop-next.invariant in
    let stands = behind_run l.bodies.items l.slots.items (blocks_of l) c.loop-next.wide begins.is_run c.in-Some.next c.requires.stored.linked c.in-Some.ensures in
    FillsSpan-stop l.places.items (blocks_of l) c.args.span c.loop-next.wide begins c.in-Some.next c.requires.stored.order stands
    (λ p h. omega (arith, c.label_of.ensures p h))

pub overflow_add-wide : goal.overflow_add-wide
overflow_add-wide c =
    let l = c.args.self.now in
    omega (arith, run_count l.places.items (blocks_of l) c.loop-next.wide c.requires.stored.order c.loop-next.invariant.is_run)

pub loop-next-smaller : goal.loop-next-smaller
loop-next-smaller c =
    let l = c.args.self.now in
    omega (arith, run_count l.places.items (blocks_of l) c.loop-next.wide c.requires.stored.order c.loop-next.invariant.is_run)

pub loop-next-preserved : goal.loop-next-preserved
loop-next-preserved c =
    let l = c.args.self.now in
    let begins = c.loop-next.invariant in
    let stands = behind_run l.bodies.items l.slots.items (blocks_of l) c.loop-next.wide begins.is_run c.in-Some.next c.requires.stored.linked c.in-Some.ensures in
    BeginsAt-on l.places.items (blocks_of l) c.args.span.low c.loop-next.wide begins c.in-Some.next stands

pub returns : goal.returns
returns c =
    let l = c.args.self.now in
    FillsSpan-last l.bodies.items l.slots.items l.places.items (blocks_of l) c.args.span c.loop-next.wide c.requires.stored.linked c.loop-next.invariant c.in_default.ensures
