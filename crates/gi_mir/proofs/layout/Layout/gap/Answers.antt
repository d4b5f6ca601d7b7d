-- An instruction has the one before it, and a block its last.
use Rattle.std.proofs.Common.{rules, ◌<◌, ◌∙◌, ap, sym, length}
use Rattle.std.specs.Prelude.{Contains}
use Rattle.std.proofs.lemmas.Option.{slice_get_within}
use Rattle.gi_mir.specs.declared.block.InstrId.{InstrId}
use Rattle.std.specs.Prelude.{Option}
use Rattle.gi_mir.specs.Arena.{blocks_of, gap_at}
use Rattle.gi_mir.specs.Edit.{ids_of, spot_in}
use Rattle.gi_mir.specs.Places.{body_at, place}
use Rattle.gi_mir.proofs.Linked.{gap-last, gap-named, id_in-named}
use Rattle.gi_mir.proofs.layout.Layout.gap.Goals as goal

pub index-requires : goal.index-requires
index-requires c =
    let l = c.args.self.now in
    let blocks = blocks_of l in
    let named : Contains (ids_of (body_at blocks c.args.block)) c.in-Some.next.0 = rw c.in-Some.is at c.requires.stands in
    let within : c.in-Some.next.0 < length l.slots.items = slice_get_within l.slots.items c.in-Some.next.0 _ (c.requires.stored.linked.linked c.in-Some.next.0 c.args.block _ (id_in-named blocks c.args.block c.in-Some.next.0 named)) in
    search rules

pub returns-in-Some : goal.returns-in-Some
returns-in-Some c =
    let l = c.args.self.now in
    let blocks = blocks_of l in
    let named : Contains (ids_of (body_at blocks c.args.block)) c.in-Some.next.0 = rw c.in-Some.is at c.requires.stands in
    gap-named l.bodies.items l.slots.items blocks c.args.block c.in-Some.next c.index.result.now c.requires.stored.linked named c.index.ensures
    ∙ ap (λ (o : Option InstrId). gap_at blocks (place c.args.block (spot_in (body_at blocks c.args.block).instrs o))) (sym c.in-Some.is)

pub returns-in-None : goal.returns-in-None
returns-in-None c =
    let l = c.args.self.now in
    let blocks = blocks_of l in
    gap-last l.bodies.items l.slots.items blocks c.args.block c.index-in-None.result.now c.requires.stored.linked c.requires.within c.index-in-None.ensures
    ∙ ap (λ (o : Option InstrId). gap_at blocks (place c.args.block (spot_in (body_at blocks c.args.block).instrs o))) (sym c.in-None.is)
