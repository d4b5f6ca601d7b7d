-- Labels rise along a block.
use Rattle.std.proofs.Common.{rules, ◌∙◌}
use Rattle.gi_mir.specs.Arena.{blocks_of}
use Rattle.gi_mir.proofs.Linked.{id_in-spot, order-home, order-read, order-tells, order-within}
use Rattle.gi_mir.proofs.layout.Layout.before.Goals as goal

pub index-requires : goal.index-requires
index-requires c =
    let blocks = blocks_of c.args.self.now in
    let within = order-within c.args.self.now.places.items blocks _ _ c.args.a.0 c.requires.stored.order (id_in-spot blocks c.args.a.0 c.requires.first) in
    search rules

pub index-requires-2 : goal.index-requires-2
index-requires-2 c =
    let blocks = blocks_of c.args.self.now in
    let within = order-within c.args.self.now.places.items blocks _ _ c.args.b.0 c.requires.stored.order (id_in-spot blocks c.args.b.0 c.requires.second) in
    search rules

pub returns : goal.returns
returns c =
    let blocks = blocks_of c.args.self.now in
    let places = c.args.self.now.places.items in
    let order = c.requires.stored.order in
    let first = id_in-spot blocks c.args.a.0 c.requires.first in
    let second = id_in-spot blocks c.args.b.0 c.requires.second in
    let p = c.index.result.now in
    let q = c.index-2.result.now in
    c.is_before.ensures
    ∙ order-tells places blocks _ _ c.args.a.0 _ _ c.args.b.0 p q order first second
    (order-read places blocks _ _ c.args.a.0 p order first c.index.ensures) (order-read places blocks _ _ c.args.b.0 q order second c.index-2.ensures)
    (order-home places blocks _ _ c.args.a.0 p order first c.index.ensures) (order-home places blocks _ _ c.args.b.0 q order second c.index-2.ensures)
