-- The place of an instruction that is in a block is written down.
use Rattle.std.proofs.Common.{rules}
use Rattle.gi_mir.specs.Arena.{blocks_of}
use Rattle.gi_mir.proofs.Linked.{id_in-spot, order-home, order-within}
use Rattle.gi_mir.proofs.Located.{id_in-within}
use Rattle.gi_mir.proofs.layout.Layout.block_of.Goals as goal

pub index-requires : goal.index-requires
index-requires c =
    let blocks = blocks_of c.args.self.now in
    let within = order-within c.args.self.now.places.items blocks _ _ c.args.id.0 c.requires.stored.order (id_in-spot blocks c.args.id.0 c.requires.stands) in
    search rules

pub returns-clause-home : goal.returns-clause-home
returns-clause-home c =
    let blocks = blocks_of c.args.self.now in
    order-home c.args.self.now.places.items blocks _ _ c.args.id.0 c.index.result.now c.requires.stored.order (id_in-spot blocks c.args.id.0 c.requires.stands) c.index.ensures

pub returns-clause-within : goal.returns-clause-within
returns-clause-within c =
    let blocks = blocks_of c.args.self.now in
    rw (returns-clause-home c) (id_in-within c.args.id.0 blocks _ _ (id_in-spot blocks c.args.id.0 c.requires.stands))
