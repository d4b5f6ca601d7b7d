use Rattle.std.proofs.Common.{◌∙◌, ap}
use Rattle.std.specs.Prelude.{option_map}
use Rattle.gi_mir.specs.declared.block.Body.{Body}
use Rattle.gi_mir.specs.declared.block.InstrId.{InstrId}
use Rattle.gi_mir.specs.Arena.{blocks_of}
use Rattle.gi_mir.specs.Places.{body_at}
use Rattle.gi_mir.proofs.Linked.{last-named, linked-body}
use Rattle.gi_mir.proofs.layout.Layout.last_in.Goals as goal

pub returns : goal.returns
returns c =
    let l = c.args.self.now in
    let body = linked-body l.bodies.items l.slots.items (blocks_of l) c.args.block c.index.result.now c.requires.stored.linked c.requires.within c.index.ensures in
    ap (λ (b : Body). option_map (λ (id : InstrId). id.0) b.last) body ∙ last-named (body_at (blocks_of l) c.args.block).instrs
