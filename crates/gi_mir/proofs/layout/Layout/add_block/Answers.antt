use Rattle.std.proofs.Common.{rules, ◌≡◌, ◌++◌, ◌∷◌, []}
use Rattle.gi_mir.specs.Arena.{blocks_of, body_with}
use Rattle.gi_mir.specs.Edit.{block_with}
use Rattle.gi_mir.proofs.Stored.{IsSpelled, spelled-added, spelled-stored, stored-spelled}
use Rattle.gi_mir.proofs.layout.Layout.add_block.Goals as goal

pub returns-clause-stored : goal.returns-clause-stored
returns-clause-stored c =
    let l = c.args.self.now in
    let put : c.push.new.self.items ≡ l.bodies.items ++ body_with c.args.block ∷ [] = search rules in
    let added : IsSpelled c.push.new.self.items l.slots.items l.places.items l.mentions (blocks_of l ++ block_with c.args.block ∷ []) = rw put (spelled-added l.bodies.items l.slots.items l.places.items l.mentions (blocks_of l) c.args.block (stored-spelled l c.requires)) in
    spelled-stored _ _ added
