-- The lists are merged first, and then the users changed.
use Rattle.std.proofs.Common.{◌≡◌, ◌∙◌, List, length, ap, sym, subst}
use Rattle.std.specs.Prelude.{map}
use Rattle.std.specs.Vec.{with_items}
use Rattle.std.proofs.lemmas.List.{length-map, with_items_is}
use Rattle.gi_mir.specs.declared.block.Slot.{Slot}
use Rattle.gi_mir.specs.Arena.{blocks_of, slot_changed}
use Rattle.gi_mir.specs.Mentions.{use_key}
use Rattle.gi_mir.specs.Uses.{block_replaced, instr_replaced}
use Rattle.gi_mir.proofs.Merging.{spelled-moved, users-listed}
use Rattle.gi_mir.proofs.Replacing.{blocks_same}
use Rattle.gi_mir.proofs.Stored.{IsSpelled, spelled-blocks, spelled-stored, stored-spelled}
use Rattle.gi_mir.proofs.layout.Layout.replace_reg.Goals as goal

pub returns-then-old-new-clause-ok : goal.returns-then-old-new-clause-ok
returns-then-old-new-clause-ok c =
    sym (blocks_same c.args.old.0 (blocks_of c.args.self.now)) ∙ ap (λ n. map (block_replaced c.args.old.0 n) (blocks_of c.args.self.now)) c.if-old-new.true

pub replace_among-requires-clause-users : goal.replace_among-requires-clause-users
replace_among-requires-clause-users c =
    let l = c.args.self.now in
    rw (c.as_mut_slice.ensures.value, c.as_slice-2.ensures.value, c.in_ok-users.ensures.users, c.requires.has_mentions (use_key c.args.old.0))
    (users-listed l.bodies.items l.slots.items l.places.items l.mentions (blocks_of l) c.args.old.0 (stored-spelled l c.requires))

moved : (c : goal.After-drop-users) → IsSpelled c.args.self.now.bodies.items (with_items c.args.self.now.slots c.replace_among.new.slots).items c.args.self.now.places.items c.replace.new.self (map (block_replaced c.args.old.0 c.args.new.0) (blocks_of c.args.self.now))
moved c =
    let l = c.args.self.now in
    let changed : c.replace_among.new.slots ≡ map (slot_changed (instr_replaced c.args.old.0 c.args.new.0)) l.slots.items = c.replace_among.ensures ∙ ap (map (slot_changed (instr_replaced c.args.old.0 c.args.new.0))) c.as_mut_slice.ensures.value in
    let count = ap length changed ∙ length-map l.slots.items (slot_changed (instr_replaced c.args.old.0 c.args.new.0)) in
    let lists = rw c.as_slice.ensures.value at c.in_ok-users.ensures.ok in
    subst (λ (xs : List Slot). IsSpelled l.bodies.items xs l.places.items c.replace.new.self (map (block_replaced c.args.old.0 c.args.new.0) (blocks_of l)))
    (sym (with_items_is l.slots c.replace_among.new.slots (count ∙ sym l.slots.ok.0) ∙ changed))
    (spelled-moved l.bodies.items l.slots.items l.places.items l.mentions c.replace.new.self (blocks_of l) c.args.old.0 c.args.new.0 c.if-old-new.false lists (stored-spelled l c.requires))

pub returns-clause-ok : goal.returns-clause-ok
returns-clause-ok c = spelled-blocks (moved c)

pub returns-clause-stored : goal.returns-clause-stored
returns-clause-stored c = spelled-stored _ _ (moved c)
