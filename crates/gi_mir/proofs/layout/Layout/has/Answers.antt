-- A place of the arena is empty where no block has its id.
use Rattle.std.proofs.Common.{◌≡◌, ◌∙◌, ◌≤◌, Some, refl, sym, length, arith}
use Rattle.std.specs.Prelude.{slice_get}
use Rattle.std.proofs.lemmas.Bool.Decides.{nat_tests}
use Rattle.std.proofs.lemmas.Option.{slice_get_past, slice_get_read}
use Rattle.gi_mir.specs.Arena.{blocks_of}
use Rattle.gi_mir.proofs.Linked.{linked-missing, linked-tells}
use Rattle.gi_mir.proofs.layout.Layout.has.Goals as goal

pub returns-in-Some : goal.returns-in-Some
returns-in-Some c =
    let l = c.args.self.now in
    let looked = rw c.as_slice.ensures.value at c.in-Some.ensures.lookup in
    let found : slice_get l.slots.items c.args.id.0 ≡ Some c.in-Some.slot.now = slice_get_read l.slots.items _ c.args.id.0 c.in-Some.slot.now refl (grind (arith, nat_tests, looked.0)) looked.1 in
    c.is_some.ensures ∙ linked-tells l.bodies.items l.slots.items (blocks_of l) c.args.id.0 c.in-Some.slot.now c.requires.linked found

pub returns-in-None : goal.returns-in-None
returns-in-None c =
    let l = c.args.self.now in
    let looked = rw c.as_slice.ensures.value at c.in-None.ensures.lookup in
    let past : length l.slots.items ≤ c.args.id.0 = grind (arith, nat_tests, looked.0) in
    sym (linked-missing l.bodies.items l.slots.items (blocks_of l) c.args.id.0 c.requires.linked (slice_get_past l.slots.items c.args.id.0 past))
