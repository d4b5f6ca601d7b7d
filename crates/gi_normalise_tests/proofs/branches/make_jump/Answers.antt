use Rattle.std.proofs.Common.{◌∙◌, ap}
use Rattle.gi_mir.specs.Formed.{is_formed}
use Rattle.gi_mir.specs.Data.{InstrData}
use Rattle.gi_observe.specs.declared.change.ChangeKind.TheVariants.{Created, Erased}
use Rattle.gi_replace.proofs.Standing.{instr-live}
use Rattle.gi_replace.proofs.Told.{next-named, stands-behind}
use Rattle.gi_normalise.proofs.Going.{tells-both, tells-one, tells-same}
use Rattle.gi_normalise_tests.proofs.Jumps.{jump-formed}
use Rattle.gi_normalise_tests.proofs.branches.make_jump.Goals as goal

pub create-requires-clause-stands : goal.create-requires-clause-stands
create-requires-clause-stands g c =
    let f = c.args.edit.now.function.now in
    stands-behind f c.erase.new.self.function.now c.args.at.0 c.block_of-block.result c.following-before.result c.requires (rw c.function-3.ensures at c.block_of-block.ensures.home) (next-named f c.args.at.0 c.following-before.result (rw c.function-4.ensures at c.following-before.ensures))
    c.in_ok-erase.ensures.rest

pub create-requires-clause-formed : goal.create-requires-clause-formed
create-requires-clause-formed g c = ap (λ (i : InstrData). is_formed i) c.in_ok-jump.ensures ∙ jump-formed c.in-Some.target c.behind-function.inside.line

pub returns-clause-told : goal.returns-clause-told
returns-clause-told g c =
    let f = c.args.edit.now.function.now in
    let h = c.erase.new.self.function.now in
    let next = c.create.new.self.function.now in
    let (i, there) = instr-live f c.args.at.0 c.requires in
    let start = g.O.ChangeObserver.seen c.args.edit.now.observer.now in
    let middle = g.O.ChangeObserver.seen c.erase.new.self.observer.now in
    let last = g.O.ChangeObserver.seen c.create.new.self.observer.now in
    let tells = g.O.ChangeObserver.tells c.args.edit.now.observer.now in
    let one = tells-one c.args.edit.now.pass tells start middle f h (Erased c.args.at i) (rw there at c.in_ok-erase.ensures.replay) (rw there at c.in_ok-erase.ensures.told) in
    let two = tells-one c.erase.new.self.pass (g.O.ChangeObserver.tells c.erase.new.self.observer.now) middle last h next (Created c.in_ok-create.field-0 c.block_of-block.result c.following-before.result c.in_ok-jump.jump) c.in_ok-create.ensures.replay c.in_ok-create.ensures.told in
    tells-both c.args.edit.now.pass tells start middle last f h next one
    (tells-same c.erase.new.self.pass c.args.edit.now.pass (g.O.ChangeObserver.tells c.erase.new.self.observer.now) tells middle last h next c.in_ok-erase.ensures.pass c.in_ok-erase.ensures.tells_stays two)
