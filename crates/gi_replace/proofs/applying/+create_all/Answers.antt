use Rattle.std.proofs.Common.{◌≡◌, ◌∷◌, ap, arith, length, true}
use Rattle.std.specs.List.{list_all}
use Rattle.gi_mir.specs.Formed.{is_formed}
use Rattle.gi_replace.proofs.Standing.{created-stands, created-within}
use Rattle.gi_replace.proofs.Told.{creations-then, rest-formed}
use Rattle.gi_replace.proofs.applying.+create_all.Goals as goal

pub create_all-requires : goal.create_all-requires
create_all-requires g t c κs within =
    let f = c.args.edit.now.function.now in
    let i = c.in-Some.instr in
    let left = c.pop_front.new.self.items in
    let items : c.args.made.now.items ≡ i ∷ left = c.in-Some.ensures.items in
    let after = c.in_ok-create-in-Some.ensures.ok in
    let formed : list_all is_formed (i ∷ left) ≡ true = rw items at c.requires.formed in (
      omega (arith, c.decreases, ap length items),
      (
        within,
        (
          created-within f c.create.new.self.function.now c.args.block c.args.before i after c.requires.within,
          (
            created-stands f c.create.new.self.function.now c.args.block c.args.before i after c.requires.within c.requires.stands,
            rest-formed is_formed (is_formed i) (list_all is_formed left) formed,
          ),
        ),
      ),
    )

pub returns-in_ok-create-in-Some-clause-replay : goal.returns-in_ok-create-in-Some-clause-replay
returns-in_ok-create-in-Some-clause-replay g t c =
    let first = c.in_ok-create-in-Some.ensures in
    creations-then c.args.block c.args.before c.args.made.now.items c.pop_front.new.self.items c.in-Some.instr c.args.edit.now.pass c.create.new.self.pass c.in_ok-create-in-Some.field-0 c.create_all.result
    c.args.edit.now.function.now c.create.new.self.function.now c.create_all.new.edit.function.now c.in-Some.ensures.items first.id first.pass first.ok first.replay c.create_all.ensures.replay
