use Rattle.std.proofs.Common.{◌<◌, ◌∙◌, arith, length, refl}
use Rattle.gi_mir.specs.Edit.{block_at, ids_of}
use Rattle.gi_normalise.specs.Layout.{first_in}
use Rattle.gi_normalise.proofs.Forward.{block-fits, block-passed, next-first}
use Rattle.gi_normalise.proofs.Going.{fitted, tells-both, tells-none, tells-same, unfitted}
use Rattle.gi_normalise.proofs.forwards.apply_somewhere.Goals as goal

pub loop-block-init : goal.loop-block-init
loop-block-init g c =
    let f = c.args.edit.now.function.now in (
      next-first (g.T.RuleTable.rows c.args.table.now) f,
      refl,
      tells-none c.args.edit.now.pass (g.O.ChangeObserver.tells c.args.edit.now.observer.now) (g.O.ChangeObserver.seen c.args.edit.now.observer.now) f,
      refl,
      refl,
      refl,
      refl,
      omega arith,
    )

pub returns-then-branch-clause-next : goal.returns-then-branch-clause-next
returns-then-branch-clause-next g c =
    let f = c.args.edit.now.function.now in
    let rows = g.T.RuleTable.rows c.args.table.now in
    let within : c.loop-block.block < length f.blocks = omega (arith, rw (c.function.ensures) at c.block_count-block-end.ensures.count, c.loop-block-test.true) in
    let first = rw (c.loop-block.invariant.1) at c.in_ok-apply_in.ensures.first in
    c.loop-block.invariant.0 ∙ block-fits rows f c.loop-block.block c.apply_in.new.edit.function.now within (fitted c.in_ok-apply_in.field-0 (first_in rows f (ids_of (block_at f c.loop-block.block))) c.apply_in.new.edit.function.now first c.if-branch.true)

pub returns-then-branch-clause-told : goal.returns-then-branch-clause-told
returns-then-branch-clause-told g c =
    let f = c.args.edit.now.function.now in
    let told = tells-same c.loop-block.edit.pass c.args.edit.now.pass (g.O.ChangeObserver.tells c.loop-block.edit.observer.now) (g.O.ChangeObserver.tells c.args.edit.now.observer.now) (g.O.ChangeObserver.seen c.loop-block.edit.observer.now) (g.O.ChangeObserver.seen c.apply_in.new.edit.observer.now) c.loop-block.edit.function.now c.apply_in.new.edit.function.now
    c.loop-block.invariant.6 c.loop-block.invariant.3 c.in_ok-apply_in.ensures.told in
    tells-both c.args.edit.now.pass (g.O.ChangeObserver.tells c.args.edit.now.observer.now) (g.O.ChangeObserver.seen c.args.edit.now.observer.now) (g.O.ChangeObserver.seen c.loop-block.edit.observer.now) (g.O.ChangeObserver.seen c.apply_in.new.edit.observer.now) f c.loop-block.edit.function.now c.apply_in.new.edit.function.now
    c.loop-block.invariant.2 told

pub loop-block-preserved : goal.loop-block-preserved
loop-block-preserved g c =
    let f = c.args.edit.now.function.now in
    let rows = g.T.RuleTable.rows c.args.table.now in
    let within : c.loop-block.block < length f.blocks = omega (arith, rw (c.function.ensures) at c.block_count-block-end.ensures.count, c.loop-block-test.true) in
    let first = rw (c.loop-block.invariant.1) at c.in_ok-apply_in.ensures.first in
    let none = unfitted c.in_ok-apply_in.field-0 (first_in rows f (ids_of (block_at f c.loop-block.block))) c.apply_in.new.edit.function.now first c.if-branch.false in
    let told = tells-same c.loop-block.edit.pass c.args.edit.now.pass (g.O.ChangeObserver.tells c.loop-block.edit.observer.now) (g.O.ChangeObserver.tells c.args.edit.now.observer.now) (g.O.ChangeObserver.seen c.loop-block.edit.observer.now) (g.O.ChangeObserver.seen c.apply_in.new.edit.observer.now) c.loop-block.edit.function.now c.apply_in.new.edit.function.now
    c.loop-block.invariant.6 c.loop-block.invariant.3 c.in_ok-apply_in.ensures.told in (
      c.loop-block.invariant.0 ∙ block-passed rows f c.loop-block.block within none,
      c.in_ok-apply_in.ensures.unchanged c.if-branch.false ∙ c.loop-block.invariant.1,
      tells-both c.args.edit.now.pass (g.O.ChangeObserver.tells c.args.edit.now.observer.now) (g.O.ChangeObserver.seen c.args.edit.now.observer.now) (g.O.ChangeObserver.seen c.loop-block.edit.observer.now) (g.O.ChangeObserver.seen c.apply_in.new.edit.observer.now) f c.loop-block.edit.function.now c.apply_in.new.edit.function.now
          c.loop-block.invariant.2 told,
      c.in_ok-apply_in.ensures.tells_stays ∙ c.loop-block.invariant.3,
      c.in_ok-apply_in.ensures.same_function ∙ c.loop-block.invariant.4,
      c.in_ok-apply_in.ensures.same_observer ∙ c.loop-block.invariant.5,
      c.in_ok-apply_in.ensures.pass ∙ c.loop-block.invariant.6,
      omega (arith, c.loop-block.invariant.7, c.in_ok-apply_in.ensures.steps),
    )
