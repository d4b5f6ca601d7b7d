use Rattle.std.proofs.Common.{◌+◌, ◌≤◌, ◌∙◌}
use Rattle.gi_normalise.specs.Layout.{IsStanding, first_place}
use Rattle.gi_normalise.specs.NormalForms.{next_by}
use Rattle.gi_normalise.proofs.Firsts.{first-live}
use Rattle.gi_normalise.proofs.Going.{fitted, going-ends, going-next, next-falls, tells-both, tells-same, unfitted}
use Rattle.gi_normalise.proofs.forwards.rewrite_forwards.Goals as goal

pub returns-then-not-branch-clause-normalised : goal.returns-then-not-branch-clause-normalised
returns-then-not-branch-clause-normalised g c =
    let t = c.args.table.now in
    let now = c.loop.edit.function.now in
    let none = unfitted c.in_ok-apply_somewhere.field-0 (next_by first_place (g.T.RuleTable.rows t) now) c.apply_somewhere.new.edit.function.now c.in_ok-apply_somewhere.ensures.next c.if-not-branch.true in
    rw (c.in_ok-apply_somewhere.ensures.unchanged c.if-not-branch.true)
    (going-ends first_place (g.T.RuleTable.rows t) (g.T.RuleTable.is_fit t) (g.T.RuleTable.refines t) (g.T.RuleTable.weight t) c.args.edit.now.function.now now c.args.edit.now.pass (g.O.ChangeObserver.tells c.args.edit.now.observer.now)
    (g.O.ChangeObserver.seen c.args.edit.now.observer.now) (g.O.ChangeObserver.seen c.loop.edit.observer.now) c.args.steps.now c.loop.steps c.apply_somewhere.new.steps
    c.loop.invariant.0 c.in_ok-apply_somewhere.ensures.steps none)

pub returns-then-not-branch-clause-told : goal.returns-then-not-branch-clause-told
returns-then-not-branch-clause-told g c =
    let f = c.args.edit.now.function.now in
    let now = c.loop.edit.function.now in
    let next = c.apply_somewhere.new.edit.function.now in
    let told = tells-same c.loop.edit.pass c.args.edit.now.pass (g.O.ChangeObserver.tells c.loop.edit.observer.now) (g.O.ChangeObserver.tells c.args.edit.now.observer.now) (g.O.ChangeObserver.seen c.loop.edit.observer.now) (g.O.ChangeObserver.seen c.apply_somewhere.new.edit.observer.now) now next
    c.loop.invariant.4 c.loop.invariant.1 c.in_ok-apply_somewhere.ensures.told in
    tells-both c.args.edit.now.pass (g.O.ChangeObserver.tells c.args.edit.now.observer.now) (g.O.ChangeObserver.seen c.args.edit.now.observer.now) (g.O.ChangeObserver.seen c.loop.edit.observer.now) (g.O.ChangeObserver.seen c.apply_somewhere.new.edit.observer.now) f now next c.loop.invariant.0.told told

pub loop-smaller : goal.loop-smaller
loop-smaller g c =
    let t = c.args.table.now in
    let now = c.loop.edit.function.now in
    let next = c.apply_somewhere.new.edit.function.now in
    let standing : IsStanding first_place = record { live = first-live } in
    let is = fitted c.in_ok-apply_somewhere.field-0 (next_by first_place (g.T.RuleTable.rows t) now) next c.in_ok-apply_somewhere.ensures.next c.if-not-branch.false in
    next-falls first_place (g.T.RuleTable.rows t) (g.T.RuleTable.is_fit t) (g.T.RuleTable.refines t) (g.T.RuleTable.weight t) now next standing (g.met.T.RuleTable.sound t) c.loop.invariant.0.way.fit is

pub loop-preserved : goal.loop-preserved
loop-preserved g c =
    let t = c.args.table.now in
    let f = c.args.edit.now.function.now in
    let now = c.loop.edit.function.now in
    let next = c.apply_somewhere.new.edit.function.now in
    let standing : IsStanding first_place = record { live = first-live } in
    let is = fitted c.in_ok-apply_somewhere.field-0 (next_by first_place (g.T.RuleTable.rows t) now) next c.in_ok-apply_somewhere.ensures.next c.if-not-branch.false in
    let told = tells-same c.loop.edit.pass c.args.edit.now.pass (g.O.ChangeObserver.tells c.loop.edit.observer.now) (g.O.ChangeObserver.tells c.args.edit.now.observer.now) (g.O.ChangeObserver.seen c.loop.edit.observer.now) (g.O.ChangeObserver.seen c.apply_somewhere.new.edit.observer.now) now next
    c.loop.invariant.4 c.loop.invariant.1 c.in_ok-apply_somewhere.ensures.told in
    let one : c.loop.steps + 1 ≤ c.apply_somewhere.new.steps = c.in_ok-apply_somewhere.ensures.counted c.if-not-branch.false in (
      going-next first_place (g.T.RuleTable.rows t) (g.T.RuleTable.is_fit t) (g.T.RuleTable.refines t) (g.T.RuleTable.weight t) f now next c.args.edit.now.pass (g.O.ChangeObserver.tells c.args.edit.now.observer.now)
          (g.O.ChangeObserver.seen c.args.edit.now.observer.now) (g.O.ChangeObserver.seen c.loop.edit.observer.now) (g.O.ChangeObserver.seen c.apply_somewhere.new.edit.observer.now) c.args.steps.now c.loop.steps c.apply_somewhere.new.steps
          standing (g.met.T.RuleTable.sound t) c.loop.invariant.0 is told one,
      c.in_ok-apply_somewhere.ensures.tells_stays ∙ c.loop.invariant.1,
      c.in_ok-apply_somewhere.ensures.same_function ∙ c.loop.invariant.2,
      c.in_ok-apply_somewhere.ensures.same_observer ∙ c.loop.invariant.3,
      c.in_ok-apply_somewhere.ensures.pass ∙ c.loop.invariant.4,
    )
