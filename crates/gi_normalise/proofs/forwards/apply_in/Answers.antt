use Rattle.std.proofs.Common.{◌≡◌, ◌∙◌, arith}
use Rattle.gi_mir.specs.Edit.{block_at}
use Rattle.gi_normalise.specs.NormalForms.{first_fit}
use Rattle.gi_normalise.proofs.Forward.{fewer-from, from-next, is-now, none-from, now-fits}
use Rattle.gi_normalise.proofs.Going.{fitted, tells-both, tells-same, unfitted}
use Rattle.gi_normalise.proofs.forwards.apply_in.Goals as goal

pub try_at-requires-clause-live : goal.try_at-requires-clause-live
try_at-requires-clause-live g c =
    let f = c.args.edit.now.function.now in
    let own = rw (c.loop-at.invariant.1) at (rw (c.function-in-Some.ensures) at c.own_ids.ensures) in
    let now = is-now (g.T.RuleTable.rows c.args.table.now) f c.args.block c.loop-at.at c.in-Some.id own c.loop-at.invariant.0 c.in-Some.is in
    rw (c.loop-at.invariant.1) now.stands.live

pub returns-then-branch-clause-first : goal.returns-then-branch-clause-first
returns-then-branch-clause-first g c =
    let f = c.args.edit.now.function.now in
    let rows = g.T.RuleTable.rows c.args.table.now in
    let own = rw (c.loop-at.invariant.1) at (rw (c.function-in-Some.ensures) at c.own_ids.ensures) in
    let now = is-now rows f c.args.block c.loop-at.at c.in-Some.id own c.loop-at.invariant.0 c.in-Some.is in
    let first = rw (c.loop-at.invariant.1) at c.in_ok-try_at.ensures.first in
    now-fits rows f c.args.block c.in-Some.id c.try_at.new.edit.function.now now (fitted c.in_ok-try_at.field-0 (first_fit rows f c.in-Some.id.0) c.try_at.new.edit.function.now first c.if-branch.true)

pub returns-then-branch-clause-told : goal.returns-then-branch-clause-told
returns-then-branch-clause-told g c =
    let f = c.args.edit.now.function.now in
    let told = tells-same c.loop-at.edit.pass c.args.edit.now.pass (g.O.ChangeObserver.tells c.loop-at.edit.observer.now) (g.O.ChangeObserver.tells c.args.edit.now.observer.now) (g.O.ChangeObserver.seen c.loop-at.edit.observer.now) (g.O.ChangeObserver.seen c.try_at.new.edit.observer.now) c.loop-at.edit.function.now c.try_at.new.edit.function.now
    c.loop-at.invariant.6 c.loop-at.invariant.3 c.in_ok-try_at.ensures.told in
    tells-both c.args.edit.now.pass (g.O.ChangeObserver.tells c.args.edit.now.observer.now) (g.O.ChangeObserver.seen c.args.edit.now.observer.now) (g.O.ChangeObserver.seen c.loop-at.edit.observer.now) (g.O.ChangeObserver.seen c.try_at.new.edit.observer.now) f c.loop-at.edit.function.now c.try_at.new.edit.function.now
    c.loop-at.invariant.2 told

pub following-at-requires : goal.following-at-requires
following-at-requires g c =
    let f = c.args.edit.now.function.now in
    let own = rw (c.loop-at.invariant.1) at (rw (c.function-in-Some.ensures) at c.own_ids.ensures) in
    let now = is-now (g.T.RuleTable.rows c.args.table.now) f c.args.block c.loop-at.at c.in-Some.id own c.loop-at.invariant.0 c.in-Some.is in
    let same : c.function-in-Some-2.result.now ≡ f = c.function-in-Some-2.ensures ∙ c.in_ok-try_at.ensures.unchanged c.if-branch.false ∙ c.loop-at.invariant.1 in
    rw same now.stands.live

pub loop-at-smaller : goal.loop-at-smaller
loop-at-smaller g c =
    let f = c.args.edit.now.function.now in
    let rows = g.T.RuleTable.rows c.args.table.now in
    let own = rw (c.loop-at.invariant.1) at (rw (c.function-in-Some.ensures) at c.own_ids.ensures) in
    let now = is-now rows f c.args.block c.loop-at.at c.in-Some.id own c.loop-at.invariant.0 c.in-Some.is in
    let same : c.function-in-Some-2.result.now ≡ f = c.function-in-Some-2.ensures ∙ c.in_ok-try_at.ensures.unchanged c.if-branch.false ∙ c.loop-at.invariant.1 in
    rw (c.in-Some.is) (fewer-from rows f c.args.block c.in-Some.id c.following-at.result own now (rw same at c.following-at.ensures))

pub loop-at-preserved : goal.loop-at-preserved
loop-at-preserved g c =
    let f = c.args.edit.now.function.now in
    let rows = g.T.RuleTable.rows c.args.table.now in
    let own = rw (c.loop-at.invariant.1) at (rw (c.function-in-Some.ensures) at c.own_ids.ensures) in
    let now = is-now rows f c.args.block c.loop-at.at c.in-Some.id own c.loop-at.invariant.0 c.in-Some.is in
    let same : c.function-in-Some-2.result.now ≡ f = c.function-in-Some-2.ensures ∙ c.in_ok-try_at.ensures.unchanged c.if-branch.false ∙ c.loop-at.invariant.1 in
    let first = rw (c.loop-at.invariant.1) at c.in_ok-try_at.ensures.first in
    let told = tells-same c.loop-at.edit.pass c.args.edit.now.pass (g.O.ChangeObserver.tells c.loop-at.edit.observer.now) (g.O.ChangeObserver.tells c.args.edit.now.observer.now) (g.O.ChangeObserver.seen c.loop-at.edit.observer.now) (g.O.ChangeObserver.seen c.try_at.new.edit.observer.now) c.loop-at.edit.function.now c.try_at.new.edit.function.now
    c.loop-at.invariant.6 c.loop-at.invariant.3 c.in_ok-try_at.ensures.told in (
      from-next rows f c.args.block c.in-Some.id c.following-at.result now (unfitted c.in_ok-try_at.field-0 (first_fit rows f c.in-Some.id.0) c.try_at.new.edit.function.now first c.if-branch.false) (rw same at c.following-at.ensures),
      c.in_ok-try_at.ensures.unchanged c.if-branch.false ∙ c.loop-at.invariant.1,
      tells-both c.args.edit.now.pass (g.O.ChangeObserver.tells c.args.edit.now.observer.now) (g.O.ChangeObserver.seen c.args.edit.now.observer.now) (g.O.ChangeObserver.seen c.loop-at.edit.observer.now) (g.O.ChangeObserver.seen c.try_at.new.edit.observer.now) f c.loop-at.edit.function.now c.try_at.new.edit.function.now
          c.loop-at.invariant.2 told,
      c.in_ok-try_at.ensures.tells_stays ∙ c.loop-at.invariant.3,
      c.in_ok-try_at.ensures.same_function ∙ c.loop-at.invariant.4,
      c.in_ok-try_at.ensures.same_observer ∙ c.loop-at.invariant.5,
      c.in_ok-try_at.ensures.pass ∙ c.loop-at.invariant.6,
      omega (arith, c.loop-at.invariant.7, c.in_ok-try_at.ensures.counted),
    )

pub returns-clause-first : goal.returns-clause-first
returns-clause-first g c =
    let f = c.args.edit.now.function.now in
    none-from (g.T.RuleTable.rows c.args.table.now) f (block_at f c.args.block).instrs c.loop-at.at c.loop-at.invariant.0 c.in_default.is
