use Rattle.std.proofs.Common.{◌≡◌, ◌∙◌, None, Some, ap, arith, option_map, refl, sym}
use Rattle.gi_mir.specs.declared.block.InstrId.{InstrId}
use Rattle.gi_normalise.specs.Layout.{last_generic}
use Rattle.gi_normalise.specs.NormalForms.{first_fit, fits}
use Rattle.gi_normalise.proofs.Clear.{clear-after, clear-last}
use Rattle.gi_normalise.proofs.Going.{fitted, going-begins, going-ends, going-on, none-chosen, none-fits, tells-both, tells-same, unfitted}
use Rattle.gi_normalise.proofs.backwards.rewrite_backwards.Goals as goal

pub loop-at-init : goal.loop-at-init
loop-at-init g c =
    let f = c.args.edit.now.function.now in
    let t = c.args.table.now in (
      going-begins last_generic (g.T.RuleTable.rows t) (g.T.RuleTable.is_fit t) (g.T.RuleTable.refines t) (g.T.RuleTable.weight t) f c.args.edit.now.pass (g.O.ChangeObserver.tells c.args.edit.now.observer.now) (g.O.ChangeObserver.seen c.args.edit.now.observer.now) c.args.steps.now
          (g.met.T.RuleTable.sound t) c.requires,
      clear-last f c.end-gap.result (omega (arith, c.end-gap.ensures.block, rw c.function.ensures at c.block_count-blocks.ensures.count, c.if-blocks-eq0.false)) c.end-gap.ensures.end,
      refl,
      refl,
      refl,
      refl,
    )

pub returns-then-not-branch-clause-normalised : goal.returns-then-not-branch-clause-normalised
returns-then-not-branch-clause-normalised g c =
    let t = c.args.table.now in
    let now = c.loop-at.edit.function.now in
    let chosen : last_generic (fits (g.T.RuleTable.rows t) now) now ≡ Some c.in-Some.at.0 = sym (rw c.function-in-loop-at.ensures at (c.generic_before.ensures.last (fits (g.T.RuleTable.rows t) now))) ∙ ap (option_map (λ (id : InstrId). id.0)) c.in-Some.is in
    let none = unfitted c.in_ok-try_at.field-0 (first_fit (g.T.RuleTable.rows t) now c.in-Some.at.0) c.try_at.new.edit.function.now c.in_ok-try_at.ensures.first c.if-not-branch.true in
    let left = going-ends last_generic (g.T.RuleTable.rows t) (g.T.RuleTable.is_fit t) (g.T.RuleTable.refines t) (g.T.RuleTable.weight t) c.args.edit.now.function.now now c.args.edit.now.pass (g.O.ChangeObserver.tells c.args.edit.now.observer.now)
    (g.O.ChangeObserver.seen c.args.edit.now.observer.now) (g.O.ChangeObserver.seen c.loop-at.edit.observer.now) c.args.steps.now c.loop-at.steps c.try_at.new.steps
    c.loop-at.invariant.0 (omega (arith, c.in_ok-try_at.ensures.counted)) (none-fits last_generic (g.T.RuleTable.rows t) now c.in-Some.at.0 chosen none) in
    rw (c.in_ok-try_at.ensures.unchanged c.if-not-branch.true) left

pub returns-then-not-branch-clause-told : goal.returns-then-not-branch-clause-told
returns-then-not-branch-clause-told g c =
    let f = c.args.edit.now.function.now in
    let now = c.loop-at.edit.function.now in
    let next = c.try_at.new.edit.function.now in
    let told = tells-same c.loop-at.edit.pass c.args.edit.now.pass (g.O.ChangeObserver.tells c.loop-at.edit.observer.now) (g.O.ChangeObserver.tells c.args.edit.now.observer.now) (g.O.ChangeObserver.seen c.loop-at.edit.observer.now) (g.O.ChangeObserver.seen c.try_at.new.edit.observer.now) now next
    c.loop-at.invariant.5 c.loop-at.invariant.2 c.in_ok-try_at.ensures.told in
    tells-both c.args.edit.now.pass (g.O.ChangeObserver.tells c.args.edit.now.observer.now) (g.O.ChangeObserver.seen c.args.edit.now.observer.now) (g.O.ChangeObserver.seen c.loop-at.edit.observer.now) (g.O.ChangeObserver.seen c.try_at.new.edit.observer.now) f now next c.loop-at.invariant.0.told told

pub loop-at-preserved : goal.loop-at-preserved
loop-at-preserved g c =
    let t = c.args.table.now in
    let f = c.args.edit.now.function.now in
    let now = c.loop-at.edit.function.now in
    let next = c.try_at.new.edit.function.now in
    let chosen : last_generic (fits (g.T.RuleTable.rows t) now) now ≡ Some c.in-Some.at.0 = sym (rw c.function-in-loop-at.ensures at (c.generic_before.ensures.last (fits (g.T.RuleTable.rows t) now))) ∙ ap (option_map (λ (id : InstrId). id.0)) c.in-Some.is in
    let step = fitted c.in_ok-try_at.field-0 (first_fit (g.T.RuleTable.rows t) now c.in-Some.at.0) next c.in_ok-try_at.ensures.first c.if-not-branch.false in
    let told = tells-same c.loop-at.edit.pass c.args.edit.now.pass (g.O.ChangeObserver.tells c.loop-at.edit.observer.now) (g.O.ChangeObserver.tells c.args.edit.now.observer.now) (g.O.ChangeObserver.seen c.loop-at.edit.observer.now) (g.O.ChangeObserver.seen c.try_at.new.edit.observer.now) now next
    c.loop-at.invariant.5 c.loop-at.invariant.2 c.in_ok-try_at.ensures.told in
    let live = rw c.function-in-loop-at.ensures at c.in-Some.ensures.live in (
      going-on last_generic (g.T.RuleTable.rows t) (g.T.RuleTable.is_fit t) (g.T.RuleTable.refines t) (g.T.RuleTable.weight t) f now next c.args.edit.now.pass (g.O.ChangeObserver.tells c.args.edit.now.observer.now)
          (g.O.ChangeObserver.seen c.args.edit.now.observer.now) (g.O.ChangeObserver.seen c.loop-at.edit.observer.now) (g.O.ChangeObserver.seen c.try_at.new.edit.observer.now) c.args.steps.now c.loop-at.steps c.try_at.new.steps c.in-Some.at.0
          (g.met.T.RuleTable.sound t) c.loop-at.invariant.0 live chosen step told (omega (arith, c.in_ok-try_at.ensures.counted)),
      clear-after now next c.after-gap.result c.in-Some.at.0 (fits (g.T.RuleTable.rows t) now) (rw c.function-in-Some-2.ensures at c.own_ids.ensures) chosen
          ((g.met.T.LocalTable.local t).local now next c.in-Some.at.0 c.loop-at.invariant.0.way.fit live step) (rw c.function-in-Some.ensures at c.after-gap.ensures.block) (rw c.function-in-Some.ensures at c.after-gap.ensures.behind),
      c.in_ok-try_at.ensures.tells_stays ∙ c.loop-at.invariant.2,
      c.in_ok-try_at.ensures.same_function ∙ c.loop-at.invariant.3,
      c.in_ok-try_at.ensures.same_observer ∙ c.loop-at.invariant.4,
      c.in_ok-try_at.ensures.pass ∙ c.loop-at.invariant.5,
    )

pub returns-clause-normalised : goal.returns-clause-normalised
returns-clause-normalised g c =
    let t = c.args.table.now in
    let now = c.loop-at.edit.function.now in
    let none : last_generic (fits (g.T.RuleTable.rows t) now) now ≡ None = sym (rw c.function-in-loop-at.ensures at (c.generic_before.ensures.last (fits (g.T.RuleTable.rows t) now))) ∙ ap (option_map (λ (id : InstrId). id.0)) c.in_default.is in
    going-ends last_generic (g.T.RuleTable.rows t) (g.T.RuleTable.is_fit t) (g.T.RuleTable.refines t) (g.T.RuleTable.weight t) c.args.edit.now.function.now now c.args.edit.now.pass (g.O.ChangeObserver.tells c.args.edit.now.observer.now)
    (g.O.ChangeObserver.seen c.args.edit.now.observer.now) (g.O.ChangeObserver.seen c.loop-at.edit.observer.now) c.args.steps.now c.loop-at.steps c.loop-at.steps
    c.loop-at.invariant.0 (omega arith) (none-chosen last_generic (g.T.RuleTable.rows t) now none)
