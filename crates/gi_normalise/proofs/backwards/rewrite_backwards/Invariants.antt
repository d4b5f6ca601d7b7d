use Rattle.std.proofs.Common.{◌≡◌}
use Rattle.gi_normalise.specs.Gaps.{IsClear}
use Rattle.gi_normalise.specs.Layout.{last_generic}
use Rattle.gi_normalise.proofs.Going.{IsGoing}
use Rattle.gi_normalise.proofs.backwards.rewrite_backwards.Given as goal

abbrev pub invariant-loop-at : goal.invariant-loop-at
invariant-loop-at g l =
    IsGoing last_generic (g.T.RuleTable.rows l.table) (g.T.RuleTable.is_fit l.table) (g.T.RuleTable.refines l.table) (g.T.RuleTable.weight l.table) l.fn.edit.function.now l.edit.function.now
    l.fn.edit.pass (g.O.ChangeObserver.tells l.fn.edit.observer.now) (g.O.ChangeObserver.seen l.fn.edit.observer.now) (g.O.ChangeObserver.seen l.edit.observer.now) l.fn.steps l.steps
    × IsClear l.edit.function.now l.gap
    × (g.O.ChangeObserver.tells l.edit.observer.now ≡ g.O.ChangeObserver.tells l.fn.edit.observer.now)
    × (l.edit.function.ghost_name ≡ l.fn.edit.function.ghost_name)
    × (l.edit.observer.ghost_name ≡ l.fn.edit.observer.ghost_name)
    × (l.edit.pass ≡ l.fn.edit.pass)

abbrev pub decreases-loop-at : goal.decreases-loop-at
decreases-loop-at g l = g.T.RuleTable.weight l.table l.edit.function.now
