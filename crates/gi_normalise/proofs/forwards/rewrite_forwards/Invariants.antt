use Rattle.std.proofs.Common.{◌≡◌}
use Rattle.gi_normalise.specs.Layout.{first_place}
use Rattle.gi_normalise.proofs.Going.{IsGoing}
use Rattle.gi_normalise.proofs.forwards.rewrite_forwards.Given as goal

abbrev pub invariant-loop : goal.invariant-loop
invariant-loop g l =
    IsGoing first_place (g.T.RuleTable.rows l.table) (g.T.RuleTable.is_fit l.table) (g.T.RuleTable.refines l.table) (g.T.RuleTable.weight l.table) l.fn.edit.function.now l.edit.function.now
    l.fn.edit.pass (g.O.ChangeObserver.tells l.fn.edit.observer.now) (g.O.ChangeObserver.seen l.fn.edit.observer.now) (g.O.ChangeObserver.seen l.edit.observer.now) l.fn.steps l.steps
    × (g.O.ChangeObserver.tells l.edit.observer.now ≡ g.O.ChangeObserver.tells l.fn.edit.observer.now)
    × (l.edit.function.ghost_name ≡ l.fn.edit.function.ghost_name)
    × (l.edit.observer.ghost_name ≡ l.fn.edit.observer.ghost_name)
    × (l.edit.pass ≡ l.fn.edit.pass)

abbrev pub decreases-loop : goal.decreases-loop
decreases-loop g l = g.T.RuleTable.weight l.table l.edit.function.now
