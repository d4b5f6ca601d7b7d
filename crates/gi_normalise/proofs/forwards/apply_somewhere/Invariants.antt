use Rattle.std.proofs.Common.{◌≡◌, ◌≤◌, drop}
use Rattle.std.specs.Prelude.{map}
use Rattle.gi_mir.specs.Edit.{all_instrs}
use Rattle.gi_normalise.specs.Layout.{first_in, first_place}
use Rattle.gi_normalise.specs.NormalForms.{next_by}
use Rattle.gi_normalise.specs.Tables.{TellsAll}
use Rattle.gi_normalise.proofs.forwards.apply_somewhere.Given as goal

abbrev pub invariant-loop-block : goal.invariant-loop-block
invariant-loop-block g l =
    (next_by first_place (g.T.RuleTable.rows l.table) l.fn.edit.function.now ≡ first_in (g.T.RuleTable.rows l.table) l.fn.edit.function.now (map (λ p. p.0) (all_instrs (drop l.block l.fn.edit.function.now.blocks))))
    × (l.edit.function.now ≡ l.fn.edit.function.now)
    × TellsAll l.fn.edit.pass (g.O.ChangeObserver.tells l.fn.edit.observer.now) (g.O.ChangeObserver.seen l.fn.edit.observer.now) (g.O.ChangeObserver.seen l.edit.observer.now) l.fn.edit.function.now l.edit.function.now
    × (g.O.ChangeObserver.tells l.edit.observer.now ≡ g.O.ChangeObserver.tells l.fn.edit.observer.now)
    × (l.edit.function.ghost_name ≡ l.fn.edit.function.ghost_name)
    × (l.edit.observer.ghost_name ≡ l.fn.edit.observer.ghost_name)
    × (l.edit.pass ≡ l.fn.edit.pass)
    × (l.fn.steps ≤ l.steps)
