use Rattle.std.proofs.Common.{◌≡◌, ◌-◌, ◌≤◌, length}
use Rattle.std.specs.Option.{option_map_or}
use Rattle.gi_mir.specs.Edit.{block_at, place_in_block}
use Rattle.gi_normalise.specs.Tables.{TellsAll}
use Rattle.gi_normalise.proofs.Forward.{IsFrom}
use Rattle.gi_normalise.proofs.forwards.apply_in.Given as goal

abbrev pub invariant-loop-at : goal.invariant-loop-at
invariant-loop-at g l =
    IsFrom (g.T.RuleTable.rows l.table) l.fn.edit.function.now (block_at l.fn.edit.function.now l.block).instrs l.at
    × (l.edit.function.now ≡ l.fn.edit.function.now)
    × TellsAll l.fn.edit.pass (g.O.ChangeObserver.tells l.fn.edit.observer.now) (g.O.ChangeObserver.seen l.fn.edit.observer.now) (g.O.ChangeObserver.seen l.edit.observer.now) l.fn.edit.function.now l.edit.function.now
    × (g.O.ChangeObserver.tells l.edit.observer.now ≡ g.O.ChangeObserver.tells l.fn.edit.observer.now)
    × (l.edit.function.ghost_name ≡ l.fn.edit.function.ghost_name)
    × (l.edit.observer.ghost_name ≡ l.fn.edit.observer.ghost_name)
    × (l.edit.pass ≡ l.fn.edit.pass)
    × (l.fn.steps ≤ l.steps)

-- how many stand from it on
abbrev pub decreases-loop-at : goal.decreases-loop-at
decreases-loop-at g l = option_map_or (λ id. length (block_at l.fn.edit.function.now l.block).instrs - place_in_block l.fn.edit.function.now id.0) l.at 0
