use Rattle.std.proofs.Common.{◌≡◌, ◌++◌, IsTrue, ℕ, drop, take}
use Rattle.std.specs.Prelude.{map}
use Rattle.gi_mir.specs.Edit.{users_of}
use Rattle.gi_mir.specs.InstrLists.{ids_left}
use Rattle.gi_observe.specs.Replay.{replacements}
use Rattle.gi_observe.proofs.editor.tell_replacements.Given as goal

-- the changes of the instructions so far were told, and the others are still to come
abbrev pub invariant-loop-id : goal.invariant-loop-id
invariant-loop-id g l = record {
  tells_stays : g.O.ChangeObserver.tells l.observer ≡ g.O.ChangeObserver.tells l.initial.observer;
  told : (k : ℕ) × (map (λ id. id.0) (ids_left l.id-iterator) ≡ drop k (users_of l.function l.old.0)) × (IsTrue (g.O.ChangeObserver.tells l.initial.observer) → g.O.ChangeObserver.seen l.observer ≡ g.O.ChangeObserver.seen l.initial.observer ++ take k (replacements l.function l.pass l.old.0 l.new.0));
}
