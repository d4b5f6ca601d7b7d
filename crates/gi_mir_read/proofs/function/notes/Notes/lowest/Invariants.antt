use Rattle.std.proofs.Common.{◌≡◌, drop}
use Rattle.std.specs.Prelude.{fold}
use Rattle.gi_mir_read.specs.Functions.Noted.{with_shown}
use Rattle.gi_mir_read.proofs.function.notes.Notes.lowest.Given as goal

-- those that are left are to be noted
abbrev pub invariant-loop-shown : goal.invariant-loop-shown
invariant-loop-shown l = fold (with_shown l.self.kinds) l.lowest (drop l.shown-index l.self.shown) ≡ fold (with_shown l.self.kinds) l.self.lowest l.self.shown
