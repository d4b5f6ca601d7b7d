use Rattle.std.proofs.Common.{drop}
use Rattle.gi_mir.proofs.Replacing.{IsReplacing}
use Rattle.gi_mir.proofs.layout.replace_among.Given as goal

abbrev pub invariant-loop-id : goal.invariant-loop-id
invariant-loop-id l = IsReplacing l.old.0 l.new.0 (drop l.id-index l.users) l.initial.slots l.slots
