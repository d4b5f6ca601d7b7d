use Rattle.gi_verify.proofs.Gathering.{AreChangesTo}
use Rattle.gi_verify.proofs.rounds.changes_of.Given as goal

-- those of the blocks passed
abbrev pub invariant-loop-b : goal.invariant-loop-b
invariant-loop-b l = AreChangesTo l.function l.round l.changes.items l.b
