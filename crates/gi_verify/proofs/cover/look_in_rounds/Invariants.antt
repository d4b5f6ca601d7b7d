use Rattle.gi_verify.specs.Rounds.{IsCoverOf}
use Rattle.gi_verify.proofs.cover.look_in_rounds.Given as goal

-- what the rounds passed found
abbrev pub invariant-loop : goal.invariant-loop
invariant-loop l = IsCoverOf l.function (record { keys = l.round.keys; limit = l.round.first; fine = l.fine.items })
