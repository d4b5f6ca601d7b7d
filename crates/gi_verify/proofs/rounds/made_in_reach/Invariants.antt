use Rattle.gi_verify.specs.Rounds.{AreMadeInReach}
use Rattle.gi_verify.proofs.rounds.made_in_reach.Given as goal

abbrev pub invariant-loop-a : goal.invariant-loop-a
invariant-loop-a l = AreMadeInReach l.function l.round l.reached l.made
