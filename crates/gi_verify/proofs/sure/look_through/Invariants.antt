use Rattle.gi_verify.specs.Rounds.{IsShrunk}
use Rattle.gi_verify.proofs.Using.{AreSureBelow}
use Rattle.gi_verify.proofs.sure.look_through.Given as goal

-- those of the blocks passed
abbrev pub invariant-loop-b : goal.invariant-loop-b
invariant-loop-b l = AreSureBelow l.function l.round l.fine.items l.b × IsShrunk l.fn.fine.items l.fine.items
