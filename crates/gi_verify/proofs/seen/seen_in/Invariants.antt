use Rattle.std.proofs.Common.{take}
use Rattle.gi_verify.specs.Rounds.{IsSeen}
use Rattle.gi_verify.proofs.seen.seen_in.Given as goal

-- those of the operands passed
abbrev pub invariant-loop-operand : goal.invariant-loop-operand
invariant-loop-operand l = IsSeen l.round (take l.operand-index l.operands) l.seen
