use Rattle.std.proofs.Common.{drop}
use Rattle.gi_meaning.specs.Runs.{entry_of}
use Rattle.gi_verify.specs.Rounds.{IsSureEntry}
use Rattle.gi_verify.proofs.Ordering.{AreSoBelow}
use Rattle.gi_verify.proofs.sure.are_sure_entries.Given as goal

-- those passed
abbrev pub invariant-loop-k : goal.invariant-loop-k
invariant-loop-k l = AreSoBelow (λ k. IsSureEntry l.function l.round (entry_of (drop k l.operands))) l.k
