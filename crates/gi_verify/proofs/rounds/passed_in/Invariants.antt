use Rattle.std.proofs.Common.{◌≡◌, ℕ, drop, take}
use Rattle.gi_mir.specs.Edit.{block_at}
use Rattle.gi_mir.specs.Instrs.{left}
use Rattle.gi_verify.specs.Rounds.{IsPassedOver}
use Rattle.gi_verify.proofs.rounds.passed_in.Given as goal

-- those passed
abbrev pub invariant-loop-numbered : goal.invariant-loop-numbered
invariant-loop-numbered l =
    (k : ℕ) × (left l.numbered-iterator ≡ drop k (block_at l.function l.b).instrs) × IsPassedOver l.round (take k (block_at l.function l.b).instrs) l.passed
