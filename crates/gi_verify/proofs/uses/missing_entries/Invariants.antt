use Rattle.std.proofs.Common.{◌≡◌, ℕ, drop}
use Rattle.gi_valid.specs.Available.{Extent}
use Rattle.gi_valid.specs.Faults.{missing_entries}
use Rattle.gi_valid.specs.Valid.{IsGreatest}
use Rattle.gi_verify.proofs.uses.missing_entries.Given as goal

abbrev pub invariant-loop-k : goal.invariant-loop-k
invariant-loop-k l = (extents : ℕ → Extent) → ((r : ℕ) → IsGreatest l.function r (extents r)) → missing_entries l.function extents l.operands ≡ missing_entries l.function extents (drop l.k l.operands)
