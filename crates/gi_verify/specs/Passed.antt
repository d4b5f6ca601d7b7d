-- What is carried along a block.
use Rattle.std.specs.Prelude.{◌≡◌, ℕ, List, []}
use Rattle.std.specs.List.{list_all, list_any}
use Rattle.gi_mir.specs.Data.{InstrData}
use Rattle.gi_mir.specs.Row.{is_terminator_op, is_unconditional_op}
use Rattle.gi_meaning.specs.Runs.{is_phi}
use Rattle.gi_valid.specs.Faults.{has_late}
use Rattle.gi_verify.specs.declared.passed.Passed.{Passed}

-- it says what the instructions in front are
pub record IsPassed (front : List (ℕ × InstrData)) (passed : Passed) : Type 0 where
  pub terminators : passed.terminator ≡ list_any (λ p. is_terminator_op p.1.op) front
  pub unconditionals : passed.unconditional ≡ list_any (λ p. is_unconditional_op p.1.op) front
  pub lates : passed.late ≡ has_late [] front
  pub each : passed.phis ≡ list_all (λ p. is_phi p.1) front
