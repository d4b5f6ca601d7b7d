-- Opcodes of instructions that compute.
use Rattle.std.proofs.Common.{◌≡◌, true, false, not, ◌&&◌}
use Rattle.std.proofs.lemmas.Bool.{and_parts, not-true}
use Rattle.gi_mir.specs.declared.opcode.Opcode.{Opcode}
use Rattle.gi_mir.specs.Row.{access_of, is_call_op, is_phi_op, is_terminator_op}
use Rattle.gi_valid.specs.Definitions.{is_load}
use Rattle.gi_change_valid.specs.Numbers.{computes}

-- what an opcode that computes is not
pub record Computes (op : Opcode) : Type 0 where
  pub no_call : is_call_op op ≡ false
  pub no_load : is_load (access_of op) ≡ false
  pub no_phi : is_phi_op op ≡ false
  pub no_end : is_terminator_op op ≡ false

pub computing : (op : Opcode) → computes op ≡ true → Computes op
computing op h =
    let first : ((not (is_call_op op) && not (is_load (access_of op)) && not (is_phi_op op)) ≡ true) × (not (is_terminator_op op) ≡ true) = and_parts (not (is_call_op op) && not (is_load (access_of op)) && not (is_phi_op op)) (not (is_terminator_op op)) h in
    let second : ((not (is_call_op op) && not (is_load (access_of op))) ≡ true) × (not (is_phi_op op) ≡ true) = and_parts (not (is_call_op op) && not (is_load (access_of op))) (not (is_phi_op op)) first.0 in
    let third : (not (is_call_op op) ≡ true) × (not (is_load (access_of op)) ≡ true) = and_parts (not (is_call_op op)) (not (is_load (access_of op))) second.0 in
    record { no_call = not-true (is_call_op op) third.0; no_load = not-true (is_load (access_of op)) third.1; no_phi = not-true (is_phi_op op) second.1; no_end = not-true (is_terminator_op op) first.1 }
