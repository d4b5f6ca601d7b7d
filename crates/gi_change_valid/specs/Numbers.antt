-- Numbers among some, opcodes that compute, and registers that a function has had.
use Rattle.std.specs.Prelude.{◌≡◌, ◌<◌, ℕ, Bool, true, false, not, ◌&&◌, ◌||◌, ◌==◌, List, [], ◌∷◌}
use Rattle.std.specs.List.{list_any}
use Rattle.gi_mir.specs.Data.{FunctionData}
use Rattle.gi_mir.specs.Edit.{all_instrs, defines, uses}
use Rattle.gi_mir.specs.Row.{access_of, is_call_op, is_phi_op, is_terminator_op}
use Rattle.gi_mir.specs.declared.opcode.Opcode.{Opcode}
use Rattle.gi_valid.specs.Definitions.{is_load}

-- a place is among some
abbrev pub is_in : ℕ → List ℕ → Bool
is_in p [] = false
is_in p (q ∷ qs) = (p == q) || is_in p qs

-- an opcode of instructions that compute: no call, no load, no phi and no terminator
abbrev pub computes : Opcode → Bool
computes op = not (is_call_op op) && not (is_load (access_of op)) && not (is_phi_op op) && not (is_terminator_op op)

-- the function has had each register that its instructions mention
pub record HasHadAll (f : FunctionData) : Type 0 where
  pub defined : (r : ℕ) → list_any (defines r) (all_instrs f.blocks) ≡ true → r < f.next_reg
  pub used : (r : ℕ) → list_any (uses r) (all_instrs f.blocks) ≡ true → r < f.next_reg
