-- Tests of a function's numbers: each id has one instruction, and the function has had each register that is mentioned.
use Rattle.std.specs.Prelude.{ℕ, Bool, true, not, ◌&&◌, ◌==◌, nat_lt, List, [], ◌∷◌, nat_le}
use Rattle.std.specs.List.{list_all, list_any}
use Rattle.gi_mir.specs.Data.{InstrData, FunctionData}
use Rattle.gi_mir.specs.Edit.{all_instrs}
use Rattle.gi_mir.specs.declared.operand.Operand.{Operand}
use Rattle.gi_mir.specs.declared.operand.Operand.TheVariants as operand

-- each id is below the next one, and stands once
abbrev pub stand_once : (next : ℕ) → List (ℕ × InstrData) → Bool
stand_once next [] = true
stand_once next (p ∷ ps) = nat_lt p.0 next && not (list_any (λ q. q.0 == p.0) ps) && stand_once next ps

-- a register below the next one
abbrev pub is_had : (next : ℕ) → Operand → Bool
is_had next (operand.Def r kind) = nat_lt r.0 next
is_had next (operand.Use r) = nat_lt r.0 next
is_had next _ = true

abbrev pub are_had : (next : ℕ) → List (ℕ × InstrData) → Bool
are_had next ps = list_all (λ p. list_all (is_had next) p.1.operands) ps

abbrev pub is_numbered : FunctionData → Bool
is_numbered f = stand_once f.next_id (all_instrs f.blocks) && are_had f.next_reg (all_instrs f.blocks)

-- a register that the function hasn't had
abbrev pub is_new_in : FunctionData → ℕ → Bool
is_new_in f r = nat_le f.next_reg r
