-- A weight of a function: the sum of what its instructions weigh.
use Rattle.std.specs.Prelude.{ℕ, List, sum_by}
use Rattle.gi_mir.specs.Data.{InstrData, FunctionData}

abbrev pub list_weight : (InstrData → ℕ) → List (ℕ × InstrData) → ℕ
list_weight size instrs = sum_by (λ p. size p.1) instrs

abbrev pub total_weight : (InstrData → ℕ) → FunctionData → ℕ
total_weight size f = sum_by (λ b. list_weight size b.instrs) f.blocks
