-- Each id belongs to one instruction at most, and the next id to none.
use Rattle.std.specs.Prelude.{◌≡◌, ℕ, ◌≤◌, List, ◌==◌, if◌then◌else◌, sum_by}
use Rattle.gi_mir.specs.Data.{InstrData, BlockData}

-- how many instructions of a list, of a block and of a function have this id
abbrev pub uses_among : ℕ → List (ℕ × InstrData) → ℕ
uses_among id instrs = sum_by (λ p. if p.0 == id then 1 else 0) instrs

abbrev pub uses_in : ℕ → BlockData → ℕ
uses_in id b = uses_among id b.instrs

abbrev pub uses_of : ℕ → List BlockData → ℕ
uses_of id blocks = sum_by (uses_in id) blocks

-- no id is used twice, and those from the next one on aren't used
pub record AreOwnIds (blocks : List BlockData) (next_id : ℕ) : Type 0 where
  pub once : (id : ℕ) → uses_of id blocks ≤ 1
  pub given : (id : ℕ) → next_id ≤ id → uses_of id blocks ≡ 0
