-- The normal form of a function by a table of rows: at the place that is chosen the first row that fits is applied, again
-- and again, until no place is chosen or none fits there.
use Rattle.std.specs.Prelude.{◌≡◌, ℕ, zero, suc, ◌≤◌, Bool, List, [], ◌∷◌, Option, Some, None, is_some}
use Rattle.std.specs.Option.{option_and_then, option_or}
use Rattle.gi_mir.specs.Data.{FunctionData}

-- ══ Rows ══

-- a row of a table: the function after it is applied at an instruction, if it fits there
abbrev pub Row : Type 0
Row = FunctionData → (id : ℕ) → Option FunctionData

-- what the first row makes that fits at an instruction
abbrev pub first_fit : List Row → Row
first_fit [] f id = None
first_fit (row ∷ rows) f id = option_or (row f id) (first_fit rows f id)

abbrev pub fits : List Row → FunctionData → (id : ℕ) → Bool
fits rows f id = is_some (first_fit rows f id)

-- ══ Places ══

-- how the place is chosen, from the test whether a row fits at an instruction
abbrev pub Choice : Type 0
Choice = (fits : ℕ → Bool) → FunctionData → Option ℕ

-- ══ Normal forms ══

-- the function after one rewriting, if there is one
abbrev pub next_by : Choice → List Row → FunctionData → Option FunctionData
next_by choose rows f = option_and_then (first_fit rows f) (choose (fits rows f) f)

-- after so many rewritings, and no more, f comes to g
abbrev pub Comes : Choice → List Row → ℕ → FunctionData → FunctionData → Type 0
Comes choose rows zero f g = (next_by choose rows f ≡ None) × (g ≡ f)
Comes choose rows (suc n) f g = (h : FunctionData) × (next_by choose rows f ≡ Some h) × Comes choose rows n h g

-- g is the normal form of f, after at most so many rewritings
pub record IsNormalForm (choose : Choice) (rows : List Row) (bound : ℕ) (f g : FunctionData) : Type 0 where
  pub count : ℕ
  pub within : count ≤ bound
  pub comes : Comes choose rows count f g
