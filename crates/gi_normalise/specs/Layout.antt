-- The two choices of a place: the last generic instruction, and the first instruction at which a row fits.
use Rattle.std.specs.Prelude.{◌≡◌, ℕ, Bool, List, [], ◌∷◌, Option, Some, None, option_map, map, find, if◌then◌else◌}
use Rattle.std.specs.Option.{option_or}
use Rattle.gi_mir.specs.Data.{InstrData, FunctionData}
use Rattle.gi_mir.specs.Edit.{IsLive, all_instrs}
use Rattle.gi_mir.specs.Row.{is_generic_op}
use Rattle.gi_normalise.specs.NormalForms.{Choice, Row, first_fit}

-- ══ The last generic instruction ══

abbrev pub is_generic : ℕ × InstrData → Bool
is_generic p = is_generic_op p.1.op

-- the last element that passes a test
abbrev pub last_of : {X : Type 0} → (X → Bool) → List X → Option X
last_of test [] = None
last_of test (x ∷ xs) = option_or (last_of test xs) (if test x then Some x else None)

abbrev pub last_generic_in : List (ℕ × InstrData) → Option ℕ
last_generic_in instrs = option_map (λ p. p.0) (last_of is_generic instrs)

-- the last instruction in layout whose opcode is generic, whether or not a row fits there
abbrev pub last_generic : Choice
last_generic fits f = last_generic_in (all_instrs f.blocks)

-- ══ The first that fits ══

-- the first instruction in layout at which a row fits
abbrev pub first_place : Choice
first_place fits f = find fits (map (λ p. p.0) (all_instrs f.blocks))

-- what the first row that fits makes at the first of these instructions at which one fits
abbrev pub first_in : List Row → FunctionData → List ℕ → Option FunctionData
first_in rows f [] = None
first_in rows f (id ∷ ids) = option_or (first_fit rows f id) (first_in rows f ids)

-- ══ Both ══

-- what is chosen stands in the function
pub record IsStanding (choose : Choice) : Type 0 where
  pub live : (fits : ℕ → Bool) (f : FunctionData) (id : ℕ) → choose fits f ≡ Some id → IsLive f id
