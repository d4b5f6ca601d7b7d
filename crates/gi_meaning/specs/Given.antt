-- What an operation gives: one list of results, one result of which only the low bits are fixed, or nothing
-- at all because it is undefined.
use Rattle.std.specs.Prelude.{◌≡◌, ℕ, ◌%◌, ◌^◌, ◌<◌, List, [], ◌∷◌, Bool, cond, nat_lt, ◌==◌, if◌then◌else◌}

pub data Given : Type 0 where
  -- these results and no others
  Exactly : (results : List ℕ) → Given
  -- one result of width bits: the low known bits are those of the value, the others are free
  LowBits : (known width value : ℕ) → Given
  -- no result is promised, nor that the run goes on
  Undefined : Given

-- results that an operation may give
abbrev pub IsGiven : Given → List ℕ → Type 0
IsGiven (Exactly results) given = given ≡ results
IsGiven (LowBits known width value) given = (free : ℕ) × (free < 2 ^ width) × (free % 2 ^ known ≡ value % 2 ^ known) × (given ≡ free ∷ [])
IsGiven Undefined given = ⊥

abbrev pub one : ℕ → Given
one value = Exactly (value ∷ [])

-- any value of so many bits
abbrev pub free : ℕ → Given
free width = LowBits 0 width 0

-- the value, or any where a promise about it is broken
abbrev pub unless_broken : Bool → ℕ → ℕ → Given
unless_broken broken width value = cond broken (free width) (one value)

-- the value of so many bits in a place of width bits, whose bits above are free; undefined where the place has fewer
abbrev pub in_low_bits : (known width value : ℕ) → Given
in_low_bits known width value = if nat_lt known width then LowBits known width value else if known == width then one value else Undefined
