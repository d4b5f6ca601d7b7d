-- Whether an instruction's row is met where the types of its first registers alone are known.
use Rattle.std.specs.Prelude.{◌≡◌, ◌+◌, ◌-◌, ℕ, Bool, true, false, List, ◌++◌, Option, None, length, take, drop, replicate}
use Rattle.gi_llt.specs.declared.Llt.{Llt}
use Rattle.gi_mir.specs.Typings.{TypingData}
use Rattle.gi_valid.specs.Typing.{meets}

-- the first so many types of a list, and for each other one every type
abbrev pub masked : List (Option Llt) → (count : ℕ) → List (Option Llt)
masked types count = take count types ++ replicate (length types - count) None

-- the row can be met with the first so many types
abbrev pub is_met_with : (x : ℕ) → TypingData → (results : ℕ) → List (Option Llt) → (count : ℕ) → Bool
is_met_with x typing results types count = meets x typing (take results (masked types count)) (drop results (masked types count))

-- the row can be met with the first so many types, and not with one more
pub record IsLastMet (x : ℕ) (typing : TypingData) (results : ℕ) (types : List (Option Llt)) (count : ℕ) : Type 0 where
  pub met : is_met_with x typing results types count ≡ true
  pub unmet : is_met_with x typing results types (count + 1) ≡ false
