-- Each function is valid, or invalid by a fault.
use Rattle.std.proofs.Common.{◌≡◌, ℕ, List, [], ◌∷◌, ◌⊎◌, inl, inr, refl, ap}
use Rattle.gi_mir.specs.Data.{FunctionData}
use Rattle.gi_valid.specs.Available.{Extent}
use Rattle.gi_valid.specs.Faults.{faults}
use Rattle.gi_valid.specs.Typing.{Phase}
use Rattle.gi_valid.specs.Valid.{IsValid, IsInvalid, lower, of_lowest_line}
use Rattle.gi_valid.specs.declared.invalid.Fault.{Fault}
use Rattle.gi_valid.proofs.Existing.{greatest_sets}

pub valid_or_told : (x : ℕ) (phase : Phase) (f : FunctionData) → IsValid x phase f ⊎ ((fault : Fault) × IsInvalid x phase f fault)
valid_or_told x phase f = by (faults x phase f great) refl
  where
    great : ℕ → Extent
    great r = (greatest_sets f r).extent

    by : (told : List Fault) → faults x phase f great ≡ told → IsValid x phase f ⊎ ((fault : Fault) × IsInvalid x phase f fault)
    by [] so = inl (record { extents = great; contained = λ r. (greatest_sets f r).is.contained; faultless = so })
    by (fault ∷ rest) so = inr (lower fault (of_lowest_line rest), record { extents = great; greatest = λ r. (greatest_sets f r).is; told = ap of_lowest_line so })
