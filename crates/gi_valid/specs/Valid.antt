-- When a function is valid, and the fault that is told of one that isn't.
use Rattle.std.specs.Prelude.{◌≡◌, ℕ, ◌<◌, Bool, true, ◌&&◌, ◌||◌, ◌==◌, nat_lt, List, [], ◌∷◌, Option, Some, None, length, if◌then◌else◌}
use Rattle.gi_mir.specs.Data.{FunctionData}
use Rattle.gi_valid.specs.Available.{Extent, IsExtent}
use Rattle.gi_valid.specs.Definitions.{IsComputedFrom}
use Rattle.gi_valid.specs.Faults.{faults}
use Rattle.gi_valid.specs.declared.invalid.Fault.{Fault}
use Rattle.gi_valid.specs.declared.invalid.Invalid.{Invalid}
use Rattle.gi_valid.specs.declared.invalid.Invalid.TheVariants.{DoubleDefinition, NotAvailable, TypeMismatch, UnknownBlock, PhiEntries, PhysicalAcross, Terminator}
use Rattle.gi_valid.specs.Typing.{Phase}

-- A function is valid where there are sets, each contained as asked, in which nothing is at fault: what is available in
-- them is available in the greatest ones.
pub record IsValid (x : ℕ) (phase : Phase) (f : FunctionData) : Type 0 where
  pub extents : ℕ → Extent
  pub contained : (r : ℕ) → IsExtent f r (extents r)
  pub faultless : faults x phase f extents ≡ []

-- the greatest sets of a register: it is taken away with the registers alone that it is computed from, and in no others it
-- is available at the start of more blocks
pub record IsGreatest (f : FunctionData) (r : ℕ) (extent : Extent) : Type 0 where
  pub contained : IsExtent f r extent
  pub alone : (x : ℕ) → extent.origins x ≡ true → IsComputedFrom f r x
  pub greatest : (other : Extent) → IsExtent f r other → (b : ℕ) → b < length f.blocks → other.starts b ≡ true → extent.starts b ≡ true

-- the order of faults on one line
abbrev pub rank : Invalid → ℕ
rank (DoubleDefinition r) = 0
rank (NotAvailable o) = 1
rank (TypeMismatch r) = 2
rank (UnknownBlock b) = 3
rank PhiEntries = 4
rank (PhysicalAcross n) = 5
rank Terminator = 6

abbrev pub comes_before : Fault → Fault → Bool
comes_before a b = nat_lt a.line b.line || ((a.line == b.line) && nat_lt (rank a.what) (rank b.what))

-- the fault of the lowest line, the first in order on it, the first in layout of alike
abbrev pub lower : Fault → Option Fault → Fault
lower first None = first
lower first (Some later) = if comes_before later first then later else first

abbrev pub of_lowest_line : List Fault → Option Fault
of_lowest_line [] = None
of_lowest_line (fault ∷ faults) = Some (lower fault (of_lowest_line faults))

-- A function is invalid by a fault: by the greatest sets, it is the one of the lowest line.
pub record IsInvalid (x : ℕ) (phase : Phase) (f : FunctionData) (fault : Fault) : Type 0 where
  pub extents : ℕ → Extent
  pub greatest : (r : ℕ) → IsGreatest f r (extents r)
  pub told : of_lowest_line (faults x phase f extents) ≡ Some fault
