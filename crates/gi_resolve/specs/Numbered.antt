-- Numbers in the order in which they came, and what stands first for each.
use Rattle.std.specs.Prelude.{◌≡◌, ℕ, List, Option, Some, None, position, nat_eq, if◌then◌else◌}
use Rattle.std.specs.BTreeMap.{BTreeMap, get}
use Rattle.std.specs.Ordering.{nat_cmp}
use Rattle.std.specs.Map.{lookup}
use Rattle.gi_spelling.specs.declared.token.RegisterClass.{RegisterClass}

-- what comes last for a number counts where nothing came before
abbrev pub last_of : {V : Type 0} → (number : ℕ) (value : V) (key : ℕ) → Option V
last_of number value key = if nat_eq key number then Some value else None

-- a map has the place of each number where it came first
pub record IsNumbered (places : BTreeMap ℕ ℕ) (numbers : List ℕ) : Type 0 where
  pub place : (number : ℕ) → get nat_cmp places number ≡ position (nat_eq number) numbers

-- a map has the class of each number where it came first
pub record IsClassed (firsts : BTreeMap ℕ RegisterClass) (classes : List (ℕ × RegisterClass)) : Type 0 where
  pub class : (number : ℕ) → get nat_cmp firsts number ≡ lookup (nat_eq number) classes
