-- How often registers were defined, as it is kept.
use Rattle.std.specs.Prelude.{◌≡◌, ℕ, zero, suc, Bool, true, false, List, Option, Some, None, ◌≢◌, ◌/◌, ◌%◌, get_or}
use Rattle.std.specs.Option.{option_map_or}
use Rattle.std.specs.BTreeMap.{get}
use Rattle.std.specs.Ordering.{nat_cmp}
use Rattle.gi_valid.specs.Faults.{count_of, times}
use Rattle.gi_verify.specs.declared.definitions.Counted.{Counted}
use Rattle.gi_verify.specs.declared.definitions.Times.{Times}
use Rattle.gi_verify.specs.declared.page.Page.{Page}
use Rattle.gi_verify.specs.declared.definitions.Times.TheVariants.{Once, Often}

-- what is kept of a number at a place of a page, and nothing where there is no such place
abbrev pub times_at : List (Option Times) → ℕ → Option Times
times_at list at = get_or list at None

abbrev pub times_on : Page → ℕ → Option Times
times_on page at = times_at page.times.items at

-- a page on which the same is kept but at one place
pub record IsPageWritten (old new : Page) (at : ℕ) (times : Times) : Type 0 where
  pub here : times_on new at ≡ Some times
  pub elsewhere : (k : ℕ) → k ≢ at → times_on new k ≡ times_on old k

-- what is kept of a register
abbrev pub counted : Counted → ℕ → Option Times
counted kept r = option_map_or (λ page. times_on page (r % 256)) (get nat_cmp kept.pages (r / 256)) None

-- what is kept of one that was defined so often
abbrev pub kept_of : (times : ℕ) → Option Times
kept_of zero = None
kept_of (suc zero) = Some Once
kept_of (suc (suc n)) = Some Often

-- with one more definition
abbrev pub once_more : Option Times → Times
once_more None = Once
once_more (Some times) = Often

-- whether it is one definition
abbrev pub is_once : Option Times → Bool
is_once None = false
is_once (Some Once) = true
is_once (Some Often) = false

-- of each register it is kept how often these define it
pub record AreCounted (before : List (ℕ × ℕ)) (kept : Counted) : Type 0 where
  pub each : (r : ℕ) → counted kept r ≡ kept_of (times r before)

-- of each number it is kept how often it is in this list
pub record AreTallied (list : List ℕ) (kept : Counted) : Type 0 where
  pub each : (n : ℕ) → counted kept n ≡ kept_of (count_of n list)
