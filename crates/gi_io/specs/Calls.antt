-- Calls that are numbered from 1, and made to fail by their numbers.
use Rattle.std.specs.Prelude.{ℕ, ◌+◌, ◌-◌, ◌^◌, ◌==◌, Bool, List, min}
use Rattle.std.specs.List.{list_any}

-- the number of the call after so many; those from the last number on share it
abbrev pub call_after : ℕ → ℕ
call_after calls = min (calls + 1) (2 ^ 32 - 1)

-- the faults after one more; they stay at their last value
abbrev pub fault_after : ℕ → ℕ
fault_after faults = min (faults + 1) (2 ^ 64 - 1)

-- the call after so many is among those that fail
abbrev pub is_made_to_fail : List ℕ → ℕ → Bool
is_made_to_fail fail calls = list_any (λ number. number == call_after calls) fail
