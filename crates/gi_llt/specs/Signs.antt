-- A number with a sign by its size.
use Rattle.std.specs.Prelude.{ℕ, ◌-◌, ◌^◌, ◌==◌, nat_lt, if◌then◌else◌, Bool, not}

-- the value stands for a number below 0
abbrev pub is_negative : (bits value : ℕ) → Bool
is_negative bits value = not (nat_lt value (2 ^ (bits - 1)))

-- the number that a value stands for, without its sign
abbrev pub size_of : (bits value : ℕ) → ℕ
size_of bits value = if nat_lt value (2 ^ (bits - 1)) then value else 2 ^ bits - value

-- the bits of a number below 0 of this size
abbrev pub negated : (bits size : ℕ) → ℕ
negated bits size = if size == 0 then 0 else 2 ^ bits - size
