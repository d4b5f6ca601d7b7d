-- The numbers that tokens write: decimal with or without a minus, or hexadecimal behind `0x`.
use Rattle.std.specs.Prelude.{ℕ, ◌+◌, ◌-◌, ◌*◌, ◌^◌, Bool, false, ◌&&◌, List, [], ◌∷◌, Option, Some, None, ◌==◌, nat_le, nat_lt, if◌then◌else◌}
use Rattle.gi_llt.specs.Tokens.{LexemeKind, Number, is_digit, is_within}
use Rattle.gi_text.specs.declared.token.Number.{Number as NumberData}

-- the value of a digit, from `0` to `9`, from `A` to `F` and from `a` to `f`
abbrev pub digit_value : ℕ → ℕ
digit_value byte = if is_digit byte then byte - 48
    else if is_within 65 70 byte then byte - 55
    else if is_within 97 102 byte then byte - 87
    else 0

-- the value of digits behind those of the value `before`
abbrev pub value_after : (base before : ℕ) → List ℕ → ℕ
value_after base before [] = before
value_after base before (digit ∷ rest) = value_after base (before * base + digit_value digit) rest

abbrev pub unsigned_size : (first : ℕ) (rest : List ℕ) → ℕ
unsigned_size first [] = value_after 10 0 (first ∷ [])
unsigned_size first (second ∷ rest) = if first == 48 && second == 120 then value_after 16 0 rest else value_after 10 0 (first ∷ second ∷ rest)

-- the size of the number that the bytes spell
abbrev pub size_spelled : List ℕ → ℕ
size_spelled [] = 0
size_spelled (first ∷ rest) = if first == 45 then value_after 10 0 rest else unsigned_size first rest

abbrev pub is_negative : List ℕ → Bool
is_negative [] = false
is_negative (first ∷ rest) = first == 45

-- a size that 128 bits hold
abbrev pub bounded : ℕ → Option ℕ
bounded size = if nat_lt size (2 ^ 128) then Some size else None

-- the number that the bytes spell, unless 128 bits don't hold its size
abbrev pub number_spelled : List ℕ → Option NumberData
number_spelled bytes = if nat_lt (size_spelled bytes) (2 ^ 128) then Some (record { negative = is_negative bytes; size = size_spelled bytes }) else None

-- a number token whose size 128 bits don't hold
abbrev pub is_too_great : LexemeKind → List ℕ → Bool
is_too_great Number bytes = nat_le (2 ^ 128) (size_spelled bytes)
is_too_great _ bytes = false
