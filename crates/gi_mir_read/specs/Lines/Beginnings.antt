-- How words begin that aren't fixed: opcodes of LLVM with a capital letter, types with a letter and a digit.
use Rattle.std.specs.Prelude.{Bool, false, ◌&&◌, ◌||◌, ◌==◌, List, [], ◌∷◌, ℕ, nat_le}
use Rattle.gi_llt.specs.Tokens.{is_digit}

abbrev pub is_capital : ℕ → Bool
is_capital byte = nat_le 65 byte && nat_le byte 90

-- a digit stands first
abbrev pub begins_with_digit : List ℕ → Bool
begins_with_digit [] = false
begins_with_digit (byte ∷ rest) = is_digit byte

abbrev pub begins_otherwise : List ℕ → Bool
begins_otherwise [] = false
begins_otherwise (byte ∷ rest) = is_capital byte || ((byte == 115 || byte == 105) && begins_with_digit rest)
