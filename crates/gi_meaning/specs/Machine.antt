-- What the instructions of RISC-V compute on words of x bits, x being 32 or 64.
-- (RISC-V unprivileged ISA, RV32I, RV64I and M: "Integer Computational Instructions", "Multiplication
-- Operations", "Division Operations".)
use Rattle.std.specs.Prelude.{ℕ, ◌+◌, ◌-◌, ◌*◌, ◌/◌, ◌%◌, ◌^◌, List, [], ◌∷◌, Bool, false, ◌&&◌, nat_lt, ◌==◌, if◌then◌else◌, ℤ, pos, negsuc, int_lt, int_le, int_div, int_rem, bit_and, bit_or, bit_xor}
use Rattle.gi_llt.specs.Bits.{wrapped, signed, unsigned, sign_extended}
use Rattle.gi_mir.specs.declared.operand.SymbolFlag.TheVariants.{Hi, Lo}
use Rattle.gi_meaning.specs.Given.{Given, Undefined, one}
use Rattle.gi_meaning.specs.Argument.{Argument, Value, Number, Symbol}
use Rattle.gi_meaning.specs.Generic.{arithmetic_shift_of, bit_of}

-- ══ On two words ══

abbrev pub sum_word : (x a b : ℕ) → ℕ
sum_word x a b = wrapped x (a + b)

abbrev pub product_word : (x a b : ℕ) → ℕ
product_word x a b = wrapped x (a * b)

abbrev pub and_word : (x a b : ℕ) → ℕ
and_word x a b = bit_and a b

abbrev pub or_word : (x a b : ℕ) → ℕ
or_word x a b = bit_or a b

abbrev pub xor_word : (x a b : ℕ) → ℕ
xor_word x a b = bit_xor a b

abbrev pub less_word : (x a b : ℕ) → ℕ
less_word x a b = bit_of (int_lt (signed x a) (signed x b))

abbrev pub less_unsigned_word : (x a b : ℕ) → ℕ
less_unsigned_word x a b = bit_of (nat_lt a b)

-- a shift takes the low 5 bits of its amount, 6 where x is 64: the amount modulo x
abbrev pub left_word : (x a b : ℕ) → ℕ
left_word x a b = wrapped x (a * 2 ^ (b % x))

abbrev pub right_word : (x a b : ℕ) → ℕ
right_word x a b = a / 2 ^ (b % x)

abbrev pub arithmetic_right_word : (x a b : ℕ) → ℕ
arithmetic_right_word x a b = arithmetic_shift_of x a (b % x)

-- by zero a quotient is all ones and a remainder the dividend; the least value by -1 is itself, remainder 0
abbrev pub quotient_word : (x a b : ℕ) → ℕ
quotient_word x a b = if b == 0 then 2 ^ x - 1 else unsigned x (int_div (signed x a) (signed x b))

abbrev pub quotient_unsigned_word : (x a b : ℕ) → ℕ
quotient_unsigned_word x a b = if b == 0 then 2 ^ x - 1 else a / b

abbrev pub remainder_word : (x a b : ℕ) → ℕ
remainder_word x a b = if b == 0 then a else unsigned x (int_rem (signed x a) (signed x b))

abbrev pub remainder_unsigned_word : (x a b : ℕ) → ℕ
remainder_unsigned_word x a b = if b == 0 then a else a % b

-- ══ On the low 32 bits of words of 64, the result sign-extended ══

abbrev pub on_low_half : (ℕ → ℕ → ℕ → ℕ) → (x a b : ℕ) → ℕ
on_low_half f x a b = sign_extended 32 x (f 32 (wrapped 32 a) (wrapped 32 b))

-- ══ The upper bits of an address, and the rest ══

-- what LUI gives of a number below 2 ^ 20
abbrev pub upper_word : (x number : ℕ) → ℕ
upper_word x number = sign_extended 32 x (4096 * number)

-- the address rounded to the nearest 4096, without the 12 low bits, modulo 2 ^ 20
abbrev pub upper_of : ℕ → ℕ
upper_of address = (address + 2048) / 4096 % 2 ^ 20

-- the signed rest, from -2048 to 2047, as a word
abbrev pub rest_of : (x address : ℕ) → ℕ
rest_of x address = sign_extended 12 x (wrapped 12 address)

-- ══ Immediates ══

abbrev pub is_immediate : ℤ → Bool
is_immediate i = int_le (negsuc 2047) i && int_le i (pos 2047)

abbrev pub is_amount : ℕ → ℤ → Bool
is_amount limit (pos i) = nat_lt i limit
is_amount limit (negsuc i) = false

-- ══ An instruction's words, by its operands; any other operands are undefined ══

abbrev pub on_words : (ℕ → ℕ → ℕ → ℕ) → ℕ → List Argument → Given
on_words f x (Value l a ∷ Value m b ∷ []) = one (f x a b)
on_words f x _ = Undefined

-- a word and an immediate, which is sign-extended
abbrev pub on_immediate : (ℕ → ℕ → ℕ → ℕ) → ℕ → List Argument → Given
on_immediate f x (Value l a ∷ Number i ∷ []) = if is_immediate i then one (f x a (unsigned x i)) else Undefined
on_immediate f x _ = Undefined

-- ADDI takes the low part of a symbol's address too
abbrev pub add_immediate : ℕ → List Argument → Given
add_immediate x (Value l a ∷ Symbol Lo name address ∷ []) = one (sum_word x a (rest_of x address))
add_immediate x arguments = on_immediate sum_word x arguments

abbrev pub by_amount : (ℕ → ℕ) → (ℕ → ℕ → ℕ → ℕ) → ℕ → List Argument → Given
by_amount limit f x (Value l a ∷ Number i ∷ []) = if is_amount (limit x) i then one (f x a (unsigned x i)) else Undefined
by_amount limit f x _ = Undefined

abbrev pub load_upper : ℕ → List Argument → Given
load_upper x (Number i ∷ []) = if is_amount (2 ^ 20) i then one (upper_word x (unsigned 20 i)) else Undefined
load_upper x (Symbol Hi name address ∷ []) = one (upper_word x (upper_of address))
load_upper x _ = Undefined

-- what only RV64 has
abbrev pub on_rv64 : (ℕ → List Argument → Given) → ℕ → List Argument → Given
on_rv64 f x arguments = if x == 64 then f x arguments else Undefined
