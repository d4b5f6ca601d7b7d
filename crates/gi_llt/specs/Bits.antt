-- The bits of a number: cut, read with a sign, extended and taken apart.
-- (Language Reference, "Integer Type"; RISC-V unprivileged ISA, chapter 1, "Base Integer ISAs": two's complement.)
use Rattle.std.specs.Prelude.{ℕ, ◌-◌, ◌*◌, ◌/◌, ◌%◌, ◌^◌, nat_lt, if◌then◌else◌, ℤ, pos, negsuc, ◌*ℤ◌, neg_ℤ}

-- the value modulo 2 to the number of bits
abbrev pub wrapped : (bits value : ℕ) → ℕ
wrapped bits value = value % 2 ^ bits

-- the value read with a sign: from 2 ^ (bits - 1) on it stands for the value less 2 ^ bits
abbrev pub signed : (bits value : ℕ) → ℤ
signed bits value = if nat_lt value (2 ^ (bits - 1)) then pos value else neg_ℤ (pos (2 ^ bits - value))

-- the bits that stand for a number with a sign, modulo 2 to the number of bits
abbrev pub unsigned : (bits : ℕ) → ℤ → ℕ
unsigned bits (pos n) = n % 2 ^ bits
unsigned bits (negsuc n) = 2 ^ bits - 1 - n % 2 ^ bits

-- bit from - 1 copied upward, up to so many bits; the bits above it are dropped before
abbrev pub sign_extended : (from to value : ℕ) → ℕ
sign_extended from to value = unsigned to (signed from (wrapped from value))

-- the k-th group of so many bits, the lowest first
abbrev pub part_of : (bits k value : ℕ) → ℕ
part_of bits k value = value / 2 ^ (k * bits) % 2 ^ bits

-- the high half of the product of two values, of twice as many bits
abbrev pub unsigned_high_product : (bits a b : ℕ) → ℕ
unsigned_high_product bits a b = part_of bits 1 (a * b)

abbrev pub signed_high_product : (bits a b : ℕ) → ℕ
signed_high_product bits a b = part_of bits 1 (unsigned (2 * bits) (signed bits a *ℤ signed bits b))
