-- Tests of one type, where x is the width of a register.
use Rattle.std.specs.Prelude.{ℕ, ◌*◌, Bool, true, false, ◌&&◌, ◌||◌, nat_lt, nat_le, ◌==◌}
use Rattle.gi_llt.specs.declared.Llt.{Llt}
use Rattle.gi_llt.specs.declared.Llt.TheVariants.{Scalar, Pointer}
use Rattle.gi_mir.specs.declared.entry.InMemory.{InMemory}
use Rattle.gi_mir.specs.declared.entry.InMemory.TheVariants as memory
use Rattle.gi_mir.specs.declared.typing.Class.{Class}
use Rattle.gi_mir.specs.declared.typing.Class.TheVariants as class

abbrev pub same_type : Llt → Llt → Bool
same_type (Scalar m) (Scalar n) = m == n
same_type Pointer Pointer = true
same_type _ _ = false

abbrev pub is_pointer : Llt → Bool
is_pointer Pointer = true
is_pointer _ = false

-- the bits of a scalar, and 0 for a pointer
abbrev pub scalar_bits : Llt → ℕ
scalar_bits (Scalar n) = n
scalar_bits Pointer = 0

-- a scalar of up to twice the width of a register
abbrev pub is_scalar : ℕ → Llt → Bool
is_scalar x (Scalar n) = nat_lt 0 n && nat_le n (2 * x)
is_scalar x Pointer = false

abbrev pub is_any : ℕ → Llt → Bool
is_any x ty = is_pointer ty || is_scalar x ty

-- a scalar with a bit beside the sign
abbrev pub is_wide : ℕ → Llt → Bool
is_wide x ty = is_scalar x ty && nat_lt 1 (scalar_bits ty)

-- a scalar of a register's width
abbrev pub is_register : ℕ → Llt → Bool
is_register x ty = is_scalar x ty && (scalar_bits ty == x)

abbrev pub is_bit : Llt → Bool
is_bit ty = scalar_bits ty == 1

abbrev pub is_condition : ℕ → Llt → Bool
is_condition x ty = is_bit ty || is_register x ty

-- whole bytes, two or more, whose order can be turned
abbrev pub is_swappable : ℕ → Llt → Bool
is_swappable x ty = is_scalar x ty && ((scalar_bits ty == 16) || (scalar_bits ty == 32) || (scalar_bits ty == 64) || (scalar_bits ty == 128))

abbrev pub is_rotatable : ℕ → Llt → Bool
is_rotatable x ty = is_scalar x ty && (scalar_bits ty == 8) || is_swappable x ty

abbrev pub is_of : ℕ → Class → Llt → Bool
is_of x class.Any ty = is_any x ty
is_of x class.Pointer ty = is_pointer ty
is_of x class.Scalar ty = is_scalar x ty
is_of x class.Wide ty = is_wide x ty
is_of x class.Register ty = is_register x ty
is_of x class.Bit ty = is_bit ty
is_of x class.Condition ty = is_condition x ty
is_of x class.Swappable ty = is_swappable x ty
is_of x class.Rotatable ty = is_rotatable x ty

-- of whole bytes, a power of two of them, up to a register's width
abbrev pub is_extended : ℕ → Llt → Bool
is_extended x ty = is_rotatable x ty && nat_le (scalar_bits ty) x

-- of so many bits, or a pointer where these are a register's
abbrev pub has_size : (x bits : ℕ) → Llt → Bool
has_size x bits (Scalar n) = n == bits
has_size x bits Pointer = x == bits

abbrev pub is_in_memory : ℕ → InMemory → Llt → Bool
is_in_memory x memory.Nothing ty = false
is_in_memory x memory.Value ty = is_pointer ty || is_rotatable x ty
is_in_memory x memory.Extended ty = is_extended x ty
is_in_memory x (memory.Bits bits) ty = has_size x bits ty
