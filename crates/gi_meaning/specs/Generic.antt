-- What the generic operations give on values. A value of n bits is a number below 2 ^ n, and one of a pointer
-- has the width of a register. (Generic Opcodes; Language Reference, "Binary Operations", "Bitwise Binary
-- Operations", "Conversion Operations", "Standard C/C++ Library Intrinsics", "Bit Manipulation Intrinsics".)
use Rattle.std.specs.Prelude.{ℕ, zero, suc, ◌+◌, ◌-◌, ◌*◌, ◌/◌, ◌%◌, ◌^◌, List, [], ◌∷◌, Bool, cond, not, ◌&&◌, ◌||◌, nat_lt, nat_le, ◌==◌, if◌then◌else◌, ℤ, pos, ◌+ℤ◌, ◌-ℤ◌, ◌*ℤ◌, neg_ℤ, nat_abs, int_lt, int_le, int_div, int_rem, bit_and, bit_or}
use Rattle.gi_llt.specs.Bits.{wrapped, signed, unsigned, sign_extended, part_of}
use Rattle.gi_mir.specs.declared.operand.Flags.{Flags}
use Rattle.gi_mir.specs.declared.operand.Pred.{Pred}
use Rattle.gi_mir.specs.declared.operand.Pred.TheVariants.{Eq, Ne, Ugt, Uge, Ult, Ule, Sgt, Sge, Slt, Sle}
use Rattle.gi_meaning.specs.Given.{Given, Exactly, Undefined, one, free, unless_broken, in_low_bits}
use Rattle.gi_meaning.specs.Argument.{Argument, Value, Number, Bits, Symbol, Test}

-- ══ Sums, differences and products ══

-- the number is none of n bits with a sign
abbrev pub leaves_signed : ℕ → ℤ → Bool
leaves_signed n z = int_lt z (neg_ℤ (pos (2 ^ (n - 1)))) || int_le (pos (2 ^ (n - 1))) z

abbrev pub sum : Flags → (n a b : ℕ) → Given
sum flags n a b = unless_broken
    (flags.nuw && nat_le (2 ^ n) (a + b) || flags.nsw && leaves_signed n (signed n a +ℤ signed n b))
    n (wrapped n (a + b))

abbrev pub difference_of : (n a b : ℕ) → ℕ
difference_of n a b = unsigned n (pos a -ℤ pos b)

abbrev pub difference : Flags → (n a b : ℕ) → Given
difference flags n a b = unless_broken
    (flags.nuw && nat_lt a b || flags.nsw && leaves_signed n (signed n a -ℤ signed n b))
    n (difference_of n a b)

abbrev pub product : Flags → (n a b : ℕ) → Given
product flags n a b = unless_broken
    (flags.nuw && nat_le (2 ^ n) (a * b) || flags.nsw && leaves_signed n (signed n a *ℤ signed n b))
    n (wrapped n (a * b))

-- ══ Divisions: by zero they are undefined, and so is the signed one of the least value by -1 ══

abbrev pub unsigned_quotient : Flags → (n a b : ℕ) → Given
unsigned_quotient flags n a b = if b == 0 then Undefined else unless_broken (flags.exact && not (a % b == 0)) n (a / b)

abbrev pub unsigned_remainder : (n a b : ℕ) → Given
unsigned_remainder n a b = if b == 0 then Undefined else one (a % b)

abbrev pub overflows_division : (n a b : ℕ) → Bool
overflows_division n a b = (a == 2 ^ (n - 1)) && (b == 2 ^ n - 1)

abbrev pub signed_quotient : Flags → (n a b : ℕ) → Given
signed_quotient flags n a b =
    if (b == 0) || overflows_division n a b then Undefined
    else unless_broken (flags.exact && not (nat_abs (signed n a) % nat_abs (signed n b) == 0))
    n (unsigned n (int_div (signed n a) (signed n b)))

abbrev pub signed_remainder : (n a b : ℕ) → Given
signed_remainder n a b =
    if (b == 0) || overflows_division n a b then Undefined else one (unsigned n (int_rem (signed n a) (signed n b)))

-- ══ Shifts: by n or more they give any value ══

abbrev pub shifted_left : Flags → (n a k : ℕ) → Given
shifted_left flags n a k = if nat_le n k then free n else unless_broken
    (flags.nuw && nat_le (2 ^ n) (a * 2 ^ k) || flags.nsw && leaves_signed n (signed n a *ℤ pos (2 ^ k)))
    n (wrapped n (a * 2 ^ k))

-- a bit that is shifted out isn't zero
abbrev pub loses_bits : (a k : ℕ) → Bool
loses_bits a k = not (a % 2 ^ k == 0)

abbrev pub shifted_right : Flags → (n a k : ℕ) → Given
shifted_right flags n a k = if nat_le n k then free n else unless_broken (flags.exact && loses_bits a k) n (a / 2 ^ k)

-- the sign bit comes in from the left
abbrev pub arithmetic_shift_of : (n a k : ℕ) → ℕ
arithmetic_shift_of n a k = wrapped n (sign_extended n (n + k) a / 2 ^ k)

abbrev pub arithmetically_shifted_right : Flags → (n a k : ℕ) → Given
arithmetically_shifted_right flags n a k =
    if nat_le n k then free n else unless_broken (flags.exact && loses_bits a k) n (arithmetic_shift_of n a k)

-- ══ Logic ══

abbrev pub disjunction : Flags → (n a b : ℕ) → Given
disjunction flags n a b = unless_broken (flags.disjoint && not (bit_and a b == 0)) n (bit_or a b)

-- ══ Sums and differences with a carry: the value, and one bit ══

abbrev pub bit_of : Bool → ℕ
bit_of b = cond b 1 0

abbrev pub sum_with_carry : (n a b c : ℕ) → Given
sum_with_carry n a b c = Exactly (wrapped n (a + b + c) ∷ bit_of (nat_le (2 ^ n) (a + b + c)) ∷ [])

abbrev pub difference_with_borrow : (n a b c : ℕ) → Given
difference_with_borrow n a b c = Exactly (difference_of n a (b + c) ∷ bit_of (nat_lt a (b + c)) ∷ [])

-- ══ Comparisons and choices ══

abbrev pub holds : Pred → (n a b : ℕ) → Bool
holds Eq n a b = a == b
holds Ne n a b = not (a == b)
holds Ugt n a b = nat_lt b a
holds Uge n a b = nat_le b a
holds Ult n a b = nat_lt a b
holds Ule n a b = nat_le a b
holds Sgt n a b = int_lt (signed n b) (signed n a)
holds Sge n a b = int_le (signed n b) (signed n a)
holds Slt n a b = int_lt (signed n a) (signed n b)
holds Sle n a b = int_le (signed n a) (signed n b)

-- the first of two values where the predicate holds of them, and else the second
abbrev pub better : Pred → (n a b : ℕ) → ℕ
better pred n a b = cond (holds pred n a b) a b

-- ══ Counts of bits, and their order ══

-- of the low n bits, the zeros above the highest one
abbrev pub leading_zeros : (n a : ℕ) → ℕ
leading_zeros zero a = 0
leading_zeros (suc n) a = if nat_lt a (2 ^ n) then suc (leading_zeros n a) else 0

-- of the low n bits, the zeros below the lowest one
abbrev pub trailing_zeros : (n a : ℕ) → ℕ
trailing_zeros zero a = 0
trailing_zeros (suc n) a = if a % 2 == 0 then suc (trailing_zeros n (a / 2)) else 0

-- the ones among the low n bits
abbrev pub ones : (n a : ℕ) → ℕ
ones zero a = 0
ones (suc n) a = a % 2 + ones n (a / 2)

-- so many low bytes, the lowest first in the highest place
abbrev pub reversed_bytes : (bytes a : ℕ) → ℕ
reversed_bytes zero a = 0
reversed_bytes (suc bytes) a = a % 256 * 256 ^ bytes + reversed_bytes bytes (a / 256)

abbrev pub byte_swap_of : (n a : ℕ) → ℕ
byte_swap_of n a = reversed_bytes (n / 8) a

-- the high half of a above b, shifted left; the low half, shifted right
abbrev pub funnel_left : (n a b k : ℕ) → ℕ
funnel_left n a b k = part_of n 1 ((a * 2 ^ n + b) * 2 ^ (k % n))

abbrev pub funnel_right : (n a b k : ℕ) → ℕ
funnel_right n a b k = wrapped n ((a * 2 ^ n + b) / 2 ^ (k % n))

-- ══ Casts ══

-- where a promise of no sign is broken, only the bits above the operand's are free
abbrev pub zero_extension : Flags → (m n a : ℕ) → Given
zero_extension flags m n a = cond (flags.nneg && nat_le (2 ^ (m - 1)) a) (in_low_bits m n a) (one a)

-- ══ Parts, from the lowest bits to the highest ══

abbrev pub merged : List Argument → ℕ
merged (Value width value ∷ parts) = value + 2 ^ width * merged parts
merged _ = 0

abbrev pub parts_of : List ℕ → ℕ → List ℕ
parts_of [] value = []
parts_of (width ∷ widths) value = value % 2 ^ width ∷ parts_of widths (value / 2 ^ width)

-- ══ An operation's arguments, by how many there are ══

abbrev pub nullary : (ℕ → Given) → List ℕ → List Argument → Given
nullary f (n ∷ []) [] = f n
nullary f _ _ = Undefined

abbrev pub unary : (ℕ → ℕ → ℕ → Given) → List ℕ → List Argument → Given
unary f (n ∷ []) (Value m a ∷ []) = f m n a
unary f _ _ = Undefined

abbrev pub binary : (ℕ → ℕ → ℕ → Given) → List ℕ → List Argument → Given
binary f (n ∷ []) (Value l a ∷ Value m b ∷ []) = f n a b
binary f _ _ = Undefined

abbrev pub ternary : (ℕ → ℕ → ℕ → ℕ → Given) → List ℕ → List Argument → Given
ternary f (n ∷ []) (Value l a ∷ Value m b ∷ Value k c ∷ []) = f n a b c
ternary f _ _ = Undefined

abbrev pub binary_with_bit : (ℕ → ℕ → ℕ → Given) → List ℕ → List Argument → Given
binary_with_bit f (n ∷ one_bit ∷ []) (Value l a ∷ Value m b ∷ []) = f n a b
binary_with_bit f _ _ = Undefined

abbrev pub ternary_with_bit : (ℕ → ℕ → ℕ → ℕ → Given) → List ℕ → List Argument → Given
ternary_with_bit f (n ∷ one_bit ∷ []) (Value l a ∷ Value m b ∷ Value k c ∷ []) = f n a b c
ternary_with_bit f _ _ = Undefined

abbrev pub comparison : List ℕ → List Argument → Given
comparison (n ∷ []) (Test pred ∷ Value l a ∷ Value m b ∷ []) = one (bit_of (holds pred l a b))
comparison _ _ = Undefined

abbrev pub constant : List ℕ → List Argument → Given
constant (n ∷ []) (Bits width value ∷ []) = one value
constant _ _ = Undefined

-- an address that the world gives
abbrev pub symbol_address : List ℕ → List Argument → Given
symbol_address (n ∷ []) (Symbol flag name address ∷ []) = one address
symbol_address _ _ = Undefined

abbrev pub extension_in_register : List ℕ → List Argument → Given
extension_in_register (n ∷ []) (Value m a ∷ Number (pos k) ∷ []) = one (sign_extended k n (wrapped k a))
extension_in_register _ _ = Undefined

abbrev pub merge : List ℕ → List Argument → Given
merge (n ∷ []) parts = one (merged parts)
merge _ _ = Undefined

abbrev pub unmerge : List ℕ → List Argument → Given
unmerge widths (Value m a ∷ []) = Exactly (parts_of widths a)
unmerge _ _ = Undefined
