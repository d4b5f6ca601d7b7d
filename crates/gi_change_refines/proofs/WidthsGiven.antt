-- The results of generic operations fit by the widths of what is written and read.
use Rattle.std.proofs.Common.{◌≡◌, ℕ, zero, suc, ◌+◌, ◌*◌, ◌/◌, ◌%◌, ◌^◌, ◌<◌, ◌≤◌, ◌==◌, Bool, true, false, cond, not, ◌&&◌, nat_lt, nat_le, List, [], ◌∷◌, drop, refl, sym, ap, ◌∙◌, subst, arith, lit<, leb-true, ltb-true}
use Rattle.std.specs.Prelude.{bit_and, bit_or, bit_xor}
use Rattle.std.proofs.lemmas.Bool.{and_parts}
use Rattle.std.proofs.lemmas.Nat.{pow_pos, pow-add, mul-add-lt, mod_below, and_le_l, or_lt, xor_lt, shr_le}
use Rattle.std.proofs.Math.Nat.{mod-lt, mod-le, div-le_self, div-mul-le_self, pow-le-pow_right, pow-suc}
use Rattle.gi_llt.specs.Bits.{wrapped}
use Rattle.gi_mir.specs.declared.opcode.Opcode.{Opcode}
use Rattle.gi_mir.specs.declared.opcode.Opcode.TheVariants as op
use Rattle.gi_mir.specs.declared.operand.Flags.{Flags}
use Rattle.gi_mir.specs.declared.operand.Pred.{Pred}
use Rattle.gi_mir.specs.declared.operand.Pred.TheVariants.{Sgt, Slt, Ugt, Ult}
use Rattle.gi_meaning.specs.Argument.{Argument, Value, Test}
use Rattle.gi_meaning.specs.Given.{Given, Exactly, LowBits, Undefined, IsGiven, one, free, unless_broken, in_low_bits}
use Rattle.gi_meaning.specs.Generic.{better, binary, binary_with_bit, bit_of, byte_swap_of, comparison, difference_of, holds, leading_zeros, merge, merged, ones, reversed_bytes, ternary, ternary_with_bit, trailing_zeros, unary}
use Rattle.gi_meaning.specs.Meaning.{Meaning, Generic, meaning_of}
use Rattle.gi_meaning.proofs.Numbers.{unsigned_below}
use Rattle.gi_refine.proofs.FittedSteps.{AreArgumentsFit, AreFit, MeaningFits, in_place_fits, one_fits}
use Rattle.gi_change_refines.specs.Widths.{fits_by_widths, have_bits, holds_all, none_wider, total}

-- the widths of the values among arguments
abbrev pub widths_given : List Argument → List ℕ
widths_given [] = []
widths_given (Value m v ∷ arguments) = m ∷ widths_given arguments
widths_given (_ ∷ arguments) = widths_given arguments

-- ══ Values ══

raised : (m n v : ℕ) → nat_le m n ≡ true → v < 2 ^ m → v < 2 ^ n
raised m n v within fits = let room : 2 ^ m ≤ 2 ^ n = pow-le-pow_right (lit< tt) (leb-true m n within) in omega (arith, room, fits)

below_power : (n : ℕ) → n < 2 ^ n
below_power zero = lit< tt
below_power (suc n) = omega (arith, below_power n, pow-suc 2 n)

count_fits : (m n count : ℕ) → count ≤ m → nat_le m n ≡ true → count < 2 ^ n
count_fits m n count most within = let whole : m ≤ n = leb-true m n within in omega (arith, most, whole, below_power n)

leading_within : (n a : ℕ) → leading_zeros n a ≤ n
leading_within zero a = omega arith
leading_within (suc n) a = by (nat_lt a (2 ^ n)) (leading_within n a)
  where
    by : (t : Bool) → leading_zeros n a ≤ n → cond t (suc (leading_zeros n a)) 0 ≤ suc n
    by true h = omega (arith, h)
    by false h = omega arith

trailing_within : (n a : ℕ) → trailing_zeros n a ≤ n
trailing_within zero a = omega arith
trailing_within (suc n) a = by (a % 2 == 0) (trailing_within n (a / 2))
  where
    by : (t : Bool) → trailing_zeros n (a / 2) ≤ n → cond t (suc (trailing_zeros n (a / 2))) 0 ≤ suc n
    by true h = omega (arith, h)
    by false h = omega arith

ones_within : (n a : ℕ) → ones n a ≤ n
ones_within zero a = omega arith
ones_within (suc n) a = let low : a % 2 < 2 = mod-lt a (lit< tt) in omega (arith, ones_within n (a / 2), low)

-- so many bytes have so many bits
bytes_below : (bytes a : ℕ) → (reversed_bytes bytes a < 2 ^ (8 * bytes)) × (256 ^ bytes ≡ 2 ^ (8 * bytes))
bytes_below zero a = (lit< tt, refl)
bytes_below (suc k) a =
    let rest : (reversed_bytes k (a / 256) < 2 ^ (8 * k)) × (256 ^ k ≡ 2 ^ (8 * k)) = bytes_below k (a / 256) in
    let more : 8 * suc k ≡ 8 + 8 * k = omega arith in
    let power : 2 ^ (8 * suc k) ≡ 2 ^ 8 * 2 ^ (8 * k) = ap (λ n. 2 ^ n) more ∙ pow-add 2 8 (8 * k) in
    let byte : a % 256 < 256 = mod-lt a (lit< tt) in
    let below : a % 256 * 2 ^ (8 * k) + reversed_bytes k (a / 256) < 2 ^ (8 * k) * 256 = mul-add-lt (a % 256) (2 ^ (8 * k)) (reversed_bytes k (a / 256)) 256 byte rest.0 in (
      subst (λ p. a % 256 * p + reversed_bytes k (a / 256) < 2 ^ (8 * suc k)) (sym rest.1) (omega (arith, below, power)),
      omega (arith, pow-suc 256 k, rest.1, power),
    )

swap_fits : (m n a : ℕ) → nat_le m n ≡ true → byte_swap_of m a < 2 ^ n
swap_fits m n a within =
    let whole : m ≤ n = leb-true m n within in
    let bits : 8 * (m / 8) ≤ n = omega (arith, whole, div-mul-le_self m 8) in
    let room : 2 ^ (8 * (m / 8)) ≤ 2 ^ n = pow-le-pow_right (lit< tt) bits in
    omega (arith, room, (bytes_below (m / 8) a).0)

bit_fits : (n : ℕ) (b : Bool) → nat_lt 0 n ≡ true → bit_of b < 2 ^ n
bit_fits n true has = let room : 2 ^ 1 ≤ 2 ^ n = pow-le-pow_right (lit< tt) (ltb-true 0 n has) in omega (arith, room)
bit_fits n false has = pow_pos n

-- parts have together as many bits as they have
merged_fits : (parts : List Argument) → AreArgumentsFit parts → merged parts < 2 ^ total (widths_given parts)
merged_fits [] fits = lit< tt
merged_fits (Value m v ∷ parts) fits =
    let below : merged parts * 2 ^ m + v < 2 ^ m * 2 ^ total (widths_given parts) = mul-add-lt (merged parts) (2 ^ m) v (2 ^ total (widths_given parts)) (merged_fits parts fits.1) fits.0 in
    let turned : v + 2 ^ m * merged parts ≡ merged parts * 2 ^ m + v = omega arith in
    omega (arith, below, turned, pow-add 2 m (total (widths_given parts)))
merged_fits (_ ∷ parts) fits = pow_pos (total (widths_given parts))

-- ══ What is given ══

-- results that may be given fit
abbrev pub GivenFits : (ns : List ℕ) → Given → Type 0
GivenFits ns given = (results : List ℕ) → IsGiven given results → AreFit ns results

pub low_bits_fit : (k n v : ℕ) → GivenFits (n ∷ []) (LowBits k n v)
low_bits_fit k n v results h = subst (AreFit (n ∷ [])) (sym h.3) (h.1, tt)

unless_fits : (b : Bool) (n v : ℕ) → v < 2 ^ n → GivenFits (n ∷ []) (unless_broken b n v)
unless_fits true n v fits = low_bits_fit 0 n 0
unless_fits false n v fits = one_fits n v fits

either_fits : (b : Bool) (ns : List ℕ) (g h : Given) → GivenFits ns g → GivenFits ns h → GivenFits ns (cond b g h)
either_fits true ns g h first second = first
either_fits false ns g h first second = second

pub nothing_given : (ns : List ℕ) → GivenFits ns Undefined
nothing_given ns results h = absurd h

two_fit : (m n u v : ℕ) → u < 2 ^ m → v < 2 ^ n → GivenFits (m ∷ n ∷ []) (Exactly (u ∷ v ∷ []))
two_fit m n u v first second results h = subst (AreFit (m ∷ n ∷ [])) (sym h) (first, (second, tt))

-- ══ Operations ══

-- what is given fits, where the arguments do and these widths pass
abbrev GivesFitting : (gives : List ℕ → List Argument → Given) → (test : List ℕ → List ℕ → Bool) → Type 0
GivesFitting gives test = (ns : List ℕ) (arguments : List Argument) → AreArgumentsFit arguments → test ns (widths_given arguments) ≡ true → GivenFits ns (gives ns arguments)

unary_fits : (f : ℕ → ℕ → ℕ → Given) → ((m n a : ℕ) → nat_le m n ≡ true → a < 2 ^ m → GivenFits (n ∷ []) (f m n a)) → GivesFitting (unary f) none_wider
unary_fits f each (n ∷ []) (Value m a ∷ []) fits within = each m n a (and_parts (nat_le m n) true within).0 fits.0
unary_fits f each _ _ fits within = λ results given. absurd given

binary_fits : (f : ℕ → ℕ → ℕ → Given) → ((n a b : ℕ) → a < 2 ^ n → b < 2 ^ n → GivenFits (n ∷ []) (f n a b)) → GivesFitting (binary f) none_wider
binary_fits f each (n ∷ []) (Value l a ∷ Value m b ∷ []) fits within =
    let parts : (nat_le l n ≡ true) × ((nat_le m n && true) ≡ true) = and_parts (nat_le l n) (nat_le m n && true) within in
    each n a b (raised l n a parts.0 fits.0) (raised m n b (and_parts (nat_le m n) true parts.1).0 fits.1.0)
binary_fits f each _ _ fits within = λ results given. absurd given

choice_fits : (t : Bool) (n a b : ℕ) → a < 2 ^ n → b < 2 ^ n → cond t a b < 2 ^ n
choice_fits true n a b first second = first
choice_fits false n a b first second = second

better_fits : (pred : Pred) → GivesFitting (binary (λ n a b. one (better pred n a b))) none_wider
better_fits pred = binary_fits (λ n a b. one (better pred n a b)) (λ n a b first second. one_fits n (better pred n a b) (choice_fits (holds pred n a b) n a b first second))

select_fits : GivesFitting (ternary (λ n c a b. one (cond (c == 0) b a))) (λ ns ms. none_wider ns (drop 1 ms))
select_fits (n ∷ []) (Value k c ∷ Value l a ∷ Value m b ∷ []) fits within =
    let parts : (nat_le l n ≡ true) × ((nat_le m n && true) ≡ true) = and_parts (nat_le l n) (nat_le m n && true) within in
    one_fits n (cond (c == 0) b a) (choice_fits (c == 0) n b a (raised m n b (and_parts (nat_le m n) true parts.1).0 fits.1.1.0) (raised l n a parts.0 fits.1.0))
select_fits _ _ fits within = λ results given. absurd given

comparison_fits : GivesFitting comparison (λ ns ms. have_bits ns)
comparison_fits (n ∷ []) (Test pred ∷ Value l a ∷ Value m b ∷ []) fits has = one_fits n (bit_of (holds pred l a b)) (bit_fits n (holds pred l a b) (and_parts (nat_lt 0 n) true has).0)
comparison_fits _ _ fits has = λ results given. absurd given

second_has : (n m : ℕ) → have_bits (n ∷ m ∷ []) ≡ true → nat_lt 0 m ≡ true
second_has n m has = (and_parts (nat_lt 0 m) true (and_parts (nat_lt 0 n) (nat_lt 0 m && true) has).1).0

binary_bit_fits : (f : ℕ → ℕ → ℕ → Given) → ((n m a b : ℕ) → nat_lt 0 m ≡ true → GivenFits (n ∷ m ∷ []) (f n a b)) → GivesFitting (binary_with_bit f) (λ ns ms. have_bits ns)
binary_bit_fits f each (n ∷ m ∷ []) (Value l a ∷ Value k b ∷ []) fits has = each n m a b (second_has n m has)
binary_bit_fits f each _ _ fits has = λ results given. absurd given

ternary_bit_fits : (f : ℕ → ℕ → ℕ → ℕ → Given) → ((n m a b c : ℕ) → nat_lt 0 m ≡ true → GivenFits (n ∷ m ∷ []) (f n a b c)) → GivesFitting (ternary_with_bit f) (λ ns ms. have_bits ns)
ternary_bit_fits f each (n ∷ m ∷ []) (Value l a ∷ Value k b ∷ Value j c ∷ []) fits has = each n m a b c (second_has n m has)
ternary_bit_fits f each _ _ fits has = λ results given. absurd given

merge_fits : GivesFitting merge holds_all
merge_fits (n ∷ []) parts fits room = one_fits n (merged parts) (raised (total (widths_given parts)) n (merged parts) room (merged_fits parts fits))
merge_fits _ parts fits room = λ results given. absurd given

-- ══ Opcodes ══

abbrev pub FitsGiven : Meaning → List ℕ → List Argument → Type 0
FitsGiven (Generic gives) ns arguments = GivenFits ns (gives ns arguments)
FitsGiven _ ns arguments = Unit {0}

sum_bit_fits : (n m total : ℕ) (carried : Bool) → nat_lt 0 m ≡ true → GivenFits (n ∷ m ∷ []) (Exactly (wrapped n total ∷ bit_of carried ∷ []))
sum_bit_fits n m total carried has = two_fit n m (wrapped n total) (bit_of carried) (mod_below total (2 ^ n) (pow_pos n)) (bit_fits m carried has)

difference_bit_fits : (n m a b : ℕ) (borrowed : Bool) → nat_lt 0 m ≡ true → GivenFits (n ∷ m ∷ []) (Exactly (difference_of n a b ∷ bit_of borrowed ∷ []))
difference_bit_fits n m a b borrowed has = two_fit n m (difference_of n a b) (bit_of borrowed) (unsigned_below n _) (bit_fits m borrowed has)

pub widths_fit : (flags : Flags) (o : Opcode) (ns : List ℕ) (arguments : List Argument) → AreArgumentsFit arguments → fits_by_widths o ns (widths_given arguments) ≡ true → FitsGiven (meaning_of flags o) ns arguments
widths_fit flags op.GenericFreeze = unary_fits _ (λ m n a within fits. one_fits n a (raised m n a within fits))
widths_fit flags op.GenericFrameIndex = unary_fits _ (λ m n a within fits. one_fits n a (raised m n a within fits))
widths_fit flags op.GenericZeroExtend =
    unary_fits _ (λ m n a within fits. either_fits (flags.nneg && _) (n ∷ []) (in_low_bits m n a) (one a) (in_place_fits m n a (nat_lt m n) (m == n) refl fits) (one_fits n a (raised m n a within fits)))
widths_fit flags op.GenericAnd = binary_fits _ (λ n a b first second. one_fits n (bit_and a b) (omega (arith, first, and_le_l a b)))
widths_fit flags op.GenericOr = binary_fits _ (λ n a b first second. unless_fits _ n (bit_or a b) (or_lt n a b first second))
widths_fit flags op.GenericXor = binary_fits _ (λ n a b first second. one_fits n (bit_xor a b) (xor_lt n a b first second))
widths_fit flags op.GenericUnsignedDivide =
    binary_fits _ (λ n a b first second. either_fits (b == 0) (n ∷ []) Undefined (unless_broken (flags.exact && not (a % b == 0)) n (a / b)) (nothing_given (n ∷ [])) (unless_fits _ n (a / b) (omega (arith, first, div-le_self a b))))
widths_fit flags op.GenericUnsignedRemainder =
    binary_fits _ (λ n a b first second. either_fits (b == 0) (n ∷ []) Undefined (one (a % b)) (nothing_given (n ∷ [])) (one_fits n (a % b) (omega (arith, first, mod-le a b))))
widths_fit flags op.GenericLogicalShiftRight =
    binary_fits _ (λ n a b first second. either_fits (nat_le n b) (n ∷ []) (free n) (unless_broken _ n (a / 2 ^ b)) (low_bits_fit 0 n 0) (unless_fits _ n (a / 2 ^ b) (omega (arith, first, shr_le a b))))
widths_fit flags op.GenericSelect = select_fits
widths_fit flags op.GenericSignedMinimum = better_fits Slt
widths_fit flags op.GenericSignedMaximum = better_fits Sgt
widths_fit flags op.GenericUnsignedMinimum = better_fits Ult
widths_fit flags op.GenericUnsignedMaximum = better_fits Ugt
widths_fit flags op.GenericCountLeadingZeros = unary_fits _ (λ m n a within fits. one_fits n (leading_zeros m a) (count_fits m n (leading_zeros m a) (leading_within m a) within))
widths_fit flags op.GenericCountTrailingZeros = unary_fits _ (λ m n a within fits. one_fits n (trailing_zeros m a) (count_fits m n (trailing_zeros m a) (trailing_within m a) within))
widths_fit flags op.GenericPopulationCount = unary_fits _ (λ m n a within fits. one_fits n (ones m a) (count_fits m n (ones m a) (ones_within m a) within))
widths_fit flags op.GenericCountLeadingZerosNotOfZero =
    unary_fits _ (λ m n a within fits. either_fits (a == 0) (n ∷ []) (free n) (one (leading_zeros m a)) (low_bits_fit 0 n 0) (one_fits n (leading_zeros m a) (count_fits m n (leading_zeros m a) (leading_within m a) within)))
widths_fit flags op.GenericCountTrailingZerosNotOfZero =
    unary_fits _ (λ m n a within fits. either_fits (a == 0) (n ∷ []) (free n) (one (trailing_zeros m a)) (low_bits_fit 0 n 0) (one_fits n (trailing_zeros m a) (count_fits m n (trailing_zeros m a) (trailing_within m a) within)))
widths_fit flags op.GenericByteSwap = unary_fits _ (λ m n a within fits. one_fits n (byte_swap_of m a) (swap_fits m n a within))
widths_fit flags op.GenericCompare = comparison_fits
widths_fit flags op.GenericUnsignedAddOverflow = binary_bit_fits _ (λ n m a b has. sum_bit_fits n m (a + b + 0) (nat_le (2 ^ n) (a + b + 0)) has)
widths_fit flags op.GenericUnsignedSubtractOverflow = binary_bit_fits _ (λ n m a b has. difference_bit_fits n m a (b + 0) (nat_lt a (b + 0)) has)
widths_fit flags op.GenericUnsignedAddCarry = ternary_bit_fits _ (λ n m a b c has. sum_bit_fits n m (a + b + c) (nat_le (2 ^ n) (a + b + c)) has)
widths_fit flags op.GenericUnsignedSubtractBorrow = ternary_bit_fits _ (λ n m a b c has. difference_bit_fits n m a (b + c) (nat_lt a (b + c)) has)
widths_fit flags op.GenericMergeValues = merge_fits
widths_fit flags _ = λ ns arguments fits passes. none passes
  where
    none : {A : Type 0} → false ≡ true → A
    none h = cc

-- those whose results fit anyhow
pub always_given : (m : Meaning) (ns : List ℕ) (arguments : List Argument) → AreArgumentsFit arguments → MeaningFits m → FitsGiven m ns arguments
always_given (Generic gives) ns arguments fits h = h ns arguments fits
always_given _ ns arguments fits h = tt
