-- Numbers with a sign, and the bits that stand for them.
use Rattle.std.proofs.Common.{◌≡◌, ◌≤◌, ◌<◌, ℕ, zero, suc, ◌+◌, ◌-◌, ◌*◌, ◌^◌, ◌%◌, arith, pos, negsuc, neg_ℤ, refl, lit<, ◌∙◌, ◌*ℤ◌, subst, sym, Bool, true, false, not, if◌then◌else◌, nat_lt, nat_eq}
use mathlib.Core.Bool.{beq}
use Rattle.std.proofs.lemmas.Bool.Decides.{nat_tests}
use Rattle.std.proofs.Math.Nat.{pow-le-pow_right, mod-eq_of_lt, mul-le-mul_left}
use Rattle.std.proofs.Math.IntN.{zero-*ℤ, *ℤ-zero}
use Rattle.std.proofs.lemmas.Nat.{pow-add, mul-add-lt}
use Rattle.gi_llt.specs.Bits.{signed, unsigned}
use Rattle.gi_llt.specs.Signs.{is_negative, size_of, negated}

-- below the middle a value stands for itself
pub signed_below : (bits value : ℕ) → value < 2 ^ (bits - 1) → signed bits value ≡ pos value
signed_below bits value below = grind (arith, nat_tests)

-- from the middle on it stands for a number below 0
pub signed_above : (bits value : ℕ) → 2 ^ (bits - 1) ≤ value → signed bits value ≡ neg_ℤ (pos (2 ^ bits - value))
signed_above bits value above = grind (arith, nat_tests)

-- the bits of a number below 0
pub unsigned_negated : (bits size : ℕ) → 0 < size → size ≤ 2 ^ bits → unsigned bits (neg_ℤ (pos size)) ≡ 2 ^ bits - size
unsigned_negated bits zero some within = absurd (omega arith)
unsigned_negated bits (suc n) some within = let small : n % 2 ^ bits ≡ n = mod-eq_of_lt (omega arith) in omega (arith, small)

-- a value below the middle is extended by zeros
pub extended_below : (from to value : ℕ) → from ≤ to → value < 2 ^ (from - 1) → unsigned to (signed from value) ≡ value
extended_below from to value upward below =
    let up : 2 ^ (from - 1) ≤ 2 ^ to = pow-le-pow_right (lit< tt) (omega arith) in
    rw (signed_below from value below) (mod-eq_of_lt (omega arith))

-- a value from the middle on is extended by ones
pub extended_above : (from to value : ℕ) → from ≤ to → 2 ^ (from - 1) ≤ value → value < 2 ^ from → unsigned to (signed from value) ≡ 2 ^ to - 1 - (2 ^ from - 1 - value)
extended_above from to value upward above within =
    let up : 2 ^ from ≤ 2 ^ to = pow-le-pow_right (lit< tt) upward in
    rw (signed_above from value above) (unsigned_negated to (2 ^ from - value) (omega arith) (omega arith) ∙ omega arith)

-- the product of two values fits twice as many bits
pub product_fits : (a b bits : ℕ) → a < 2 ^ bits → b < 2 ^ bits → a * b < 2 ^ (2 * bits)
product_fits a b bits a_fits b_fits =
    let grown : a * b ≤ a * 2 ^ bits = mul-le-mul_left a (omega arith) in
    let square : a * 2 ^ bits + b < 2 ^ bits * 2 ^ bits = mul-add-lt a (2 ^ bits) b (2 ^ bits) a_fits b_fits in
    let twice : bits + bits ≡ 2 * bits = omega arith in
    let doubled : 2 ^ (2 * bits) ≡ 2 ^ bits * 2 ^ bits = subst (λ n. 2 ^ n ≡ 2 ^ bits * 2 ^ bits) twice (pow-add 2 bits bits) in
    omega (arith, grown, square, doubled)

-- two numbers below 0
neg-*ℤ-neg : (m n : ℕ) → neg_ℤ (pos m) *ℤ neg_ℤ (pos n) ≡ pos (m * n)
neg-*ℤ-neg zero n = let none : zero * n ≡ zero = omega arith in zero-*ℤ (neg_ℤ (pos n)) ∙ rw none refl
neg-*ℤ-neg (suc m) zero = let none : suc m * zero ≡ zero = omega arith in *ℤ-zero (negsuc m) ∙ rw none refl
neg-*ℤ-neg (suc m) (suc n) = refl

-- a number below 0 on either side
pos-*ℤ-neg : (m n : ℕ) → pos m *ℤ neg_ℤ (pos n) ≡ neg_ℤ (pos (m * n))
pos-*ℤ-neg m zero = let none : m * zero ≡ zero = omega arith in rw none refl
pos-*ℤ-neg m (suc n) = refl

neg-*ℤ-pos : (m n : ℕ) → neg_ℤ (pos m) *ℤ pos n ≡ neg_ℤ (pos (m * n))
neg-*ℤ-pos zero n = let none : zero * n ≡ zero = omega arith in rw none refl
neg-*ℤ-pos (suc m) n = refl

-- with like signs the sizes are multiplied
like_product : (s t : Bool) (a b c d : ℕ) → beq (not s) (not t) ≡ true
    → (if s then pos a else neg_ℤ (pos c)) *ℤ (if t then pos b else neg_ℤ (pos d)) ≡ pos ((if s then a else c) * (if t then b else d))
like_product true true a b c d e = refl
like_product false false a b c d e = neg-*ℤ-neg c d
like_product true false a b c d e = absurd (cc)
like_product false true a b c d e = absurd (cc)

-- with unlike signs the product is below 0
unlike_product : (s t : Bool) (a b c d : ℕ) → beq (not s) (not t) ≡ false
    → (if s then pos a else neg_ℤ (pos c)) *ℤ (if t then pos b else neg_ℤ (pos d)) ≡ neg_ℤ (pos ((if s then a else c) * (if t then b else d)))
unlike_product true true a b c d e = absurd (cc)
unlike_product false false a b c d e = absurd (cc)
unlike_product true false a b c d e = pos-*ℤ-neg a d
unlike_product false true a b c d e = neg-*ℤ-pos c b

-- the bits of a number below 0, or of 0
negated_is : (bits size : ℕ) → size < 2 ^ bits → negated bits size ≡ unsigned bits (neg_ℤ (pos size))
negated_is bits zero fits = sym (mod-eq_of_lt (omega arith))
negated_is bits (suc n) fits = let some : nat_eq (suc n) 0 ≡ false = grind (arith, nat_tests) in rw some (sym (unsigned_negated bits (suc n) (omega arith) (omega arith)))

pub signed_product_like : (bits a b size : ℕ) → size ≡ size_of bits a * size_of bits b → size < 2 ^ (2 * bits) → beq (is_negative bits a) (is_negative bits b) ≡ true
    → size ≡ unsigned (2 * bits) (signed bits a *ℤ signed bits b)
signed_product_like bits a b size is_size fits like =
    rw (like_product (nat_lt a (2 ^ (bits - 1))) (nat_lt b (2 ^ (bits - 1))) a b (2 ^ bits - a) (2 ^ bits - b) like, ← is_size) (sym (mod-eq_of_lt fits))

pub signed_product_unlike : (bits a b size : ℕ) → size ≡ size_of bits a * size_of bits b → size < 2 ^ (2 * bits) → beq (is_negative bits a) (is_negative bits b) ≡ false
    → negated (2 * bits) size ≡ unsigned (2 * bits) (signed bits a *ℤ signed bits b)
signed_product_unlike bits a b size is_size fits unlike =
    rw (unlike_product (nat_lt a (2 ^ (bits - 1))) (nat_lt b (2 ^ (bits - 1))) a b (2 ^ bits - a) (2 ^ bits - b) unlike, ← is_size) (negated_is (2 * bits) size fits)
