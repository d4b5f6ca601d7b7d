-- Numbers that rules are about: powers of two, differences, and parts of numbers.
use Rattle.std.proofs.Common.{◌≡◌, ◌⊎◌, ⊎_elim, ℕ, ℤ, zero, suc, pos, negsuc, ◌-ℤ◌, ◌+◌, ◌-◌, ◌*◌, ◌/◌, ◌%◌, ◌^◌, ◌<◌, ◌≤◌, ◌==◌, Bool, true, false, cond, [], ◌∷◌, refl, sym, ap, ap₂, ◌∙◌, subst, arith, lit<}
use Rattle.std.specs.Prelude.{neg_ℤ}
use Rattle.std.proofs.Math.Nat.{add-mod, add-mul-mod_self_right, div-add-mod', mod-eq_of_lt, mod-one, pow-le-pow_right}
use Rattle.std.proofs.Math.Pow.{mod-mod-pow, shr_mono}
use Rattle.std.proofs.lemmas.Bool.{cases_lt, eq-eqb}
use Rattle.std.proofs.lemmas.Bool.Decides.{nat_tests}
use Rattle.std.proofs.lemmas.Int.{ints}
use Rattle.std.proofs.lemmas.Nat.{div_below, mod_below, mod-mul-add, mul-mod, pow-add, pow_pos}
use Rattle.gi_llt.specs.Bits.{sign_extended, signed, unsigned, wrapped}
use Rattle.gi_meaning.proofs.Numbers.{signed-high, signed-low, unsigned-neg}
use Rattle.gi_llt.specs.Signs.{negated}
use Rattle.gi_meaning.specs.Generic.{difference_of}
use Rattle.gi_meaning.specs.Given.{Undefined, free, unless_broken}
use Rattle.gi_rule_values.specs.Running.{MayGive}

-- the value, or any where a promise is broken
pub unless : (broken : Bool) (n v u : ℕ) → u < 2 ^ n → v ≡ u → MayGive (unless_broken broken n v) (u ∷ [])
unless true n v u fits same = (fits, mod-one u)
unless false n v u fits same = same

-- a number is less than two to it
pub below_power : (n : ℕ) → n < 2 ^ n
below_power zero = lit< tt
below_power (suc n) = let twice : 2 ^ (n + 1) ≡ 2 ^ n * 2 ^ 1 = pow-add 2 n 1 in let one : suc n ≡ n + 1 = omega arith in rw one (omega (arith, below_power n, twice))

-- a difference is the sum with the other sign
pub difference_is : (n a b : ℕ) → a < 2 ^ n → b < 2 ^ n → wrapped n (a + negated n b) ≡ difference_of n a b
difference_is n a b first second = ⊎_elim
    (λ (less : a < b).
    let is : pos a -ℤ pos b ≡ negsuc (b - a - 1) = below a b less in
    let small : (b - a - 1) % 2 ^ n ≡ b - a - 1 = mod-eq_of_lt (omega arith) in
    let other : negated n b ≡ 2 ^ n - b = minus b (omega arith) in
    ap (λ k. (a + k) % 2 ^ n) other ∙ mod-eq_of_lt (omega arith) ∙ lower less small ∙ sym (ap (unsigned n) is))
    (λ (more : b ≤ a).
    let is : pos a -ℤ pos b ≡ pos (a - b) = above a b more in
    upper b more refl ∙ sym (ap (unsigned n) is ∙ mod-eq_of_lt (omega arith)))
    (split a b)
  where
    split : (a b : ℕ) → (a < b) ⊎ (b ≤ a)
    split a b = grind arith

    below : (a b : ℕ) → a < b → pos a -ℤ pos b ≡ negsuc (b - a - 1)
    below a b h = grind (arith, ints)

    above : (a b : ℕ) → b ≤ a → pos a -ℤ pos b ≡ pos (a - b)
    above a b h = grind (arith, ints)

    minus : (c : ℕ) → 0 < c → negated n c ≡ 2 ^ n - c
    minus c h = grind (arith, nat_tests)

    lower : a < b → (b - a - 1) % 2 ^ n ≡ b - a - 1 → a + (2 ^ n - b) ≡ 2 ^ n - 1 - (b - a - 1) % 2 ^ n
    lower less h = rw h (omega arith)

    upper : (c : ℕ) → c ≤ a → c ≡ b → (a + negated n c) % 2 ^ n ≡ a - b
    upper zero h e = let none : a + 0 ≡ a = omega arith in ap (λ k. k % 2 ^ n) none ∙ mod-eq_of_lt first ∙ omega arith
    upper (suc c) h e =
        let other : negated n (suc c) ≡ 2 ^ n - suc c = minus (suc c) (omega arith) in
        let around : a + (2 ^ n - suc c) ≡ 1 * 2 ^ n + (a - suc c) = omega arith in
        ap (λ k. (a + k) % 2 ^ n) other ∙ ap (λ k. k % 2 ^ n) around ∙ mod-mul-add 1 (2 ^ n) (a - suc c) (omega arith) ∙ ap (λ k. a - k) e

-- ══ Low bits ══

-- a number with itself
pub same : (n : ℕ) → (n == n) ≡ true
same n = eq-eqb n n refl

-- the low n bits of the low w bits
pub low_of_low : (n w v : ℕ) → n ≤ w → wrapped n (wrapped w v) ≡ wrapped n v
low_of_low n w v within =
    let parts : (w - n) + n ≡ w = omega (arith, within) in subst (λ (k : ℕ). wrapped n (wrapped k v) ≡ wrapped n v) parts (mod-mod-pow v (w - n) n)

-- what has the low w bits of a number has its low m bits
pub low_again : (m w v b : ℕ) → m ≤ w → wrapped w v ≡ wrapped w b → wrapped m v ≡ wrapped m b
low_again m w v b within same = sym (low_of_low m w v within) ∙ ap (wrapped m) same ∙ low_of_low m w b within

-- the low bits of a sum are those of the low bits' sum
pub low_sum : (n p q a b : ℕ) → wrapped n p ≡ wrapped n a → wrapped n q ≡ wrapped n b → wrapped n (p + q) ≡ wrapped n (a + b)
low_sum n p q a b left right = add-mod p q (2 ^ n) ∙ ap₂ (λ u v. (u + v) % 2 ^ n) left right ∙ sym (add-mod a b (2 ^ n))

-- and so of a product
pub low_product : (n p q a b : ℕ) → wrapped n p ≡ wrapped n a → wrapped n q ≡ wrapped n b → wrapped n (p * q) ≡ wrapped n (a * b)
low_product n p q a b left right = mul-mod p q (2 ^ n) ∙ ap₂ (λ u v. (u * v) % 2 ^ n) left right ∙ sym (mul-mod a b (2 ^ n))

-- a difference of any numbers, by the low bits of the second
pub difference_plain : (n a b : ℕ) → difference_of n a b ≡ (a + (2 ^ n - b % 2 ^ n)) % 2 ^ n
difference_plain n a b = ⊎_elim
    (λ (less : a < b).
    let is : pos a -ℤ pos b ≡ negsuc (b - a - 1) = omega (arith, ints, less) in
    let m : ℕ = b - a - 1 in
    let more : ℕ = b / 2 ^ n - m / 2 ^ n in
    let least : m / 2 ^ n ≤ b / 2 ^ n = shr_mono n (omega (arith, less)) in
    let quotient : b / 2 ^ n ≡ m / 2 ^ n + more = omega (arith, least) in
    let parts : b / 2 ^ n * 2 ^ n ≡ m / 2 ^ n * 2 ^ n + more * 2 ^ n = ap (λ k. k * 2 ^ n) quotient ∙ spread (m / 2 ^ n) more (2 ^ n) in
    let turned : a + (2 ^ n - b % 2 ^ n) ≡ more * 2 ^ n + (2 ^ n - 1 - m % 2 ^ n) =
    omega (arith, less, parts, div-add-mod' b (2 ^ n), div-add-mod' m (2 ^ n), mod_below b (2 ^ n) (pow_pos n), mod_below m (2 ^ n) (pow_pos n)) in
    ap (unsigned n) is ∙ sym (ap (λ k. k % 2 ^ n) turned ∙ mod-mul-add more (2 ^ n) (2 ^ n - 1 - (b - a - 1) % 2 ^ n) (omega (arith, mod_below (b - a - 1) (2 ^ n) (pow_pos n), pow_pos n))))
    (λ (most : b ≤ a).
    let is : pos a -ℤ pos b ≡ pos (a - b) = omega (arith, ints, most) in
    let whole : b / 2 ^ n * 2 ^ n + b % 2 ^ n ≡ b = div-add-mod' b (2 ^ n) in
    let turned : a + (2 ^ n - b % 2 ^ n) ≡ a - b + (b / 2 ^ n + 1) * 2 ^ n = omega (arith, most, whole, mod_below b (2 ^ n) (pow_pos n)) in
    ap (unsigned n) is ∙ sym (ap (λ k. k % 2 ^ n) turned ∙ add-mul-mod_self_right (a - b) (b / 2 ^ n + 1) (2 ^ n)))
    (cases_lt a b)
  where
    spread : (q e p : ℕ) → (q + e) * p ≡ q * p + e * p
    spread q e p = omega arith

-- what is less than a power is less than a greater one
pub below_wider : (n w a : ℕ) → n ≤ w → a < 2 ^ n → a < 2 ^ w
below_wider n w a within fits = let more : 2 ^ n ≤ 2 ^ w = pow-le-pow_right (lit< tt) within in omega (arith, fits, more)

-- ══ Numbers with a sign ══

complement_of : (k d r q : ℕ) → r < q → (k + d + 1) * q - 1 - (d * q + r) ≡ k * q + (q - 1 - r)
complement_of k d r q h = omega arith

-- the low bits of a complement are the complement of the low bits
complement_low : (p q m : ℕ) → 0 < q → m < p * q → (p * q - 1 - m) % q ≡ q - 1 - m % q
complement_low p q m positive below =
    let high : m / q < p = div_below m q p positive (omega (arith, below)) in
    let p_is : p ≡ (p - 1 - m / q) + m / q + 1 = omega (arith, high) in
    let m_is : m ≡ m / q * q + m % q = sym (div-add-mod' m q) in
    let low : m % q < q = mod_below m q positive in
    ap₂ (λ s t. (s * q - 1 - t) % q) p_is m_is
    ∙ (ap (λ s. s % q) (complement_of (p - 1 - m / q) (m / q) (m % q) q low)
    ∙ mod-mul-add (p - 1 - m / q) q (q - 1 - m % q) (omega (arith, low)))

unsigned_low_at : (j n : ℕ) (i : ℤ) → wrapped n (unsigned (j + n) i) ≡ unsigned n i
unsigned_low_at j n (pos m) = mod-mod-pow m j n
unsigned_low_at j n (negsuc m) =
    let below : m % 2 ^ (j + n) < 2 ^ j * 2 ^ n = subst (λ s. m % 2 ^ (j + n) < s) (pow-add 2 j n) (mod_below m (2 ^ (j + n)) (pow_pos (j + n))) in
    ap (λ s. (s - 1 - m % 2 ^ (j + n)) % 2 ^ n) (pow-add 2 j n)
    ∙ (complement_low (2 ^ j) (2 ^ n) (m % 2 ^ (j + n)) (pow_pos n) below ∙ ap (λ s. 2 ^ n - 1 - s) (mod-mod-pow m j n))

-- the low n bits of a number of w bits
pub unsigned_low : (w n : ℕ) (i : ℤ) → n ≤ w → wrapped n (unsigned w i) ≡ unsigned n i
unsigned_low w n i within =
    let parts : (w - n) + n ≡ w = omega (arith, within) in subst (λ (k : ℕ). wrapped n (unsigned k i) ≡ unsigned n i) parts (unsigned_low_at (w - n) n i)

-- what a number is with its sign extended: itself, or with all ones above
pub extended_low : (n w a : ℕ) → n ≤ w → a < 2 ^ (n - 1) → a < 2 ^ n → sign_extended n w a ≡ a
extended_low n w a within low fits =
    ap (λ v. unsigned w (signed n v)) (mod-eq_of_lt fits) ∙ ap (unsigned w) (signed-low n a low) ∙ mod-eq_of_lt (below_wider n w a within fits)

pub extended_high : (n w a : ℕ) → n ≤ w → 2 ^ (n - 1) ≤ a → a < 2 ^ n → sign_extended n w a ≡ 2 ^ w - (2 ^ n - a)
extended_high n w a within high fits =
    let size : ℕ = 2 ^ n - a in
    let more : 2 ^ n ≤ 2 ^ w = pow-le-pow_right (lit< tt) within in
    let half : 0 < 2 ^ (n - 1) = pow_pos (n - 1) in
    let small : size % 2 ^ w ≡ size = mod-eq_of_lt (omega (arith, fits, high, more, half)) in
    ap (λ v. unsigned w (signed n v)) (mod-eq_of_lt fits) ∙ ap (unsigned w) (signed-high n a high)
    ∙ unsigned-neg w size (omega (arith, fits, small)) ∙ ap (λ k. 2 ^ w - 1 - (k - 1)) small ∙ omega (arith, fits, more)

-- half of a power, and the half of a greater one
pub halves : (n w : ℕ) → 1 ≤ n → n ≤ w → (2 ^ n ≡ 2 ^ (n - 1) + 2 ^ (n - 1)) × (2 ^ w ≡ 2 ^ (w - 1) + 2 ^ (w - 1)) × (2 ^ (n - 1) ≤ 2 ^ (w - 1))
halves n w some within = (twice n some, twice w (omega (arith, some, within)), pow-le-pow_right (lit< tt) (omega (arith, some, within)))
  where
    twice : (k : ℕ) → 1 ≤ k → 2 ^ k ≡ 2 ^ (k - 1) + 2 ^ (k - 1)
    twice k positive = let back : (k - 1) + 1 ≡ k = omega (arith, positive) in subst (λ (j : ℕ). 2 ^ j ≡ 2 ^ (k - 1) + 2 ^ (k - 1)) back (pow-add 2 (k - 1) 1 ∙ omega arith)

-- a number keeps its value as its sign is extended
pub signed_extended : (n w a : ℕ) → 1 ≤ n → n ≤ w → a < 2 ^ n → signed w (sign_extended n w a) ≡ signed n a
signed_extended n w a some within fits = ⊎_elim
    (λ (low : a < 2 ^ (n - 1)).
    let (two, more, half) = halves n w some within in
    ap (signed w) (extended_low n w a within low fits) ∙ signed-low w a (omega (arith, low, half)) ∙ sym (signed-low n a low))
    (λ (high : 2 ^ (n - 1) ≤ a).
    let (two, more, half) = halves n w some within in
    ap (signed w) (extended_high n w a within high fits) ∙ signed-high w (2 ^ w - (2 ^ n - a)) (omega (arith, high, fits, two, more, half))
    ∙ ap (λ k. neg_ℤ (pos k)) (omega (arith, high, fits, two, more, half)) ∙ sym (signed-high n a high))
    (cases_lt a (2 ^ (n - 1)))

-- a constant's number has its bits
pub bits_back : (n value : ℕ) → 1 ≤ n → value < 2 ^ n → unsigned n (signed n value) ≡ value
bits_back n value some fits = ⊎_elim
    (λ (below : value < 2 ^ (n - 1)).
    let is : signed n value ≡ pos value = grind (arith, nat_tests) in
    ap (unsigned n) is ∙ mod-eq_of_lt fits)
    (λ (above : 2 ^ (n - 1) ≤ value).
    let is : signed n value ≡ neg_ℤ (pos (2 ^ n - value)) = grind (arith, nat_tests) in
    ap (unsigned n) is ∙ negated (2 ^ n - value) (omega arith) (omega arith) ∙ omega arith)
    (split value (2 ^ (n - 1)))
  where
    split : (a b : ℕ) → (a < b) ⊎ (b ≤ a)
    split a b = grind arith

    negated : (size : ℕ) → 0 < size → size ≤ 2 ^ n → unsigned n (neg_ℤ (pos size)) ≡ 2 ^ n - size
    negated zero some within = absurd (omega arith)
    negated (suc m) some within = let small : m % 2 ^ n ≡ m = mod-eq_of_lt (omega arith) in omega (arith, small)

-- ══ What is given ══

-- any value, where an amount is too great
pub free_given : (n u : ℕ) → u < 2 ^ n → MayGive (free n) (u ∷ [])
free_given n u fits = (fits, mod-one u)

-- nothing is promised, or the value, or any where a promise is broken
pub unless_undefined : (none broken : Bool) (n v u : ℕ) → u < 2 ^ n → v ≡ u → MayGive (cond none Undefined (unless_broken broken n v)) (u ∷ [])
unless_undefined true broken n v u fits is = tt
unless_undefined false broken n v u fits is = unless broken n v u fits is
