-- Numbers below a power of two, and their signs.
use Rattle.std.proofs.Common.{◌≡◌, ℕ, zero, suc, ◌+◌, ◌-◌, ◌*◌, ◌/◌, ◌%◌, ◌^◌, ◌<◌, ◌≤◌, ◌⊎◌, inl, inr, refl, sym, lit<, ◌∙◌, ap, ap₂, subst, arith, Bool, true, false, ◌||◌, nat_le, nat_lt, ℤ, pos, negsuc, ◌+ℤ◌, ◌-ℤ◌, ◌*ℤ◌, neg_ℤ, nat_abs}
use Rattle.std.specs.Prelude.{int_lt, int_le}
use Rattle.std.proofs.lemmas.Nat.{pow_pos, pow_below}
use Rattle.std.proofs.Math.Pow.{mod-mod-pow}
use Rattle.std.proofs.lemmas.Nat.Bits.{ones_shr}
use Rattle.std.proofs.lemmas.Bool.{lt-ltb, le-ltb, le-leb, lt-leb, cases_lt}
use Rattle.std.proofs.lemmas.Bool.Decides.{nat_tests}
use Rattle.std.proofs.lemmas.Int.{ints}
use Rattle.std.proofs.Math.Nat.{suc-mod, mod-eq_of_lt, mod_self, mod-lt, zero-mod, pow-le-pow_right, add-mul-mod_self_left, lt_of_lt_of_le, le_trans}
use Rattle.gi_llt.specs.Bits.{signed, unsigned, wrapped, sign_extended}
use Rattle.gi_meaning.specs.Plain.{with_sign, differ}
use Rattle.gi_meaning.specs.Generic.{leaves_signed, difference_of}

pub greatest_is : (n : ℕ) → n ≤ 128 → (2 ^ 128 - 1) / 2 ^ (128 - n) ≡ 2 ^ n - 1
greatest_is n h =
    let e : 128 - (128 - n) ≡ n = omega arith in
    ones_shr 128 (128 - n) (omega arith) ∙ ap (λ m. 2 ^ m - 1) e

-- the remainder of the next number is 0, or one more
pub mod-step : (k p : ℕ) → 0 < p → ((suc k % p ≡ 0) × (k % p + 1 ≡ p)) ⊎ ((suc k % p ≡ k % p + 1) × (k % p + 1 < p))
mod-step k p h =
    let below : k % p < p = mod-lt k h in
    let s : suc k % p ≡ suc (k % p) % p = suc-mod k p in
    elim (cases_lt (k % p + 1) p) [
      | inl lt ↦ (let m : suc (k % p) % p ≡ suc (k % p) = mod-eq_of_lt (omega arith) in inr (omega arith, lt))
      | inr le ↦ (let e : suc (k % p) ≡ p = omega arith in
          let m : suc (k % p) % p ≡ 0 = ap (λ x. x % p) e ∙ mod_self p in inl (omega arith, omega arith))
    ]

pub unsigned-neg : (n size : ℕ) → 0 < size % 2 ^ n → unsigned n (neg_ℤ (pos size)) ≡ 2 ^ n - 1 - (size % 2 ^ n - 1)
unsigned-neg n zero h = absurd (omega (arith, zero-mod (2 ^ n)))
unsigned-neg n (suc k) h = elim (mod-step k (2 ^ n) (pow_pos n)) [ inl a ↦ absurd (omega arith) | inr b ↦ omega arith ]

pub unsigned-neg_zero : (n size : ℕ) → size % 2 ^ n ≡ 0 → unsigned n (neg_ℤ (pos size)) ≡ 0
unsigned-neg_zero n zero h = h
unsigned-neg_zero n (suc k) h = elim (mod-step k (2 ^ n) (pow_pos n)) [ inl a ↦ omega arith | inr b ↦ omega arith ]

pub nat_abs-neg : (m : ℕ) → nat_abs (neg_ℤ (pos m)) ≡ m
nat_abs-neg zero = refl
nat_abs-neg (suc m) = refl

pub signed-low : (n a : ℕ) → a < 2 ^ (n - 1) → signed n a ≡ pos a
signed-low n a h = rw (lt-ltb a (2 ^ (n - 1)) h) refl

pub signed-high : (n a : ℕ) → 2 ^ (n - 1) ≤ a → signed n a ≡ neg_ℤ (pos (2 ^ n - a))
signed-high n a h = rw (le-ltb a (2 ^ (n - 1)) h) refl

-- a value that is read with a sign is its sign and its size
pub signed_is : (n a : ℕ) → signed n a ≡ with_sign (nat_le (2 ^ (n - 1)) a) (nat_abs (signed n a))
signed_is n a = elim (cases_lt a (2 ^ (n - 1))) [
  | inl h ↦ (rw (lt-leb (2 ^ (n - 1)) a h, lt-ltb a (2 ^ (n - 1)) h) refl)
  | inr h ↦ (rw (le-leb (2 ^ (n - 1)) a h, le-ltb a (2 ^ (n - 1)) h) (ap (λ m. neg_ℤ (pos m)) (sym (nat_abs-neg (2 ^ n - a)))))
]

leaves-pos_at : (half m : ℕ) → 0 < half → (int_lt (pos m) (neg_ℤ (pos half)) || int_le (pos half) (pos m)) ≡ nat_le half m
leaves-pos_at zero m h = absurd (omega arith)
leaves-pos_at (suc k) m h = refl

leaves-neg_at : (half m : ℕ) → 0 < half → (int_lt (neg_ℤ (pos m)) (neg_ℤ (pos half)) || int_le (pos half) (neg_ℤ (pos m))) ≡ nat_lt half m
leaves-neg_at zero m h = absurd (omega arith)
leaves-neg_at (suc k) zero h = grind (arith, nat_tests)
leaves-neg_at (suc k) (suc m) h = grind (arith, nat_tests)

pub leaves_signed-pos : (n m : ℕ) → leaves_signed n (pos m) ≡ nat_le (2 ^ (n - 1)) m
leaves_signed-pos n m = leaves-pos_at (2 ^ (n - 1)) m (pow_pos (n - 1))

pub leaves_signed-neg : (n m : ℕ) → leaves_signed n (neg_ℤ (pos m)) ≡ nat_lt (2 ^ (n - 1)) m
leaves_signed-neg n m = leaves-neg_at (2 ^ (n - 1)) m (pow_pos (n - 1))

pub power_le : (n : ℕ) → n ≤ 128 → 2 ^ n ≤ 2 ^ 128
power_le n h = pow-le-pow_right (lit< tt) h

pub half_le : (n : ℕ) → n ≤ 128 → 2 ^ (n - 1) ≤ 2 ^ 128
half_le n h = let e : n - 1 ≤ 128 = omega arith in pow-le-pow_right (lit< tt) e

-- to wrap at 128 bits first changes nothing
pub wrapped_twice : (n v : ℕ) → n ≤ 128 → v % 2 ^ 128 % 2 ^ n ≡ v % 2 ^ n
wrapped_twice n v h =
    let e : (128 - n) + n ≡ 128 = omega arith in
    subst (λ (w : ℕ). v % 2 ^ w % 2 ^ n ≡ v % 2 ^ n) e (mod-mod-pow v (128 - n) n)

pub negative_bits : (n size low top : ℕ) (negative : Bool) → negative ≡ true → low ≡ size % 2 ^ n → 0 < low → top ≡ 2 ^ n - 1 → top - (low - 1) ≡ unsigned n (with_sign negative size)
negative_bits n size low top negative s e p t =
    rw s (let q : 0 < size % 2 ^ n = omega arith in let u : unsigned n (neg_ℤ (pos size)) ≡ 2 ^ n - 1 - (size % 2 ^ n - 1) = unsigned-neg n size q in omega arith)

pub negative_zero : (n size low : ℕ) (negative : Bool) → negative ≡ true → low ≡ size % 2 ^ n → low ≡ 0 → low ≡ unsigned n (with_sign negative size)
negative_zero n size low negative s e p =
    rw s (let q : size % 2 ^ n ≡ 0 = omega arith in let u : unsigned n (neg_ℤ (pos size)) ≡ 0 = unsigned-neg_zero n size q in omega arith)

pub positive_bits : (n size low : ℕ) (negative : Bool) → negative ≡ false → low ≡ size % 2 ^ n → low ≡ unsigned n (with_sign negative size)
positive_bits n size low negative s e = rw s e

suc_half_lt : (n m : ℕ) → n ≤ 128 → 2 ^ 128 ≤ m → 2 ^ (n - 1) < m
suc_half_lt n m h g = lt_of_lt_of_le (pow_below (n - 1) 128 (omega arith)) g

-- a size that is too great for 128 bits leaves every width
pub leaves_too_great : (n m : ℕ) (negative : Bool) → n ≤ 128 → 2 ^ 128 ≤ m → leaves_signed n (with_sign negative m) ≡ true
leaves_too_great n m true h g =
    let l : 2 ^ (n - 1) < m = suc_half_lt n m h g in leaves_signed-neg n m ∙ lt-ltb (2 ^ (n - 1)) m l
leaves_too_great n m false h g =
    let l : 2 ^ (n - 1) ≤ m = le_trans (half_le n h) g in leaves_signed-pos n m ∙ le-leb (2 ^ (n - 1)) m l

pub too_great : (n m : ℕ) → n ≤ 128 → 2 ^ 128 ≤ m → nat_le (2 ^ n) m ≡ true
too_great n m h g = le-leb (2 ^ n) m (le_trans (power_le n h) g)

pub with_sign-mul : (b c : Bool) (m k : ℕ) → with_sign b m *ℤ with_sign c k ≡ with_sign (differ b c) (m * k)
with_sign-mul true true zero zero = refl
with_sign-mul true true zero (suc k) = omega (arith, ints)
with_sign-mul true true (suc m) zero = omega (arith, ints)
with_sign-mul true true (suc m) (suc k) = refl
with_sign-mul true false zero k = omega (arith, ints)
with_sign-mul true false (suc m) k = omega (arith, ints)
with_sign-mul false true m zero = omega (arith, ints)
with_sign-mul false true m (suc k) = omega (arith, ints)
with_sign-mul false false m k = refl

pub signed_product : (n a b : ℕ) → signed n a *ℤ signed n b ≡ with_sign (differ (nat_le (2 ^ (n - 1)) a) (nat_le (2 ^ (n - 1)) b)) (nat_abs (signed n a) * nat_abs (signed n b))
signed_product n a b = ap₂ (λ x y. x *ℤ y) (signed_is n a) (signed_is n b) ∙ with_sign-mul (nat_le (2 ^ (n - 1)) a) (nat_le (2 ^ (n - 1)) b) (nat_abs (signed n a)) (nat_abs (signed n b))

with_sign-add : (b : Bool) (m k : ℕ) → with_sign b m +ℤ with_sign b k ≡ with_sign b (m + k)
with_sign-add true m k = omega (arith, ints)
with_sign-add false m k = refl

same-sign : (b c : Bool) → differ b c ≡ false → c ≡ b
same-sign true true h = refl
same-sign true false h = cc
same-sign false true h = cc
same-sign false false h = refl

pub signed_sum : (n a b : ℕ) → differ (nat_le (2 ^ (n - 1)) a) (nat_le (2 ^ (n - 1)) b) ≡ false → signed n a +ℤ signed n b ≡ with_sign (nat_le (2 ^ (n - 1)) a) (nat_abs (signed n a) + nat_abs (signed n b))
signed_sum n a b h =
    let e : nat_le (2 ^ (n - 1)) b ≡ nat_le (2 ^ (n - 1)) a = same-sign (nat_le (2 ^ (n - 1)) a) (nat_le (2 ^ (n - 1)) b) h in
    ap₂ (λ x y. x +ℤ y) (signed_is n a) (signed_is n b ∙ ap (λ s. with_sign s (nat_abs (signed n b))) e) ∙ with_sign-add (nat_le (2 ^ (n - 1)) a) (nat_abs (signed n a)) (nat_abs (signed n b))

pub sum_leaves : (n a b : ℕ) → n ≤ 128 → differ (nat_le (2 ^ (n - 1)) a) (nat_le (2 ^ (n - 1)) b) ≡ false → 2 ^ 128 ≤ nat_abs (signed n a) + nat_abs (signed n b) → leaves_signed n (signed n a +ℤ signed n b) ≡ true
sum_leaves n a b l h g = ap (leaves_signed n) (signed_sum n a b h) ∙ leaves_too_great n (nat_abs (signed n a) + nat_abs (signed n b)) (nat_le (2 ^ (n - 1)) a) l g

pub wrapped_whole : (n a b c : ℕ) → a < 2 ^ n → b + c ≡ 2 ^ n → wrapped n (a + b + c) ≡ a
wrapped_whole n a b c h e =
    let s : a + b + c ≡ a + 2 ^ n * 1 = omega arith in
    ap (λ m. m % 2 ^ n) s ∙ (add-mul-mod_self_left a (2 ^ n) 1 ∙ mod-eq_of_lt h)

pub difference_whole : (n a b : ℕ) → a < 2 ^ n → b ≡ 2 ^ n → difference_of n a b ≡ a
difference_whole n a b h e =
    let z : pos a -ℤ pos b ≡ negsuc (2 ^ n - a - 1) = omega (arith, ints) in
    let m : (2 ^ n - a - 1) % 2 ^ n ≡ 2 ^ n - a - 1 = mod-eq_of_lt (omega arith) in
    let u : unsigned n (negsuc (2 ^ n - a - 1)) ≡ a = omega arith in
    ap (unsigned n) z ∙ u

pub unsigned_below : (n : ℕ) (z : ℤ) → unsigned n z < 2 ^ n
unsigned_below n (pos m) = mod-lt m (pow_pos n)
unsigned_below n (negsuc m) = omega (arith, pow_pos n)

pub extended_is : (m n a : ℕ) → a < 2 ^ m → sign_extended m n a ≡ unsigned n (with_sign (nat_le (2 ^ (m - 1)) a) (nat_abs (signed m a)))
extended_is m n a h = ap (λ v. unsigned n (signed m v)) (mod-eq_of_lt h) ∙ ap (unsigned n) (signed_is m a)
