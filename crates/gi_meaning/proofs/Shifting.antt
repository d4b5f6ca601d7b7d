-- Shifts as products and quotients by powers of two.
use Rattle.std.proofs.Common.{◌≡◌, ℕ, zero, suc, ◌+◌, ◌-◌, ◌*◌, ◌/◌, ◌%◌, ◌^◌, ◌<◌, ◌≤◌, refl, sym, ◌∙◌, ap, ap₂, arith, Bool, true, false, nat_le, pos, negsuc, ◌*ℤ◌, neg_ℤ, nat_abs}
use Rattle.std.proofs.lemmas.Nat.{pow_pos, pow-add, div-mul-add, mod-mul-add, mul-add-lt, div_below, shr_le}
use Rattle.std.proofs.lemmas.Bool.{leb-true, leb-false}
use Rattle.std.proofs.Math.Nat.{mod-eq_of_lt, mod-lt, add-mul-mod_self_left, div-add-mod', div-le_self, div-one}
use Rattle.gi_llt.specs.Bits.{signed, unsigned, sign_extended}
use Rattle.gi_meaning.specs.Plain.{with_sign, differ}
use Rattle.gi_meaning.specs.Generic.{arithmetic_shift_of, funnel_left, funnel_right}
use Rattle.gi_meaning.proofs.Numbers.{signed_is, signed-low, signed-high, with_sign-mul}

pub grow : (p q : ℕ) → 0 < q → p ≤ p * q
grow p zero h = absurd (omega arith)
grow p (suc q) h = omega arith

negated : (p a : ℕ) → a < p → neg_ℤ (pos (p - a)) ≡ negsuc (p - 1 - a)
negated p a h = let e : p - a ≡ suc (p - 1 - a) = omega arith in ap (λ m. neg_ℤ (pos m)) e

differ-false : (b : Bool) → differ b false ≡ b
differ-false true = refl
differ-false false = refl

pub signed_shift : (n a k : ℕ) → signed n a *ℤ pos (2 ^ k) ≡ with_sign (nat_le (2 ^ (n - 1)) a) (nat_abs (signed n a) * 2 ^ k)
signed_shift n a k =
    let s = nat_le (2 ^ (n - 1)) a in let m = nat_abs (signed n a) in
    ap (λ z. z *ℤ pos (2 ^ k)) (signed_is n a) ∙ (with_sign-mul s false m (2 ^ k) ∙ ap (λ b. with_sign b (m * 2 ^ k)) (differ-false s))

-- a quotient below a bound is its own low bits
pub arithmetic_low : (n a k : ℕ) → nat_le (2 ^ (n - 1)) a ≡ false → a < 2 ^ n → arithmetic_shift_of n a k ≡ a / 2 ^ k
arithmetic_low n a k h l =
    let low : a < 2 ^ (n - 1) = leb-false (2 ^ (n - 1)) a h in
    let more : 2 ^ n ≤ 2 ^ (n + k) = rw (pow-add 2 n k) (grow (2 ^ n) (2 ^ k) (pow_pos k)) in
    let e : sign_extended n (n + k) a ≡ a = ap (λ m. unsigned (n + k) (signed n m)) (mod-eq_of_lt l) ∙ (ap (unsigned (n + k)) (signed-low n a low) ∙ mod-eq_of_lt (omega arith)) in
    let q : a / 2 ^ k ≤ a = shr_le a k in
    ap (λ m. m / 2 ^ k % 2 ^ n) e ∙ mod-eq_of_lt (omega arith)

complement_of : (k d r q : ℕ) → r < q → (k + d + 1) * q - 1 - (d * q + r) ≡ k * q + (q - 1 - r)
complement_of k d r q h = omega arith

-- the complement of a quotient is the quotient of the complement
pub complement : (p q c : ℕ) → 0 < q → c < p → (p * q - 1 - c) / q ≡ p - 1 - c / q
complement p q c h l =
    let below : c / q ≤ c = div-le_self c q in
    let e : p ≡ p - 1 - c / q + c / q + 1 = omega arith in
    let f : c ≡ c / q * q + c % q = sym (div-add-mod' c q) in
    ap₂ (λ x y. (x * q - 1 - y) / q) e f
    ∙ (ap (λ m. m / q) (complement_of (p - 1 - c / q) (c / q) (c % q) q (mod-lt c h))
    ∙ div-mul-add (p - 1 - c / q) q (q - 1 - c % q) (omega arith))

pub arithmetic_high : (n a k : ℕ) → nat_le (2 ^ (n - 1)) a ≡ true → a < 2 ^ n → arithmetic_shift_of n a k ≡ 2 ^ n - 1 - (2 ^ n - 1 - a) / 2 ^ k
arithmetic_high n a k h l =
    let high : 2 ^ (n - 1) ≤ a = leb-true (2 ^ (n - 1)) a h in
    let more : 2 ^ n ≤ 2 ^ (n + k) = rw (pow-add 2 n k) (grow (2 ^ n) (2 ^ k) (pow_pos k)) in
    let z : neg_ℤ (pos (2 ^ n - a)) ≡ negsuc (2 ^ n - 1 - a) = negated (2 ^ n) a l in
    let small : (2 ^ n - 1 - a) % 2 ^ (n + k) ≡ 2 ^ n - 1 - a = mod-eq_of_lt (omega arith) in
    let e : sign_extended n (n + k) a ≡ 2 ^ n * 2 ^ k - 1 - (2 ^ n - 1 - a) =
    ap (λ m. unsigned (n + k) (signed n m)) (mod-eq_of_lt l) ∙ (ap (unsigned (n + k)) (signed-high n a high ∙ z) ∙ (ap (λ m. 2 ^ (n + k) - 1 - m) small ∙ ap (λ m. m - 1 - (2 ^ n - 1 - a)) (pow-add 2 n k))) in
    let c : (2 ^ n * 2 ^ k - 1 - (2 ^ n - 1 - a)) / 2 ^ k ≡ 2 ^ n - 1 - (2 ^ n - 1 - a) / 2 ^ k = complement (2 ^ n) (2 ^ k) (2 ^ n - 1 - a) (pow_pos k) (omega arith) in
    ap (λ m. m / 2 ^ k % 2 ^ n) e ∙ (ap (λ m. m % 2 ^ n) c ∙ mod-eq_of_lt (omega arith))

spread : (u t v s q : ℕ) → (u * t + v) * s + q ≡ v * s + q + t * s * u
spread u t v s q = omega arith

-- a value above another, cut to the bits of both
fitted : (s t a q : ℕ) → 0 < t → q < s → (a * s + q) % (t * s) ≡ a % t * s + q
fitted s t a q h l =
    let below : a % t * s + q < s * t = mul-add-lt (a % t) s q t (mod-lt a h) l in
    ap (λ m. (m * s + q) % (t * s)) (sym (div-add-mod' a t))
    ∙ (ap (λ m. m % (t * s)) (spread (a / t) t (a % t) s q)
    ∙ (add-mul-mod_self_left (a % t * s + q) (t * s) (a / t)
    ∙ mod-eq_of_lt (omega arith)))

quotient_below : (s t b : ℕ) → 0 < t → b < t * s → b / t < s
quotient_below s t b h l = div_below b t s h (omega arith)

shifted : (s t a q r : ℕ) → (a * (t * s) + (q * t + r)) * s ≡ (a * s + q) * (t * s) + r * s
shifted s t a q r = omega arith

scaled_below : (s t r : ℕ) → 0 < s → r < t → r * s < t * s
scaled_below s t r h l = omega (arith, mul-add-lt r s 0 t l h)

left_at : (s t a b : ℕ) → 0 < s → 0 < t → b < t * s → (a * (t * s) + b) * s / (t * s) % (t * s) ≡ a % t * s + b / t
left_at s t a b g h l =
    ap (λ m. (a * (t * s) + m) * s / (t * s) % (t * s)) (sym (div-add-mod' b t))
    ∙ (ap (λ m. m / (t * s) % (t * s)) (shifted s t a (b / t) (b % t))
    ∙ (ap (λ m. m % (t * s)) (div-mul-add (a * s + b / t) (t * s) (b % t * s) (scaled_below s t (b % t) g (mod-lt b h)))
    ∙ fitted s t a (b / t) h (quotient_below s t b h l)))

regrouped : (s t a q r : ℕ) → a * (t * s) + (q * t + r) ≡ (a * s + q) * t + r
regrouped s t a q r = omega arith

right_at : (s t a b : ℕ) → 0 < t → b < t * s → (a * (t * s) + b) / t % (t * s) ≡ a % t * s + b / t
right_at s t a b h l =
    ap (λ m. (a * (t * s) + m) / t % (t * s)) (sym (div-add-mod' b t))
    ∙ (ap (λ m. m / t % (t * s)) (regrouped s t a (b / t) (b % t))
    ∙ (ap (λ m. m % (t * s)) (div-mul-add (a * s + b / t) t (b % t) (mod-lt b h))
    ∙ fitted s t a (b / t) h (quotient_below s t b h l)))

-- 2 ^ n as a product
parted : (n s : ℕ) → s ≤ n → 2 ^ n ≡ 2 ^ (n - s) * 2 ^ s
parted n s h = let e : n ≡ (n - s) + s = omega arith in ap (λ m. 2 ^ m) e ∙ pow-add 2 (n - s) s

pub joined_below : (n a b s : ℕ) → s < n → b < 2 ^ n → a % 2 ^ (n - s) * 2 ^ s + b / 2 ^ (n - s) < 2 ^ n
joined_below n a b s h l =
    let e : 2 ^ n ≡ 2 ^ (n - s) * 2 ^ s = parted n s (omega arith) in
    let q : b / 2 ^ (n - s) < 2 ^ s = quotient_below (2 ^ s) (2 ^ (n - s)) b (pow_pos (n - s)) (omega arith) in
    let m : a % 2 ^ (n - s) * 2 ^ s + b / 2 ^ (n - s) < 2 ^ s * 2 ^ (n - s) = mul-add-lt (a % 2 ^ (n - s)) (2 ^ s) (b / 2 ^ (n - s)) (2 ^ (n - s)) (mod-lt a (pow_pos (n - s))) q in
    omega arith

one_time : (n : ℕ) → 1 * n ≡ n
one_time n = omega arith

whole : (p a b : ℕ) → b < p → (a * p + b) * 2 ^ 0 / p ≡ a
whole p a b h = let e : (a * p + b) * 2 ^ 0 ≡ a * p + b = omega arith in ap (λ m. m / p) e ∙ div-mul-add a p b h

pub funnel_left_none : (n a b k : ℕ) → a < 2 ^ n → b < 2 ^ n → k % n ≡ 0 → funnel_left n a b k ≡ a
funnel_left_none n a b k h l e =
    ap₂ (λ j m. (a * 2 ^ n + b) * 2 ^ j / 2 ^ m % 2 ^ n) e (one_time n)
    ∙ (ap (λ m. m % 2 ^ n) (whole (2 ^ n) a b l) ∙ mod-eq_of_lt h)

pub funnel_left_some : (n a b k s : ℕ) → a < 2 ^ n → b < 2 ^ n → k % n ≡ s → s < n → funnel_left n a b k ≡ a % 2 ^ (n - s) * 2 ^ s + b / 2 ^ (n - s)
funnel_left_some n a b k s h l e u =
    let p : 2 ^ n ≡ 2 ^ (n - s) * 2 ^ s = parted n s (omega arith) in
    ap₂ (λ j m. (a * 2 ^ n + b) * 2 ^ j / 2 ^ m % 2 ^ n) e (one_time n)
    ∙ (ap (λ m. (a * m + b) * 2 ^ s / m % m) p
    ∙ left_at (2 ^ s) (2 ^ (n - s)) a b (pow_pos s) (pow_pos (n - s)) (omega arith))

pub funnel_right_none : (n a b k : ℕ) → a < 2 ^ n → b < 2 ^ n → k % n ≡ 0 → funnel_right n a b k ≡ b
funnel_right_none n a b k h l e =
    ap (λ j. (a * 2 ^ n + b) / 2 ^ j % 2 ^ n) e
    ∙ (ap (λ m. m % 2 ^ n) (div-one (a * 2 ^ n + b)) ∙ mod-mul-add a (2 ^ n) b l)

pub funnel_right_some : (n a b k s : ℕ) → a < 2 ^ n → b < 2 ^ n → k % n ≡ n - s → s < n → 0 < s → funnel_right n a b k ≡ a % 2 ^ (n - s) * 2 ^ s + b / 2 ^ (n - s)
funnel_right_some n a b k s h l e u v =
    let p : 2 ^ n ≡ 2 ^ (n - s) * 2 ^ s = parted n s (omega arith) in
    ap (λ j. (a * 2 ^ n + b) / 2 ^ j % 2 ^ n) e
    ∙ (ap (λ m. (a * m + b) / 2 ^ (n - s) % m) p
    ∙ right_at (2 ^ s) (2 ^ (n - s)) a b (pow_pos (n - s)) (omega arith))
