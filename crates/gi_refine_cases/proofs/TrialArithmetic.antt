-- Numbers under the trial rules.
use Rattle.std.proofs.Common.{◌≡◌, ℕ, ◌+◌, ◌-◌, ◌*◌, ◌/◌, ◌%◌, ◌^◌, ◌<◌, ◌≤◌, Bool, true, false, refl, sym, ap, ap₂, ◌∙◌, subst, arith}
use Rattle.std.specs.Prelude.{nat_le}
use Rattle.std.proofs.Math.Nat.{mod-eq_of_lt, mod-add-mod, add-mod-mod, add-mul-mod_self_right, mod-add-div, mul_comm, add-mod_right, mul-one, mul-zero, mul-add, add-zero}
use Rattle.std.proofs.lemmas.Bool.{leb-true, leb-false}
use Rattle.std.proofs.Math.Pow.{mod-mod-pow}
use Rattle.std.proofs.lemmas.Nat.{pow_pos, pow-add, mod_below, mul-add-lt, div_below}
use Rattle.gi_llt.specs.Bits.{wrapped}
use Rattle.gi_meaning.specs.Generic.{bit_of}

-- the low bits of a sum are those of the sum of low bits
pub sum_of_low : (p f g a b : ℕ) → f % p ≡ a % p → g % p ≡ b % p → (f + g) % p ≡ (a + b) % p
sum_of_low p f g a b e h =
    sym (mod-add-mod f p g) ∙ ap (λ r. (r + g) % p) e ∙ sym (add-mod-mod (a % p) g p) ∙ ap (λ r. (a % p + r) % p) h ∙ add-mod-mod (a % p) b p ∙ mod-add-mod a p b

-- the low bits of a wider sum
pub sum_of_extended : (n y f g a b : ℕ) → f % 2 ^ n ≡ a % 2 ^ n → g % 2 ^ n ≡ b % 2 ^ n → wrapped n (wrapped (y + n) (f + g)) ≡ wrapped n (a + b)
sum_of_extended n y f g a b e h = mod-mod-pow (f + g) y n ∙ sum_of_low (2 ^ n) f g a b e h

-- ══ Sums of halves ══

-- a sum of two halves is its low half and a carry
carry_of : (p s : ℕ) (b : Bool) → nat_le p s ≡ b → s < p + p → s % p + p * bit_of b ≡ s
carry_of p s true le below =
    let there : p ≤ s = leb-true p s le in
    let back : (s - p) + p ≡ s = omega (arith, there) in
    let rest : s % p ≡ s - p = ap (λ t. t % p) (sym back) ∙ add-mod_right (s - p) p ∙ mod-eq_of_lt (omega (arith, there, below)) in
    ap₂ (λ u v. u + v) rest (mul-one p) ∙ back
carry_of p s false le below =
    let less : s < p = leb-false p s le in
    ap₂ (λ u v. u + v) (mod-eq_of_lt less) (mul-zero p) ∙ add-zero s

-- lo and hi are the halves of the sum of two values, given by halves
sum_of_halves : (p al ah bl bh c q lo hi : ℕ) → lo + p * c ≡ al + bl → hi + p * q ≡ ah + bh + c → (al + p * ah) + (bl + p * bh) ≡ (lo + p * hi) + q * (p * p)
sum_of_halves p al ah bl bh c q lo hi low high =
    let product : p * (hi + p * q) ≡ p * (ah + bh + c) = ap (λ t. p * t) high in
    let left : p * (hi + p * q) ≡ p * hi + p * (p * q) = mul-add p hi (p * q) in
    let right : p * (ah + bh + c) ≡ p * ah + p * bh + p * c = mul-add p (ah + bh) c ∙ ap (λ t. t + p * c) (mul-add p ah bh) in
    let square : q * (p * p) ≡ p * (p * q) = grind arith in
    omega (arith, low, product, left, right, square)

-- the sum of two values of two halves, modulo their width
halves_merge : (p a b c q lo hi : ℕ) → lo < p → hi < p → lo + p * c ≡ a % p + b % p → hi + p * q ≡ a / p + b / p + c → (a + b) % (p * p) ≡ lo + p * hi
halves_merge p a b c q lo hi low_fits high_fits low high =
    let whole : a + b ≡ (lo + p * hi) + q * (p * p) =
    ap₂ (λ u v. u + v) (sym (mod-add-div a p)) (sym (mod-add-div b p)) ∙ sum_of_halves p (a % p) (a / p) (b % p) (b / p) c q lo hi low high in
    let fits : lo + p * hi < p * p = omega (arith, mul-add-lt hi p lo p high_fits low_fits, mul_comm p hi) in
    ap (λ t. t % (p * p)) whole ∙ add-mul-mod_self_right (lo + p * hi) q (p * p) ∙ mod-eq_of_lt fits

-- of two values of twice n bits the low halves are added, and the high halves with the carry
pub sum_by_halves : (n a b : ℕ) → a < 2 ^ (n + n) → b < 2 ^ (n + n)
    → (a % 2 ^ n + b % 2 ^ n + 0) % 2 ^ n + 2 ^ n * ((a / 2 ^ n % 2 ^ n + b / 2 ^ n % 2 ^ n + bit_of (nat_le (2 ^ n) (a % 2 ^ n + b % 2 ^ n + 0))) % 2 ^ n + 2 ^ n * 0) ≡ wrapped (n + n) (a + b)
sum_by_halves n a b a_fits b_fits =
    let p : ℕ = 2 ^ n in
    let s : ℕ = a % p + b % p + 0 in
    let c : ℕ = bit_of (nat_le p s) in
    let t : ℕ = a / p % p + b / p % p + c in
    let square : 2 ^ (n + n) ≡ p * p = pow-add 2 n n in
    let positive : 0 < p = pow_pos n in
    let a_low : a % p < p = mod_below a p positive in
    let b_low : b % p < p = mod_below b p positive in
    let a_high : a / p % p ≡ a / p = mod-eq_of_lt (div_below a p p positive (subst (λ k. a < k) square a_fits)) in
    let b_high : b / p % p ≡ b / p = mod-eq_of_lt (div_below b p p positive (subst (λ k. b < k) square b_fits)) in
    let low : s % p + p * c ≡ a % p + b % p = carry_of p s (nat_le p s) refl (omega (arith, a_low, b_low)) ∙ add-zero (a % p + b % p) in
    let high : t % p + p * (t / p) ≡ a / p + b / p + c = mod-add-div t p ∙ ap₂ (λ u v. u + v + c) a_high b_high in
    let merge : (a + b) % (p * p) ≡ s % p + p * (t % p) = halves_merge p a b c (t / p) (s % p) (t % p) (mod_below s p positive) (mod_below t p positive) low high in
    ap (λ u. s % p + p * (t % p + u)) (mul-zero p) ∙ ap (λ u. s % p + p * u) (add-zero (t % p)) ∙ sym merge ∙ ap (λ k. (a + b) % k) (sym square)
