-- Counts of bits and reversed bytes, a step at a time.
use Rattle.std.proofs.Common.{◌≡◌, ℕ, zero, suc, ◌+◌, ◌-◌, ◌*◌, ◌/◌, ◌%◌, ◌^◌, ◌<◌, ◌≤◌, inl, inr, refl, sym, ◌∙◌, ap, subst, arith, lit<}
use Rattle.std.proofs.lemmas.Bool.{lt-ltb, le-ltb, ne_eqb, eq-eqb, cases_lt, cases_eq}
use Rattle.std.proofs.Math.Nat.{mod-lt, pow-suc, pow-le-pow_right}
use Rattle.gi_meaning.specs.Generic.{leading_zeros, trailing_zeros, ones, reversed_bytes}

pub leading_zeros_le : (n a : ℕ) → leading_zeros n a ≤ n
leading_zeros_le zero a = omega arith
leading_zeros_le (suc n) a = elim (cases_lt a (2 ^ n)) [
  | inl h ↦ (rw (lt-ltb a (2 ^ n) h) (omega (arith, leading_zeros_le n a)))
  | inr h ↦ (rw (le-ltb a (2 ^ n) h) (omega arith))
]

-- after i zeros, one more
pub leading_more : (n i a : ℕ) → i < n → a < 2 ^ (n - 1 - i) → i + 1 + leading_zeros (n - (i + 1)) a ≡ i + leading_zeros (n - i) a
leading_more n i a h l =
    let e : n - i ≡ suc (n - 1 - i) = omega arith in
    let f : n - (i + 1) ≡ n - 1 - i = omega arith in
    let s : leading_zeros (suc (n - 1 - i)) a ≡ suc (leading_zeros (n - 1 - i) a) = rw (lt-ltb a (2 ^ (n - 1 - i)) l) refl in
    omega (arith, ap (λ m. leading_zeros m a) e, ap (λ m. leading_zeros m a) f, s)

pub leading_end : (n i a : ℕ) → i < n → 2 ^ (n - 1 - i) ≤ a → leading_zeros (n - i) a ≡ 0
leading_end n i a h l =
    let e : n - i ≡ suc (n - 1 - i) = omega arith in
    ap (λ m. leading_zeros m a) e ∙ (let s : leading_zeros (suc (n - 1 - i)) a ≡ 0 = rw (le-ltb a (2 ^ (n - 1 - i)) l) refl in s)

pub leading_none : (n i a : ℕ) → n ≤ i → leading_zeros (n - i) a ≡ 0
leading_none n i a h = let e : n - i ≡ 0 = omega arith in ap (λ m. leading_zeros m a) e

pub trailing_zeros_le : (n a : ℕ) → trailing_zeros n a ≤ n
trailing_zeros_le zero a = omega arith
trailing_zeros_le (suc n) a = elim (cases_eq (a % 2) 0) [
  | inl h ↦ (rw (eq-eqb (a % 2) 0 h) (omega (arith, trailing_zeros_le n (a / 2))))
  | inr h ↦ (rw (ne_eqb (a % 2) 0 h) (omega arith))
]

pub trailing_more : (n i a : ℕ) → i < n → a % 2 ≡ 0 → i + 1 + trailing_zeros (n - (i + 1)) (a / 2) ≡ i + trailing_zeros (n - i) a
trailing_more n i a h l =
    let e : n - i ≡ suc (n - (i + 1)) = omega arith in
    let s : trailing_zeros (suc (n - (i + 1))) a ≡ suc (trailing_zeros (n - (i + 1)) (a / 2)) = rw (eq-eqb (a % 2) 0 l) refl in
    omega (arith, ap (λ m. trailing_zeros m a) e, s)

pub trailing_end : (n i a : ℕ) → i < n → (a % 2 ≡ 0 → ⊥) → trailing_zeros (n - i) a ≡ 0
trailing_end n i a h l =
    let e : n - i ≡ suc (n - (i + 1)) = omega arith in
    ap (λ m. trailing_zeros m a) e ∙ (let s : trailing_zeros (suc (n - (i + 1))) a ≡ 0 = rw (ne_eqb (a % 2) 0 l) refl in s)

pub trailing_none : (n i a : ℕ) → n ≤ i → trailing_zeros (n - i) a ≡ 0
trailing_none n i a h = let e : n - i ≡ 0 = omega arith in ap (λ m. trailing_zeros m a) e

pub ones_more : (n i a : ℕ) → i < n → a % 2 + ones (n - (i + 1)) (a / 2) ≡ ones (n - i) a
ones_more n i a h = let e : suc (n - (i + 1)) ≡ n - i = omega arith in ap (λ m. ones m a) e

pub ones_none : (n i a : ℕ) → n ≤ i → ones (n - i) a ≡ 0
ones_none n i a h = let e : n - i ≡ 0 = omega arith in ap (λ m. ones m a) e

widened : (t r p q x y : ℕ) → q ≡ p * 256 → y ≡ r * p + x → (t * 256 + r) * p + x ≡ t * q + y
widened t r p q x y e f = subst (λ z. (t * 256 + r) * p + x ≡ t * z + y) (sym e) (omega arith)

pub reversed_more : (n i a total : ℕ) → i < n → (total * 256 + a % 256) * 256 ^ (n - (i + 1)) + reversed_bytes (n - (i + 1)) (a / 256) ≡ total * 256 ^ (n - i) + reversed_bytes (n - i) a
reversed_more n i a total h =
    let e : n - i ≡ suc (n - (i + 1)) = omega arith in
    let p : 256 ^ (n - i) ≡ 256 ^ (n - (i + 1)) * 256 = ap (λ m. 256 ^ m) e ∙ pow-suc 256 (n - (i + 1)) in
    let s : reversed_bytes (n - i) a ≡ a % 256 * 256 ^ (n - (i + 1)) + reversed_bytes (n - (i + 1)) (a / 256) = ap (λ m. reversed_bytes m a) e in
    widened total (a % 256) (256 ^ (n - (i + 1))) (256 ^ (n - i)) (reversed_bytes (n - (i + 1)) (a / 256)) (reversed_bytes (n - i) a) p s

pub reversed_none : (n i a total : ℕ) → n ≡ i → total * 256 ^ (n - i) + reversed_bytes (n - i) a ≡ total
reversed_none n i a total h = let e : n - i ≡ 0 = omega arith in ap (λ m. total * 256 ^ m + reversed_bytes m a) e ∙ (let z : total * 256 ^ 0 + 0 ≡ total = omega arith in z)

-- one more byte holds a sum
pub byte_more : (i total a : ℕ) → total < 256 ^ i → total * 256 + a % 256 < 256 ^ (i + 1)
byte_more i total a h =
    let e : i + 1 ≡ suc i = omega arith in
    let r : a % 256 < 256 = mod-lt a (lit< tt) in
    omega (arith, ap (λ m. 256 ^ m) e, pow-suc 256 i)

pub bytes_fit : (i : ℕ) → i < 16 → 256 ^ (i + 1) ≤ 2 ^ 128
bytes_fit i h = let e : i + 1 ≤ 16 = omega arith in let p : 256 ^ (i + 1) ≤ 256 ^ 16 = pow-le-pow_right (lit< tt) e in p
