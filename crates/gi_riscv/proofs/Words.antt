-- The words that LUI, ADDI, ADDIW and SLLI make of the parts of a number.
use Rattle.std.proofs.Common.{◌≡◌, ℕ, suc, ◌+◌, ◌-◌, ◌*◌, ◌/◌, ◌%◌, ◌^◌, ◌<◌, ◌≤◌, inl, inr, refl, sym, ap, ◌∙◌, arith, ℤ, pos, negsuc, neg_ℤ, ◌+ℤ◌, ◌*ℤ◌, ◌≤ℤ◌, true}
use Rattle.std.specs.Int.{int_shr}
use Rattle.std.proofs.lemmas.Bool.{cases_lt}
use Rattle.std.proofs.lemmas.Int.{ints}
use Rattle.std.proofs.lemmas.Nat.{pow-add, pow_pos, shr_le}
use Rattle.std.proofs.Math.Nat.{mul-mod_left, mod-eq_of_lt, mod-add-div', add-mul-mod_self_left, mul-sub}
use Rattle.gi_llt.specs.Bits.{signed, unsigned, sign_extended}
use Rattle.gi_meaning.proofs.Numbers.{signed-low, signed-high, unsigned_below, unsigned-neg, mod-step}
use Rattle.gi_riscv.specs.Materialised.{low_part, high_part, fits_32}
use Rattle.gi_riscv.proofs.Parts.{parts}

-- a word that is read with a sign is the bits of its number
pub unsigned_signed : (x word : ℕ) → word < 2 ^ x → unsigned x (signed x word) ≡ word
unsigned_signed x word fits = elim (cases_lt word (2 ^ (x - 1))) [
  | inl h ↦ (ap (unsigned x) (signed-low x word h) ∙ mod-eq_of_lt fits)
  | inr h ↦ (
      let some : 0 < word = omega (arith, pow_pos (x - 1), h) in
      let size : (2 ^ x - word) % 2 ^ x ≡ 2 ^ x - word = mod-eq_of_lt (omega (arith, some, fits)) in
      let bits : unsigned x (neg_ℤ (pos (2 ^ x - word))) ≡ 2 ^ x - 1 - ((2 ^ x - word) % 2 ^ x - 1) = unsigned-neg x (2 ^ x - word) (omega (arith, size, fits)) in
      ap (unsigned x) (signed-high x word h) ∙ omega (arith, bits, size, some, fits)
      )
]

-- ══ The upper 20 bits and the lower 12 ══

upper_at : (z v l q : ℤ) → z ≡ v +ℤ pos 2048 → v ≡ l +ℤ pos 4096 *ℤ q → negsuc 2047 ≤ℤ l → l ≤ℤ pos 2047
    → (4096 * (unsigned 32 z / 4096) + unsigned 32 l) % 2 ^ 32 ≡ unsigned 32 v
upper_at (pos z) (pos v) (pos l) q d e a b = omega (arith, ints)
upper_at (pos z) (pos v) (negsuc l) q d e a b = omega (arith, ints)
upper_at (pos z) (negsuc v) (pos l) q d e a b = omega (arith, ints)
upper_at (pos z) (negsuc v) (negsuc l) q d e a b = omega (arith, ints)
upper_at (negsuc z) (pos v) (pos l) q d e a b = omega (arith, ints)
upper_at (negsuc z) (pos v) (negsuc l) q d e a b = omega (arith, ints)
upper_at (negsuc z) (negsuc v) (pos l) q d e a b = omega (arith, ints)
upper_at (negsuc z) (negsuc v) (negsuc l) q d e a b = omega (arith, ints)

-- the high part's 4096 and the low part are the number, in 32 bits
pub high_and_low : (v : ℤ) → (4096 * high_part v + unsigned 32 (low_part v)) % 2 ^ 32 ≡ unsigned 32 v
high_and_low v = let (q, e, a, b) = parts v in upper_at (v +ℤ pos 2048) v (low_part v) q refl e a b

pub high_below : (v : ℤ) → high_part v < 2 ^ 20
high_below v = omega (arith, unsigned_below 32 (v +ℤ pos 2048))

-- the bits of a number of 32 bits are extended by its sign
pub extended_from_32 : (v : ℤ) → fits_32 v ≡ true → sign_extended 32 64 (unsigned 32 v) ≡ unsigned 64 v
extended_from_32 (pos n) fits =
    let small : n < 2 ^ 31 = grind (arith, ints) in
    let bits : n % 2 ^ 32 % 2 ^ 32 ≡ n = omega arith in
    ap (λ m. unsigned 64 (signed 32 m)) bits ∙ ap (unsigned 64) (signed-low 32 n small)
extended_from_32 (negsuc n) fits =
    let small : n < 2 ^ 31 = grind (arith, ints) in
    let u = 2 ^ 32 - 1 - n % 2 ^ 32 in
    let bits : u % 2 ^ 32 ≡ 2 ^ 32 - suc n = omega arith in
    let size : 2 ^ 32 - (2 ^ 32 - suc n) ≡ suc n = omega arith in
    ap (λ m. unsigned 64 (signed 32 m)) bits
    ∙ ap (unsigned 64) (signed-high 32 (2 ^ 32 - suc n) (omega arith) ∙ ap (λ m. neg_ℤ (pos m)) size)

-- ══ Shifted left again ══

-- below a multiple of a number, the remainder is the greatest
remainder_below : (a p : ℕ) → 0 < p → suc a % p ≡ 0 → a % p + 1 ≡ p
remainder_below a p h e = elim (mod-step a p h) [ inl (n, w) ↦ w | inr (n, l) ↦ absurd (omega (arith, n, e)) ]

-- 2 ^ 64 less a multiple of a power of two is a multiple
complement_even : (rest k : ℕ) → rest < 2 ^ 64 → k < 64 → rest % 2 ^ k ≡ 0 → (2 ^ 64 - rest) % 2 ^ k ≡ 0
complement_even rest k fits below even =
    let m = 2 ^ k in
    let e : 64 - k + k ≡ 64 = omega arith in
    let p : 2 ^ 64 ≡ 2 ^ (64 - k) * m = ap (λ j. 2 ^ j) (sym e) ∙ pow-add 2 (64 - k) k in
    let whole : rest / m * m ≡ rest = omega (arith, mod-add-div' rest m, even) in
    let d : 2 ^ 64 - rest ≡ (2 ^ (64 - k) - rest / m) * m =
    omega (arith, p, whole, mul-sub m (2 ^ (64 - k)) (rest / m)) in
    ap (λ j. j % m) d ∙ mul-mod_left (2 ^ (64 - k) - rest / m) m

negative_back : (rest k : ℕ) → rest < 2 ^ 64 → k < 64 → rest % 2 ^ k ≡ 0
    → (2 ^ 64 - 1 - (2 ^ 64 - rest - 1) / 2 ^ k) * 2 ^ k % 2 ^ 64 ≡ rest
negative_back rest k fits below even =
    let m = 2 ^ k in
    let a = 2 ^ 64 - rest - 1 in
    let some : 0 < m = pow_pos k in
    let size : suc a ≡ 2 ^ 64 - rest = omega arith in
    let r : a % m + 1 ≡ m = remainder_below a m some (ap (λ j. j % m) size ∙ complement_even rest k fits below even) in
    let q : a % m + a / m * m ≡ a = mod-add-div' a m in
    let least : a / m ≤ a = shr_le a k in
    let product : (2 ^ 64 - 1 - a / m) * m ≡ rest + 2 ^ 64 * (m - 1) =
    omega (arith, r, q, least, some, mul-sub m (2 ^ 64 - 1) (a / m)) in
    ap (λ j. j % 2 ^ 64) product ∙ (add-mul-mod_self_left rest (2 ^ 64) (m - 1) ∙ mod-eq_of_lt fits)

-- the zeros that were shifted out come back
pub shifted_back : (rest k : ℕ) → rest < 2 ^ 64 → k < 64 → rest % 2 ^ k ≡ 0 → unsigned 64 (int_shr (signed 64 rest) k) * 2 ^ k % 2 ^ 64 ≡ rest
shifted_back rest k fits below even = elim (cases_lt rest (2 ^ 63)) [
  | inl h ↦ (
      let small : rest / 2 ^ k % 2 ^ 64 ≡ rest / 2 ^ k = mod-eq_of_lt (omega (arith, shr_le rest k)) in
      let whole : rest / 2 ^ k * 2 ^ k ≡ rest = omega (arith, mod-add-div' rest (2 ^ k), even) in
      ap (λ z. unsigned 64 (int_shr z k) * 2 ^ k % 2 ^ 64) (signed-low 64 rest h)
      ∙ (ap (λ m. m * 2 ^ k % 2 ^ 64) small ∙ (ap (λ m. m % 2 ^ 64) whole ∙ mod-eq_of_lt fits))
      )
  | inr h ↦ (
      let a = 2 ^ 64 - rest - 1 in
      let size : 2 ^ 64 - rest ≡ suc a = omega arith in
      let small : a / 2 ^ k % 2 ^ 64 ≡ a / 2 ^ k = mod-eq_of_lt (omega (arith, shr_le a k)) in
      ap (λ z. unsigned 64 (int_shr z k) * 2 ^ k % 2 ^ 64) (signed-high 64 rest h ∙ ap (λ m. neg_ℤ (pos m)) size)
      ∙ (ap (λ m. (2 ^ 64 - 1 - m) * 2 ^ k % 2 ^ 64) small ∙ negative_back rest k fits below even)
      )
]
