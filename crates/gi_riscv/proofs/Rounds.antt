-- What a round leaves: the number above the zeros of the rest.
use Rattle.std.proofs.Common.{◌≡◌, ℕ, zero, suc, ◌+◌, ◌-◌, ◌*◌, ◌/◌, ◌%◌, ◌^◌, ◌<◌, ◌≤◌, inl, inr, refl, sym, ap, ap₂, ◌∙◌, arith, ℤ, pos, negsuc, nat_abs, ◌-ℤ◌, ◌≤ℤ◌, lit<, w64, FitsSigned, to_z, of_z, true, false, List, [], ◌∷◌, ◌++◌}
use Rattle.std.specs.Int.{int_shr, trailing_zeros, bit_at}
use Rattle.std.specs.Int.Bits.{shifted_even}
use Rattle.std.specs.Int.Signed.{mag, mag_shr}
use Rattle.std.proofs.lemmas.Bool.{cases_lt}
use Rattle.std.proofs.lemmas.Int.{ints, to_z-of_z}
use Rattle.std.proofs.lemmas.List.{append_assoc}
use Rattle.std.proofs.lemmas.Nat.{le-div, pow-add, mod-pow-add, shl-shr}
use Rattle.std.proofs.lemmas.Nat.Bits.{bit_at-trailing_zeros}
use Rattle.std.proofs.Math.Nat.{mul_assoc, mul-le-mul_left, div-mul-le_self, pow-le-pow_right}
use Rattle.gi_llt.specs.Bits.{signed}
use Rattle.gi_meaning.proofs.Numbers.{unsigned_below}
use Rattle.gi_riscv.specs.Materialised.{low_part, high_part, lower, without_low, zeros_of, next_of, fits_32, upper_and_lower, unless_zero, steps_in}
use Rattle.gi_meaning.specs.Machine.{is_immediate}
use Rattle.gi_riscv.specs.declared.constants.Step.{Step}
use Rattle.gi_riscv.specs.declared.constants.Step.TheVariants.{Lui, Addi, Slli}
use Rattle.gi_riscv.proofs.Parts.{parts, multiple_ends, no_bits, back_within, nat_abs-difference}

-- with no bit below, nothing is left
no_bits_below : (n k : ℕ) → ((i : ℕ) → i < k → bit_at n i ≡ 0) → n % 2 ^ k ≡ 0
no_bits_below n zero h = omega arith
no_bits_below n (suc k) h =
    let b : n / 2 ^ k % 2 ≡ 0 = h k (omega arith) in
    let e : n % 2 ^ (1 + k) ≡ (n / 2 ^ k % 2 ^ 1) * 2 ^ k + n % 2 ^ k = mod-pow-add n 1 k in
    let l : n % 2 ^ k ≡ 0 = no_bits_below n k (λ i p. h i (omega arith)) in
    let m : (n / 2 ^ k % 2 ^ 1) * 2 ^ k ≡ 0 * 2 ^ k = ap (λ a. a * 2 ^ k) b in
    let s : 1 + k ≡ suc k = omega arith in
    ap (λ j. n % 2 ^ j) (sym s) ∙ omega (arith, e, l, m)

-- a multiple of 4096 has no bit below the twelfth
bit_not_below : (n t : ℕ) → n % 4096 ≡ 0 → bit_at n t ≡ 1 → 12 ≤ t
bit_not_below n t e b = elim (cases_lt t 12) [
  | inl h ↦ absurd (
      let k = 11 - t in
      let s : suc k + t ≡ 12 = omega arith in
      let p : 4096 ≡ 2 ^ suc k * 2 ^ t = ap (λ j. 2 ^ j) (sym s) ∙ pow-add 2 (suc k) t in
      let w : n ≡ n / 4096 * 4096 = omega arith in
      let f : n ≡ n / 4096 * 2 ^ suc k * 2 ^ t = w ∙ ap (λ m. n / 4096 * m) p ∙ sym (mul_assoc (n / 4096) (2 ^ suc k) (2 ^ t)) in
      let g : n / 2 ^ t ≡ n / 4096 * 2 ^ suc k = ap (λ m. m / 2 ^ t) f ∙ shl-shr (n / 4096 * 2 ^ suc k) t in
      let z : n / 2 ^ t % 2 ≡ 0 = ap (λ m. m % 2) g ∙ shifted_even (n / 4096) k in
      omega (arith, z, b)
      )
  | inr h ↦ h
]

-- the zeros that a number of 64 bits ends with
pub record Ends (n zeros : ℕ) : Type 0 where
  pub below : zeros < 64
  pub none_left : n % 2 ^ zeros ≡ 0
  pub at_least : n % 4096 ≡ 0 → 12 ≤ zeros

pub ends : (n : ℕ) → 0 < n → n < 2 ^ 64 → Ends n (trailing_zeros w64 n)
ends n some fits = let (b, o, z) = bit_at-trailing_zeros w64 n some fits in
    record { below = b; none_left = no_bits_below n (trailing_zeros w64 n) z; at_least = λ e. bit_not_below n (trailing_zeros w64 n) e o }

-- a number of more than 32 bits has a rest
rest_some : (v : ℤ) → nat_abs v ≤ 2 ^ 63 → fits_32 v ≡ false → 0 < without_low v
rest_some v within wide = elim (cases_lt 0 (without_low v)) [
  | inl h ↦ h
  | inr h ↦ absurd (
      let (q, e, a, b) = parts v in
      let s : nat_abs (v -ℤ low_part v) ≤ nat_abs v + 2048 = nat_abs-difference v (low_part v) a b in
      let z : v -ℤ low_part v ≡ pos 0 = no_bits (v -ℤ low_part v) (omega arith) (omega arith) in
      let l : negsuc 2047 ≤ℤ v = omega (arith, ints) in
      let u : v ≤ℤ pos 2047 = omega (arith, ints) in
      grind (arith, ints)
      )
]

pub rest_ends : (v : ℤ) → nat_abs v ≤ 2 ^ 63 → fits_32 v ≡ false → Ends (without_low v) (zeros_of v)
rest_ends v within wide = ends (without_low v) (rest_some v within wide) (unsigned_below 64 (v -ℤ low_part v))

pub twelve_zeros : (v : ℤ) → nat_abs v ≤ 2 ^ 63 → fits_32 v ≡ false → 12 ≤ zeros_of v
twelve_zeros v within wide = let (q, e, a, b) = parts v in
    (rest_ends v within wide).at_least (multiple_ends (v -ℤ low_part v) q (omega (arith, ints)))

fewer : (a k : ℕ) → 12 ≤ k → a / 2 ^ k ≤ a / 2 ^ 12
fewer a k h =
    let p : 2 ^ 12 ≤ 2 ^ k = pow-le-pow_right (lit< tt) h in
    let m : a / 2 ^ k * 2 ^ 12 ≤ a / 2 ^ k * 2 ^ k = mul-le-mul_left (a / 2 ^ k) p in
    le-div (a / 2 ^ k) a (2 ^ 12) (lit< tt) (omega (arith, m, div-mul-le_self a (2 ^ k)))

shift_within : (y : ℤ) (k : ℕ) → 12 ≤ k → nat_abs (int_shr y k) ≤ nat_abs y / 4096 + 1
shift_within (pos a) k h = omega (arith, fewer a k h)
shift_within (negsuc a) k h = omega (arith, fewer a k h)

-- a round takes bits off
pub next_within : (v : ℤ) (m : ℕ) → nat_abs v ≤ m → m ≤ 2 ^ 63 → fits_32 v ≡ false → nat_abs (next_of v) ≤ (m + 2048) / 4096 + 1
next_within v m h l wide =
    let (q, e, a, b) = parts v in
    let within : nat_abs v ≤ 2 ^ 63 = omega arith in
    let d : nat_abs (v -ℤ low_part v) ≤ nat_abs v + 2048 = nat_abs-difference v (low_part v) a b in
    let r : nat_abs (signed 64 (without_low v)) ≤ m + 2048 = back_within (v -ℤ low_part v) (m + 2048) (omega arith) (omega arith) in
    let s : nat_abs (next_of v) ≤ nat_abs (signed 64 (without_low v)) / 4096 + 1 = shift_within (signed 64 (without_low v)) (zeros_of v) (twelve_zeros v within wide) in
    omega arith

-- a number of more than 32 bits has a round left
pub rounds_left : (rounds : ℕ) (v : ℤ) → nat_abs v ≤ 2 ^ (30 + 11 * rounds) → fits_32 v ≡ false → 0 < rounds
rounds_left zero (pos n) h wide = absurd (let s : n ≤ 2 ^ 30 = h in grind (arith, ints))
rounds_left zero (negsuc n) h wide = absurd (let s : n + 1 ≤ 2 ^ 30 = omega (arith, h) in grind (arith, ints))
rounds_left (suc rounds) v h wide = omega arith

-- with one round less there is one for each 11 bits that are left
pub round_within : (rounds : ℕ) (v : ℤ) → rounds ≤ 3 → nat_abs v ≤ 2 ^ (30 + 11 * rounds) → nat_abs v ≤ 2 ^ 63 → fits_32 v ≡ false
    → nat_abs (next_of v) ≤ 2 ^ (30 + 11 * (rounds - 1))
round_within rounds v few h within wide =
    let k = 30 + 11 * (rounds - 1) in
    let left : 0 < rounds = rounds_left rounds v h wide in
    let e : 30 + 11 * rounds ≡ 11 + k = omega arith in
    let p : 2 ^ (30 + 11 * rounds) ≡ 2 ^ 11 * 2 ^ k = ap (λ j. 2 ^ j) e ∙ pow-add 2 11 k in
    let k_least : 30 ≤ k = omega arith in
    let k_most : k ≤ 52 = omega arith in
    let least : 2 ^ 30 ≤ 2 ^ k = pow-le-pow_right (lit< tt) k_least in
    let most : 2 ^ k ≤ 2 ^ 52 = pow-le-pow_right (lit< tt) k_most in
    let n : nat_abs (next_of v) ≤ (2048 * 2 ^ k + 2048) / 4096 + 1 = next_within v (2048 * 2 ^ k) (omega (arith, h, p)) (omega (arith, most)) wide in
    omega (arith, n, least)

-- ══ The steps, case by case ══

pub steps_of_immediate : (rounds x : ℕ) (v : ℤ) → is_immediate v ≡ true → steps_in rounds x v ≡ Addi v ∷ []
steps_of_immediate zero x v i = rw i refl
steps_of_immediate (suc rounds) x v i = rw i refl

pub steps_of_32 : (rounds x : ℕ) (v : ℤ) → is_immediate v ≡ false → fits_32 v ≡ true → steps_in rounds x v ≡ upper_and_lower x v
steps_of_32 zero x v i f = rw i refl
steps_of_32 (suc rounds) x v i f = rw (i, f) refl

pub steps_of_more : (rounds x : ℕ) (v : ℤ) → 0 < rounds → is_immediate v ≡ false → fits_32 v ≡ false
    → steps_in rounds x v ≡ steps_in (rounds - 1) x (next_of v) ++ Slli (zeros_of v) ∷ unless_zero (low_part v) (Addi (low_part v))
steps_of_more zero x v p i f = absurd (omega arith)
steps_of_more (suc rounds) x v p i f =
    let e : suc rounds - 1 ≡ rounds = omega arith in rw (i, f, e) refl

-- ══ Steps behind steps ══

pub upper_joined : (s s1 s2 : List Step) (x h : ℕ) (v low : ℤ) (t : Step)
    → h ≡ high_part v → low ≡ low_part v → t ≡ lower x low → s1 ≡ s ++ Lui h ∷ [] → s2 ≡ s1 ++ unless_zero low t
    → s2 ≡ s ++ upper_and_lower x v
upper_joined s s1 s2 x h v low t is_high is_low is_lower e f =
    let u : s1 ≡ s ++ Lui (high_part v) ∷ [] = e ∙ ap (λ k. s ++ Lui k ∷ []) is_high in
    let l : s2 ≡ s1 ++ unless_zero (low_part v) (lower x (low_part v)) = f ∙ ap₂ (λ k d. s1 ++ unless_zero k d) is_low (is_lower ∙ ap (lower x) is_low) in
    l ∙ (ap (λ m. m ++ unless_zero (low_part v) (lower x (low_part v))) u
    ∙ append_assoc s (Lui (high_part v) ∷ []) (unless_zero (low_part v) (lower x (low_part v))))

pub round_joined : (s s1 s2 s3 : List Step) (rounds x amount : ℕ) (v low next : ℤ)
    → 0 < rounds → is_immediate v ≡ false → fits_32 v ≡ false
    → amount ≡ zeros_of v → low ≡ low_part v → next ≡ next_of v
    → s1 ≡ s ++ steps_in (rounds - 1) x next → s2 ≡ s1 ++ Slli amount ∷ [] → s3 ≡ s2 ++ unless_zero low (Addi low)
    → s3 ≡ s ++ steps_in rounds x v
round_joined s s1 s2 s3 rounds x amount v low next p i f is_zeros is_low is_next e1 e2 e3 =
    let n = steps_in (rounds - 1) x (next_of v) in
    let l = unless_zero (low_part v) (Addi (low_part v)) in
    let f1 : s1 ≡ s ++ n = e1 ∙ ap (λ k. s ++ steps_in (rounds - 1) x k) is_next in
    let f2 : s2 ≡ s1 ++ Slli (zeros_of v) ∷ [] = e2 ∙ ap (λ k. s1 ++ Slli k ∷ []) is_zeros in
    let f3 : s3 ≡ s2 ++ l = e3 ∙ ap (λ k. s2 ++ unless_zero k (Addi k)) is_low in
    f3 ∙ (ap (λ m. m ++ l) (f2 ∙ ap (λ m. m ++ Slli (zeros_of v) ∷ []) f1)
    ∙ (append_assoc (s ++ n) (Slli (zeros_of v) ∷ []) l ∙ (append_assoc s n (Slli (zeros_of v) ∷ l)
    ∙ ap (λ m. s ++ m) (sym (steps_of_more rounds x v p i f)))))

-- the next number, as a program that shifts a word of 64 bits has it
pub passed_next : (rest : ℤ) (amount : ℕ) (v : ℤ) → FitsSigned w64 rest → rest ≡ signed 64 (without_low v) → amount ≡ zeros_of v
    → to_z w64 (of_z w64 (int_shr (to_z w64 (of_z w64 rest)) amount)) ≡ next_of v
passed_next rest amount v fits is_rest is_zeros =
    let same : to_z w64 (of_z w64 rest) ≡ rest = to_z-of_z w64 rest fits in
    let less : mag (int_shr rest amount) ≤ mag rest = mag_shr rest (2 ^ amount) in
    let shifted_fits : FitsSigned w64 (int_shr rest amount) = record { sfits = omega (arith, fits.sfits, less) } in
    ap (λ z. to_z w64 (of_z w64 (int_shr z amount))) same
    ∙ (to_z-of_z w64 (int_shr rest amount) shifted_fits ∙ ap₂ int_shr is_rest is_zeros)
