-- A number with a sign, its low 12 bits, and what is above them.
use Rattle.std.proofs.Common.{◌≡◌, ℕ, ◌+◌, ◌-◌, ◌/◌, ◌%◌, ◌^◌, ◌<◌, ◌≤◌, inl, inr, refl, ap, ◌∙◌, arith, ℤ, pos, negsuc, nat_abs, ◌+ℤ◌, ◌-ℤ◌, ◌*ℤ◌, ◌≤ℤ◌}
use Rattle.std.proofs.lemmas.Bool.{cases_lt}
use Rattle.std.proofs.lemmas.Int.{ints}
use Rattle.gi_llt.specs.Bits.{signed, unsigned}
use Rattle.gi_meaning.proofs.Numbers.{nat_abs-neg, signed-low, signed-high, unsigned_below}
use Rattle.gi_riscv.specs.Materialised.{low_part}

low_part_low : (v : ℤ) → unsigned 12 v < 2048 → low_part v ≡ pos (unsigned 12 v)
low_part_low v h = signed-low 12 (unsigned 12 v) h

low_part_high : (v : ℤ) → 2048 ≤ unsigned 12 v → low_part v ≡ pos (unsigned 12 v) -ℤ pos 4096
low_part_high v h = signed-high 12 (unsigned 12 v) h ∙ omega (arith, ints, unsigned_below 12 v)

-- a number is its low 12 bits and a multiple of 4096
pub whole : (v : ℤ) → (q : ℤ) × (v ≡ pos (unsigned 12 v) +ℤ pos 4096 *ℤ q)
whole (pos n) = (pos (n / 4096), omega (arith, ints))
whole (negsuc n) = (negsuc (n / 4096), omega (arith, ints))

-- the sum of the bits of two numbers
pub sum_64 : (z a b : ℤ) → z ≡ a +ℤ b → (unsigned 64 a + unsigned 64 b) % 2 ^ 64 ≡ unsigned 64 z
sum_64 (pos z) (pos a) (pos b) e = omega (arith, ints)
sum_64 (pos z) (pos a) (negsuc b) e = omega (arith, ints)
sum_64 (pos z) (negsuc a) (pos b) e = omega (arith, ints)
sum_64 (pos z) (negsuc a) (negsuc b) e = omega (arith, ints)
sum_64 (negsuc z) (pos a) (pos b) e = omega (arith, ints)
sum_64 (negsuc z) (pos a) (negsuc b) e = omega (arith, ints)
sum_64 (negsuc z) (negsuc a) (pos b) e = omega (arith, ints)
sum_64 (negsuc z) (negsuc a) (negsuc b) e = omega (arith, ints)

-- a number is its low part and a multiple of 4096
pub parts : (v : ℤ) → (q : ℤ) × (v ≡ low_part v +ℤ pos 4096 *ℤ q) × (negsuc 2047 ≤ℤ low_part v) × (low_part v ≤ℤ pos 2047)
parts v = let (q, e) = whole v in elim (cases_lt (unsigned 12 v) 2048) [
  | inl h ↦ (let l : low_part v ≡ pos (unsigned 12 v) = low_part_low v h in (q, omega (arith, ints), omega (arith, ints), omega (arith, ints)))
  | inr h ↦ (let l : low_part v ≡ pos (unsigned 12 v) -ℤ pos 4096 = low_part_high v h in
      let b : unsigned 12 v < 4096 = unsigned_below 12 v in (q +ℤ pos 1, omega (arith, ints), omega (arith, ints), omega (arith, ints)))
]

-- the bits of a multiple of 4096 end with 12 zeros
pub multiple_ends : (z q : ℤ) → z ≡ pos 4096 *ℤ q → unsigned 64 z % 4096 ≡ 0
multiple_ends (pos n) (pos q) e = omega (arith, ints)
multiple_ends (pos n) (negsuc q) e = omega (arith, ints)
multiple_ends (negsuc n) (pos q) e = omega (arith, ints)
multiple_ends (negsuc n) (negsuc q) e = omega (arith, ints)

-- bits read with a sign are no further from 0 than a number that they stand for
pub back_within : (z : ℤ) (m : ℕ) → nat_abs z ≤ m → m < 2 ^ 64 → nat_abs (signed 64 (unsigned 64 z)) ≤ m
back_within (pos n) m h l = let small : n % 2 ^ 64 ≡ n = omega arith in elim (cases_lt (n % 2 ^ 64) (2 ^ 63)) [
  | inl b ↦ (let s : nat_abs (signed 64 (n % 2 ^ 64)) ≡ n % 2 ^ 64 = ap nat_abs (signed-low 64 (n % 2 ^ 64) b) in omega arith)
  | inr b ↦ (let s : nat_abs (signed 64 (n % 2 ^ 64)) ≡ 2 ^ 64 - n % 2 ^ 64 = ap nat_abs (signed-high 64 (n % 2 ^ 64) b) ∙ nat_abs-neg (2 ^ 64 - n % 2 ^ 64) in omega arith)
]
back_within (negsuc n) m h l =
    let u = 2 ^ 64 - 1 - n % 2 ^ 64 in
    let w : n < m = omega arith in
    let small : n % 2 ^ 64 ≡ n = omega arith in elim (cases_lt u (2 ^ 63)) [
      | inl b ↦ (let s : nat_abs (signed 64 u) ≡ u = ap nat_abs (signed-low 64 u b) in omega arith)
      | inr b ↦ (let s : nat_abs (signed 64 u) ≡ 2 ^ 64 - u = ap nat_abs (signed-high 64 u b) ∙ nat_abs-neg (2 ^ 64 - u) in omega arith)
    ]

-- only 0 has no bit
pub no_bits : (z : ℤ) → nat_abs z < 2 ^ 64 → unsigned 64 z ≡ 0 → z ≡ pos 0
no_bits (pos n) h e = omega (arith, ints)
no_bits (negsuc n) h e = absurd (let w : n + 1 < 2 ^ 64 = omega arith in omega arith)

size_of_difference : (z v l : ℤ) → z ≡ v -ℤ l → negsuc 2047 ≤ℤ l → l ≤ℤ pos 2047 → nat_abs z ≤ nat_abs v + 2048
size_of_difference (pos z) (pos v) l e a b = omega (arith, ints)
size_of_difference (pos z) (negsuc v) l e a b = omega (arith, ints)
size_of_difference (negsuc z) (pos v) l e a b = omega (arith, ints)
size_of_difference (negsuc z) (negsuc v) l e a b = omega (arith, ints)

-- without its low part a number is hardly further from 0
pub nat_abs-difference : (v l : ℤ) → negsuc 2047 ≤ℤ l → l ≤ℤ pos 2047 → nat_abs (v -ℤ l) ≤ nat_abs v + 2048
nat_abs-difference v l a b = size_of_difference (v -ℤ l) v l refl a b
