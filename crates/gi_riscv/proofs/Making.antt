-- What sequences of steps make of zero.
use Rattle.std.proofs.Common.{◌≡◌, ℕ, zero, suc, ◌+◌, ◌-◌, ◌*◌, ◌/◌, ◌%◌, ◌^◌, ◌<◌, ◌≤◌, ◌⊎◌, inl, inr, refl, sym, ap, ap₂, ◌∙◌, subst, arith, ℤ, pos, negsuc, neg_ℤ, nat_abs, ◌-ℤ◌, ◌≤ℤ◌, true, false, List, [], ◌∷◌, ◌++◌}
use Rattle.std.specs.Ordering.{int_eq}
use Rattle.std.proofs.lemmas.Bool.{lt-ltb, cases_Bool, cases_lt}
use Rattle.std.proofs.lemmas.Int.{ints}
use Rattle.std.proofs.Math.Nat.{mod-eq_of_lt}
use Rattle.gi_llt.specs.Bits.{signed, unsigned, sign_extended}
use Rattle.gi_meaning.specs.Given.{one}
use Rattle.gi_meaning.specs.Machine.{is_immediate}
use Rattle.gi_meaning.proofs.Numbers.{unsigned_below, signed-low, signed-high, nat_abs-neg}
use Rattle.gi_riscv.specs.Materialised.{low_part, high_part, fits_32, unless_zero, upper_and_lower, without_low, zeros_of, next_of, steps_in, materialised}
use Rattle.gi_riscv.specs.Steps.{Make, step_gives}
use Rattle.gi_riscv.specs.declared.constants.Step.{Step}
use Rattle.gi_riscv.specs.declared.constants.Step.TheVariants.{Lui, Addi, Addiw, Slli}
use Rattle.gi_riscv.proofs.Parts.{parts, sum_64}
use Rattle.gi_riscv.proofs.Rounds.{Ends, rest_ends, rounds_left, round_within, next_within, steps_of_immediate, steps_of_32, steps_of_more}
use Rattle.gi_riscv.proofs.Words.{unsigned_signed, high_and_low, high_below, extended_from_32, shifted_back}

-- ══ What a step gives ══

immediate_within : (l : ℤ) → negsuc 2047 ≤ℤ l → l ≤ℤ pos 2047 → is_immediate l ≡ true
immediate_within l a b = grind (arith, ints)

immediate_low : (v : ℤ) → is_immediate (low_part v) ≡ true
immediate_low v = let (q, e, a, b) = parts v in immediate_within (low_part v) a b

lui_gives : (x w number : ℕ) → number < 2 ^ 20 → step_gives x w (Lui number) ≡ one (sign_extended 32 x (4096 * number))
lui_gives x w number h = rw (lt-ltb number (2 ^ 20) h, mod-eq_of_lt h) refl

addi_gives : (x w : ℕ) (v : ℤ) → is_immediate v ≡ true → step_gives x w (Addi v) ≡ one ((w + unsigned x v) % 2 ^ x)
addi_gives x w v h = rw h refl

addiw_gives : (w : ℕ) (v : ℤ) → is_immediate v ≡ true → step_gives 64 w (Addiw v) ≡ one (sign_extended 32 64 ((w % 2 ^ 32 + unsigned 64 v % 2 ^ 32) % 2 ^ 32))
addiw_gives w v h = rw h refl

slli_gives : (w k : ℕ) → k < 64 → step_gives 64 w (Slli k) ≡ one (w * 2 ^ k % 2 ^ 64)
slli_gives w k h =
    let a : k % 2 ^ 64 ≡ k = omega arith in
    let b : k % 64 ≡ k = omega arith in
    rw (lt-ltb k 64 h, a, b) refl

-- ══ Steps behind steps ══

pub make_appended : (x w middle made : ℕ) (a b : List Step) → Make x w a middle → Make x middle b made → Make x w (a ++ b) made
make_appended x w middle made [] b e m = subst (λ v. Make x v b made) e m
make_appended x w middle made (s ∷ a) b (next, g, m) n = (next, g, make_appended x next middle made a b m n)

zero_number : (l : ℤ) → int_eq l (pos 0) ≡ true → l ≡ pos 0
zero_number l h = grind (arith, ints)

-- a step that adds a number, left out where there is nothing to add
make_unless_zero : (x w made : ℕ) (l : ℤ) (step : Step) → (l ≡ pos 0 → made ≡ w) → step_gives x w step ≡ one made → Make x w (unless_zero l step) made
make_unless_zero x w made l step none some = elim (cases_Bool (int_eq l (pos 0))) [
  | inl h ↦ (rw h (none (zero_number l h)))
  | inr h ↦ (rw h (made, some, refl))
]

-- ══ Numbers of 12 and of 32 bits ══

make_immediate : (x : ℕ) (v : ℤ) → is_immediate v ≡ true → Make x 0 (Addi v ∷ []) (unsigned x v)
make_immediate x v h =
    let sum : 0 + unsigned x v ≡ unsigned x v = omega arith in
    (unsigned x v, addi_gives x 0 v h ∙ ap one (ap (λ m. m % 2 ^ x) sum ∙ mod-eq_of_lt (unsigned_below x v)), refl)

make_upper_32 : (v : ℤ) → Make 32 0 (upper_and_lower 32 v) (unsigned 32 v)
make_upper_32 v =
    let h : high_part v < 2 ^ 20 = high_below v in
    let low : 4096 * high_part v % 2 ^ 32 ≡ 4096 * high_part v = mod-eq_of_lt (omega (arith, h)) in
    let same : sign_extended 32 32 (4096 * high_part v) ≡ 4096 * high_part v =
    ap (λ m. unsigned 32 (signed 32 m)) low ∙ unsigned_signed 32 (4096 * high_part v) (omega (arith, h)) in
    let k : (4096 * high_part v + unsigned 32 (low_part v)) % 2 ^ 32 ≡ unsigned 32 v = high_and_low v in (
      4096 * high_part v,
      lui_gives 32 0 (high_part v) h ∙ ap one same,
      make_unless_zero 32 (4096 * high_part v) (unsigned 32 v) (low_part v) (Addi (low_part v))
          (λ e. omega (arith, k, h, ap (unsigned 32) e))
          (addi_gives 32 (4096 * high_part v) (low_part v) (immediate_low v) ∙ ap one k),
    )

-- the low half of the bits
low_half : (v : ℤ) → unsigned 64 v % 2 ^ 32 ≡ unsigned 32 v
low_half (pos n) = omega arith
low_half (negsuc n) = omega arith

make_upper_64 : (v : ℤ) → fits_32 v ≡ true → Make 64 0 (upper_and_lower 64 v) (unsigned 64 v)
make_upper_64 v fits =
    let n = 4096 * high_part v in
    let u = sign_extended 32 64 n in
    let h : high_part v < 2 ^ 20 = high_below v in
    let low : n % 2 ^ 32 ≡ n = mod-eq_of_lt (omega (arith, h)) in
    let back : u % 2 ^ 32 ≡ n = low_half (signed 32 (n % 2 ^ 32)) ∙ (ap (λ m. unsigned 32 (signed 32 m)) low ∙ unsigned_signed 32 n (omega (arith, h))) in
    let k : (n + unsigned 32 (low_part v)) % 2 ^ 32 ≡ unsigned 32 v = high_and_low v in
    let sum : sign_extended 32 64 ((u % 2 ^ 32 + unsigned 64 (low_part v) % 2 ^ 32) % 2 ^ 32) ≡ unsigned 64 v =
    ap (sign_extended 32 64) (ap₂ (λ i j. (i + j) % 2 ^ 32) back (low_half (low_part v)) ∙ k) ∙ extended_from_32 v fits in (
      u,
      lui_gives 64 0 (high_part v) h,
      make_unless_zero 64 u (unsigned 64 v) (low_part v) (Addiw (low_part v))
          (λ e. sym (extended_from_32 v fits) ∙ ap (sign_extended 32 64) (let z : unsigned 32 v ≡ n = omega (arith, k, h, ap (unsigned 32) e) in z))
          (addiw_gives u (low_part v) (immediate_low v) ∙ ap one sum),
    )

-- ══ All numbers ══

-- what is above the zeros, shifted left, and the low part
make_round : (v : ℤ) → nat_abs v ≤ 2 ^ 63 → fits_32 v ≡ false
    → Make 64 (unsigned 64 (next_of v)) (Slli (zeros_of v) ∷ unless_zero (low_part v) (Addi (low_part v))) (unsigned 64 v)
make_round v within wide =
    let ends : Ends (without_low v) (zeros_of v) = rest_ends v within wide in
    let fits : without_low v < 2 ^ 64 = unsigned_below 64 (v -ℤ low_part v) in
    let back : unsigned 64 (next_of v) * 2 ^ zeros_of v % 2 ^ 64 ≡ without_low v = shifted_back (without_low v) (zeros_of v) fits ends.below ends.none_left in
    let sum : (without_low v + unsigned 64 (low_part v)) % 2 ^ 64 ≡ unsigned 64 v = sum_64 v (v -ℤ low_part v) (low_part v) (omega (arith, ints)) in (
      without_low v,
      slli_gives (unsigned 64 (next_of v)) (zeros_of v) ends.below ∙ ap one back,
      make_unless_zero 64 (without_low v) (unsigned 64 v) (low_part v) (Addi (low_part v))
          (λ e. omega (arith, sum, fits, ap (unsigned 64) e))
          (addi_gives 64 (without_low v) (low_part v) (immediate_low v) ∙ ap one sum),
    )

steps_make_32 : (rounds : ℕ) (v : ℤ) → fits_32 v ≡ true → Make 32 0 (steps_in rounds 32 v) (unsigned 32 v)
steps_make_32 rounds v fits = elim (cases_Bool (is_immediate v)) [
  | inl i ↦ subst (λ l. Make 32 0 l (unsigned 32 v)) (sym (steps_of_immediate rounds 32 v i)) (make_immediate 32 v i)
  | inr i ↦ subst (λ l. Make 32 0 l (unsigned 32 v)) (sym (steps_of_32 rounds 32 v i fits)) (make_upper_32 v)
]

-- one more round makes a number if one less makes the next
make_more : (rounds : ℕ) (v : ℤ) → suc rounds ≤ 3 → nat_abs v ≤ 2 ^ (30 + 11 * suc rounds) → nat_abs v ≤ 2 ^ 63 → is_immediate v ≡ false → fits_32 v ≡ false
    → Make 64 0 (steps_in rounds 64 (next_of v)) (unsigned 64 (next_of v)) → Make 64 0 (steps_in (suc rounds) 64 v) (unsigned 64 v)
make_more rounds v few enough within i wide made =
    let less : suc rounds - 1 ≡ rounds = omega arith in
    let steps : steps_in (suc rounds) 64 v ≡ steps_in rounds 64 (next_of v) ++ Slli (zeros_of v) ∷ unless_zero (low_part v) (Addi (low_part v)) =
    steps_of_more (suc rounds) 64 v (omega arith) i wide ∙ ap (λ n. steps_in n 64 (next_of v) ++ Slli (zeros_of v) ∷ unless_zero (low_part v) (Addi (low_part v))) less in
    subst (λ l. Make 64 0 l (unsigned 64 v)) (sym steps)
    (make_appended 64 0 (unsigned 64 (next_of v)) (unsigned 64 v) (steps_in rounds 64 (next_of v)) (Slli (zeros_of v) ∷ unless_zero (low_part v) (Addi (low_part v)))
    made (make_round v within wide))

make_few : (rounds : ℕ) (v : ℤ) → is_immediate v ≡ true ⊎ fits_32 v ≡ true → Make 64 0 (steps_in rounds 64 v) (unsigned 64 v)
make_few rounds v few = elim (cases_Bool (is_immediate v)) [
  | inl i ↦ subst (λ l. Make 64 0 l (unsigned 64 v)) (sym (steps_of_immediate rounds 64 v i)) (make_immediate 64 v i)
  | inr i ↦ elim few [
    | inl j ↦ absurd (cc)
    | inr fits ↦ subst (λ l. Make 64 0 l (unsigned 64 v)) (sym (steps_of_32 rounds 64 v i fits)) (make_upper_64 v fits)
  ]
]

-- a number is immediate, or one of 32 bits, or neither
cases_number : (v : ℤ) → ((is_immediate v ≡ true) ⊎ (fits_32 v ≡ true)) ⊎ ((is_immediate v ≡ false) × (fits_32 v ≡ false))
cases_number v = elim (cases_Bool (is_immediate v)) [
  | inl i ↦ inl (inl i)
  | inr i ↦ elim (cases_Bool (fits_32 v)) [ inl f ↦ inl (inr f) | inr f ↦ inr (i, f) ]
]

steps_make_64 : (rounds : ℕ) (v : ℤ) → rounds ≤ 3 → nat_abs v ≤ 2 ^ (30 + 11 * rounds) → nat_abs v ≤ 2 ^ 63 → Make 64 0 (steps_in rounds 64 v) (unsigned 64 v)
steps_make_64 zero v few enough within = elim (cases_number v) [
  | inl f ↦ make_few zero v f
  | inr (i, wide) ↦ absurd (let n : 0 < zero = rounds_left zero v enough wide in omega arith)
]
steps_make_64 (suc rounds) v few enough within = elim (cases_number v) [
  | inl f ↦ make_few (suc rounds) v f
  | inr (i, wide) ↦ (
      let less : suc rounds - 1 ≡ rounds = omega arith in
      let next : nat_abs (next_of v) ≤ 2 ^ (30 + 11 * rounds) =
      subst (λ n. nat_abs (next_of v) ≤ 2 ^ (30 + 11 * n)) less (round_within (suc rounds) v few enough within wide) in
      let near : nat_abs (next_of v) ≤ (2 ^ 63 + 2048) / 4096 + 1 = next_within v (2 ^ 63) within (omega arith) wide in
      make_more rounds v few enough within i wide (steps_make_64 rounds (next_of v) (omega arith) next (omega (arith, near)))
      )
]

-- ══ Words ══

word_fits_32 : (word : ℕ) → word < 2 ^ 32 → fits_32 (signed 32 word) ≡ true
word_fits_32 word h = elim (cases_lt word (2 ^ 31)) [
  | inl l ↦ (ap fits_32 (signed-low 32 word l) ∙ grind (arith, ints))
  | inr l ↦ (
      let n = 2 ^ 32 - word - 1 in
      let size : 2 ^ 32 - word ≡ suc n = omega arith in
      let small : n < 2 ^ 31 = omega arith in
      let fits : fits_32 (negsuc n) ≡ true = grind (arith, ints) in
      ap fits_32 (signed-high 32 word l ∙ ap (λ m. neg_ℤ (pos m)) size) ∙ fits
      )
]

word_within : (word : ℕ) → word < 2 ^ 64 → nat_abs (signed 64 word) ≤ 2 ^ 63
word_within word h = elim (cases_lt word (2 ^ 63)) [
  | inl l ↦ omega (arith, ap nat_abs (signed-low 64 word l))
  | inr l ↦ omega (arith, ap nat_abs (signed-high 64 word l), nat_abs-neg (2 ^ 64 - word))
]

made_32 : (word : ℕ) → word < 2 ^ 32 → Make 32 0 (materialised 32 word) word
made_32 word h = subst (λ m. Make 32 0 (materialised 32 word) m) (unsigned_signed 32 word h) (steps_make_32 3 (signed 32 word) (word_fits_32 word h))

made_64 : (word : ℕ) → word < 2 ^ 64 → Make 64 0 (materialised 64 word) word
made_64 word h = let within : nat_abs (signed 64 word) ≤ 2 ^ 63 = word_within word h in
    subst (λ m. Make 64 0 (materialised 64 word) m) (unsigned_signed 64 word h) (steps_make_64 3 (signed 64 word) (omega arith) within within)

-- the steps for a word make it
pub word_made : (x word : ℕ) → (x ≡ 32) ⊎ (x ≡ 64) → word < 2 ^ x → Make x 0 (materialised x word) word
word_made x word (inl e) fits = subst (λ y. Make y 0 (materialised y word) word) (sym e) (made_32 word (subst (λ y. word < 2 ^ y) e fits))
word_made x word (inr e) fits = subst (λ y. Make y 0 (materialised y word) word) (sym e) (made_64 word (subst (λ y. word < 2 ^ y) e fits))
