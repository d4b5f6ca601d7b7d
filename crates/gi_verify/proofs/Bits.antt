-- Words, bit by bit.
use Rattle.std.proofs.Common.{◌≡◌, ℕ, zero, suc, ◌-◌, ◌*◌, ◌%◌, ◌^◌, ◌<◌, min, Bool, true, false, not, ◌&&◌, ◌||◌, ◌==◌, refl, sym, ap, ap₂, ◌∙◌, subst, arith, true≢false}
use Rattle.std.specs.Int.{bit_at, bit_not, w64}
use Rattle.std.specs.Int.RustNames.{bit_or}
use Rattle.std.specs.Int.Bits.{bit_and}
use Rattle.std.proofs.lemmas.Bool.{eq-eqb, eqb-true}
use Rattle.std.proofs.lemmas.Nat.{one_shl}
use Rattle.std.proofs.lemmas.Nat.Bits.{bit_at-zero, bit_at-lt, bit_at_and, bit_at_or, bit_at_not, bit_at-pow_same, bit_at-pow_other}
use Rattle.gi_verify.specs.Rounds.{has, IsWordOf}
use Rattle.gi_verify.proofs.Masking.{max_is, min_is}

min_both : (x y : ℕ) → x < 2 → y < 2 → (min x y == 1) ≡ ((x == 1) && (y == 1))
min_both zero zero h g = refl
min_both zero (suc zero) h g = refl
min_both (suc zero) zero h g = refl
min_both (suc zero) (suc zero) h g = refl
min_both (suc (suc x)) y h g = absurd (past x h)
  where
    past : (n : ℕ) → suc (suc n) < 2 → ⊥
    past n h = omega (arith, h)
min_both x (suc (suc y)) h g = absurd (past y g)
  where
    past : (n : ℕ) → suc (suc n) < 2 → ⊥
    past n h = omega (arith, h)

pub one_set : (n : ℕ) → n < 64 → IsWordOf (λ q. n == q) (1 * 2 ^ n % 2 ^ 64)
one_set n within = record { by = λ q h. ap (λ w. has w q) (one_shl n 64 within) ∙ by q (n == q) refl }
  where
    by : (q : ℕ) (t : Bool) → (n == q) ≡ t → (bit_at (2 ^ n) q == 1) ≡ t
    by q true so = ap (λ k. k == 1) (subst (λ i. bit_at (2 ^ n) i ≡ 1) (eqb-true n q so) (bit_at-pow_same n))
    by q false so = ap (λ k. k == 1) (bit_at-pow_other n q (λ e. true≢false (sym (eq-eqb n q (sym e)) ∙ so)))

turned_is : (x : ℕ) → x < 2 → (1 - x == 1) ≡ not (x == 1)
turned_is zero h = refl
turned_is (suc zero) h = refl
turned_is (suc (suc x)) h = absurd (past x h)
  where
    past : (n : ℕ) → suc (suc n) < 2 → ⊥
    past n h = omega (arith, h)

pub others_in : (word turned : ℕ) → ((n : ℕ) → n < 64 → bit_at turned n ≡ 1 - bit_at word n) → IsWordOf (λ n. not (has word n)) turned
others_in word turned is = record { by = λ n h. ap (λ k. k == 1) (is n h) ∙ turned_is (bit_at word n) (bit_at-lt word n) }

pub either_in : (a b : ℕ) → IsWordOf (λ n. has a n || has b n) (bit_or a b)
either_in a b = record { by = λ n h. ap (λ k. k == 1) (bit_at_or a b n) ∙ max_is (bit_at a n) (bit_at b n) (bit_at-lt a n) (bit_at-lt b n) }

pub both_in : (a b : ℕ) → IsWordOf (λ n. has a n && has b n) (bit_and a b)
both_in a b = record { by = λ n h. ap (λ k. k == 1) (bit_at_and a b n) ∙ min_both (bit_at a n) (bit_at b n) (bit_at-lt a n) (bit_at-lt b n) }

pub bits_turned : (bits n : ℕ) → bits < 2 ^ 64 → n < 64 → bit_at (bit_not w64 bits) n ≡ 1 - bit_at bits n
bits_turned bits n small within = bit_at_not w64 bits n small within

pub without_in : (a b turned : ℕ) → ((n : ℕ) → n < 64 → bit_at turned n ≡ 1 - bit_at b n) → IsWordOf (λ n. not (has b n) && has a n) (bit_and turned a)
without_in a b turned is = record {
  by = λ n h.
      ap (λ k. k == 1) (bit_at_and turned a n ∙ ap (λ k. min k (bit_at a n)) (is n h))
      ∙ min_is (bit_at b n) (bit_at a n) (bit_at-lt b n) (bit_at-lt a n);
}

pub none_in : (n : ℕ) → has 0 n ≡ false
none_in n = ap (λ k. k == 1) (bit_at-zero n)

pub all_within : (a b word : ℕ) → IsWordOf (λ n. not (has b n) && has a n) word → word ≡ 0 → (n : ℕ) → n < 64 → has a n ≡ true → has b n ≡ true
all_within a b word are empty n h there = by (has b n) refl
  where
    by : (t : Bool) → has b n ≡ t → has b n ≡ true
    by true so = so
    by false so = absurd (true≢false (sym (sym (none_in n) ∙ ap (λ w. has w n) (sym empty) ∙ are.by n h ∙ ap₂ (λ s t. not s && t) so there)))

ones_turned : (n : ℕ) → n < 64 → bit_at (bit_not w64 0) n ≡ 1
ones_turned n h = bit_at_not w64 0 n (omega arith) h ∙ ap (λ k. 1 - k) (bit_at-zero n)

pub all_in : (n : ℕ) → n < 64 → has 18446744073709551615 n ≡ true
all_in n h = ap (λ k. k == 1) (ones_turned n h)

pub none_shared : (a b word : ℕ) → IsWordOf (λ n. has a n && has b n) word → word ≡ 0 → (n : ℕ) → n < 64 → has a n ≡ true → has b n ≡ true → ⊥
none_shared a b word are empty n h one other = true≢false (sym (sym (none_in n) ∙ ap (λ w. has w n) (sym empty) ∙ are.by n h ∙ ap₂ (λ s t. s && t) one other))
