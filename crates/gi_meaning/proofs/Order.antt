-- The order of values that are read with a sign.
use Rattle.std.proofs.Common.{◌≡◌, ℕ, zero, suc, ◌-◌, ◌^◌, ◌<◌, inl, inr, refl, sym, ◌∙◌, arith, true, false, not, nat_le, nat_lt, ℤ, pos, negsuc, neg_ℤ}
use Rattle.std.specs.Prelude.{int_lt, int_le}
use Rattle.std.proofs.lemmas.Bool.{leb-true, leb-false, cases_Bool}
use Rattle.std.proofs.lemmas.Bool.Decides.{nat_tests}
use Rattle.gi_llt.specs.Bits.{signed}
use Rattle.gi_meaning.proofs.Numbers.{signed-low, signed-high}

at_most_at : (x y : ℤ) → not (int_lt y x) ≡ int_le x y
at_most_at (pos a) (pos b) = grind (arith, nat_tests)
at_most_at (pos a) (negsuc b) = refl
at_most_at (negsuc a) (pos b) = refl
at_most_at (negsuc a) (negsuc b) = grind (arith, nat_tests)

pub at_most_is : (n a b : ℕ) → int_le (signed n a) (signed n b) ≡ not (int_lt (signed n b) (signed n a))
at_most_is n a b = sym (at_most_at (signed n a) (signed n b))

neg_less_pos : (m k : ℕ) → 0 < m → int_lt (neg_ℤ (pos m)) (pos k) ≡ true
neg_less_pos zero k h = absurd (omega arith)
neg_less_pos (suc m) k h = refl

pos_less_neg : (m k : ℕ) → 0 < k → int_lt (pos m) (neg_ℤ (pos k)) ≡ false
pos_less_neg m zero h = absurd (omega arith)
pos_less_neg m (suc k) h = refl

neg_less_neg : (m k : ℕ) → 0 < m → 0 < k → int_lt (neg_ℤ (pos m)) (neg_ℤ (pos k)) ≡ nat_lt k m
neg_less_neg zero k h l = absurd (omega arith)
neg_less_neg (suc m) zero h l = absurd (omega arith)
neg_less_neg (suc m) (suc k) h l = grind (arith, nat_tests)

pub less_high_low : (n a b : ℕ) → nat_le (2 ^ (n - 1)) a ≡ true → nat_le (2 ^ (n - 1)) b ≡ false → a < 2 ^ n → int_lt (signed n a) (signed n b) ≡ true
less_high_low n a b h l f =
    rw (signed-high n a (leb-true (2 ^ (n - 1)) a h), signed-low n b (leb-false (2 ^ (n - 1)) b l)) (neg_less_pos (2 ^ n - a) b (omega arith))

pub less_low_high : (n a b : ℕ) → nat_le (2 ^ (n - 1)) a ≡ false → nat_le (2 ^ (n - 1)) b ≡ true → b < 2 ^ n → int_lt (signed n a) (signed n b) ≡ false
less_low_high n a b h l f =
    rw (signed-low n a (leb-false (2 ^ (n - 1)) a h), signed-high n b (leb-true (2 ^ (n - 1)) b l)) (pos_less_neg a (2 ^ n - b) (omega arith))

less_from : (p a b : ℕ) → a < p → b < p → nat_lt (p - b) (p - a) ≡ nat_lt a b
less_from p a b h l = grind (arith, nat_tests)

pub less_alike : (n a b : ℕ) → nat_le (2 ^ (n - 1)) a ≡ nat_le (2 ^ (n - 1)) b → a < 2 ^ n → b < 2 ^ n → int_lt (signed n a) (signed n b) ≡ nat_lt a b
less_alike n a b h f g = elim (cases_Bool (nat_le (2 ^ (n - 1)) a)) [
  | inl t ↦ (rw (signed-high n a (leb-true (2 ^ (n - 1)) a t), signed-high n b (leb-true (2 ^ (n - 1)) b (sym h ∙ t)))
      (neg_less_neg (2 ^ n - a) (2 ^ n - b) (omega arith) (omega arith) ∙ less_from (2 ^ n) a b f g))
  | inr t ↦ (rw (signed-low n a (leb-false (2 ^ (n - 1)) a t), signed-low n b (leb-false (2 ^ (n - 1)) b (sym h ∙ t))) refl)
]
