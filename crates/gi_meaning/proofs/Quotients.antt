-- Quotients and remainders of numbers by their signs and sizes.
use Rattle.std.proofs.Common.{◌≡◌, ℕ, zero, suc, ◌-◌, ◌/◌, ◌%◌, ◌^◌, ◌<◌, inl, inr, refl, ◌∙◌, ap, ap₂, arith, Bool, true, false, nat_le, pos, neg_ℤ, nat_abs}
use Rattle.std.specs.Prelude.{int_div, int_rem}
use Rattle.std.proofs.lemmas.Bool.{cases_lt}
use Rattle.std.proofs.Math.Nat.{zero-div, zero-mod, div-zero}
use Rattle.gi_llt.specs.Bits.{signed}
use Rattle.gi_meaning.specs.Plain.{with_sign, differ}
use Rattle.gi_meaning.proofs.Numbers.{signed_is, signed-low, signed-high, nat_abs-neg}

quotient : (b c : Bool) (m k : ℕ) → int_div (with_sign b m) (with_sign c k) ≡ with_sign (differ b c) (m / k)
quotient false false m k = refl
quotient false true m zero = rw (div-zero m) refl
quotient false true m (suc k) = refl
quotient true false zero k = rw (zero-div k) refl
quotient true false (suc m) k = refl
quotient true true zero zero = refl
quotient true true zero (suc k) = rw (zero-div (suc k)) refl
quotient true true (suc m) zero = rw (div-zero (suc m)) refl
quotient true true (suc m) (suc k) = refl

remainder : (b c : Bool) (m k : ℕ) → int_rem (with_sign b m) (with_sign c k) ≡ with_sign b (m % k)
remainder false false m k = refl
remainder false true m k = ap (λ d. pos (m % d)) (nat_abs-neg k)
remainder true false zero k = rw (zero-mod k) refl
remainder true false (suc m) k = refl
remainder true true zero k = rw (nat_abs-neg k) (rw (zero-mod k) refl)
remainder true true (suc m) k = ap (λ d. neg_ℤ (pos (suc m % d))) (nat_abs-neg k)

pub size_positive : (n b : ℕ) → 0 < b → b < 2 ^ n → 0 < nat_abs (signed n b)
size_positive n b h l = elim (cases_lt b (2 ^ (n - 1))) [
  | inl low ↦ (rw (signed-low n b low) h)
  | inr high ↦ (rw (signed-high n b high) (rw (nat_abs-neg (2 ^ n - b)) (omega arith)))
]

pub signed_quotient_is : (n a b : ℕ) → int_div (signed n a) (signed n b) ≡ with_sign (differ (nat_le (2 ^ (n - 1)) a) (nat_le (2 ^ (n - 1)) b)) (nat_abs (signed n a) / nat_abs (signed n b))
signed_quotient_is n a b = ap₂ int_div (signed_is n a) (signed_is n b) ∙ quotient (nat_le (2 ^ (n - 1)) a) (nat_le (2 ^ (n - 1)) b) (nat_abs (signed n a)) (nat_abs (signed n b))

pub signed_remainder_is : (n a b : ℕ) → int_rem (signed n a) (signed n b) ≡ with_sign (nat_le (2 ^ (n - 1)) a) (nat_abs (signed n a) % nat_abs (signed n b))
signed_remainder_is n a b = ap₂ int_rem (signed_is n a) (signed_is n b) ∙ remainder (nat_le (2 ^ (n - 1)) a) (nat_le (2 ^ (n - 1)) b) (nat_abs (signed n a)) (nat_abs (signed n b))
