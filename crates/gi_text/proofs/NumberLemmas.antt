-- The value of digits grows with each digit.
use Rattle.std.proofs.Common.{◌≡◌, ℕ, suc, ◌+◌, ◌*◌, ◌<◌, ◌≤◌, ◌^◌, Bool, true, false, List, [], ◌∷◌, Some, None, refl, sym, ap, ◌∙◌, subst, arith, get_or, length, drop, drop-cons}
use Rattle.std.proofs.lemmas.List.{drop_all}
use Rattle.std.specs.Prelude.{if◌then◌else◌, nat_lt}
use Rattle.std.proofs.Math.Nat.{mul-le-mul_left}
use Rattle.std.proofs.lemmas.Bool.Decides.{nat_tests}
use Rattle.gi_text.specs.Numbers.{bounded, digit_value, value_after}

pub value-le : (base before : ℕ) (digits : List ℕ) → 0 < base → before ≤ value_after base before digits
value-le base before [] some = omega arith
value-le base before (digit ∷ digits) some =
    let grown : before * 1 ≤ before * base = mul-le-mul_left before some in
    omega (arith, grown, value-le base (before * base + digit_value digit) digits some)

contrary : (m n : ℕ) → m ≤ n → nat_lt m (2 ^ 128) ≡ false → nat_lt n (2 ^ 128) ≡ true → ⊥
contrary m n less past within = grind (arith, nat_tests)

-- what is above a size that isn't held isn't held
pub bounded-none : (m n : ℕ) → m ≤ n → None ≡ bounded m → None ≡ bounded n
bounded-none m n less none = chosen (nat_lt m (2 ^ 128)) refl (nat_lt n (2 ^ 128)) refl none
  where
    chosen : (first : Bool) → nat_lt m (2 ^ 128) ≡ first → (second : Bool) → nat_lt n (2 ^ 128) ≡ second → None ≡ (if first then Some m else None) → None ≡ (if second then Some n else None)
    chosen true is_first second is_second none = cc
    chosen false is_first true is_second none = absurd (contrary m n less is_first is_second)
    chosen false is_first false is_second none = refl

pub value-none : (base size : ℕ) (digit : ℕ) (digits : List ℕ) → 0 < base → None ≡ bounded (size * base + digit_value digit) → None ≡ bounded (value_after base size (digit ∷ digits))
value-none base size digit digits some none =
    bounded-none (size * base + digit_value digit) (value_after base (size * base + digit_value digit) digits) (value-le base (size * base + digit_value digit) digits some) none

held : (n : ℕ) → n < 2 ^ 128 → nat_lt n (2 ^ 128) ≡ true
held n within = grind (arith, nat_tests)

pub bounded-held : (n m : ℕ) → n < 2 ^ 128 → n ≡ m → Some n ≡ bounded m
bounded-held n m within same = subst (λ k. Some n ≡ bounded k) same (rw (held n within) refl)

-- the steps of the loop over digits
pub none_at : (base size : ℕ) (digits : List ℕ) (i whole : ℕ) → 0 < base → i < length digits → None ≡ bounded (size * base + digit_value (get_or digits i 0))
    → value_after base size (drop i digits) ≡ whole → None ≡ bounded whole
none_at base size digits i whole some within none value =
    subst (λ n. None ≡ bounded n) value
    (subst (λ ds. None ≡ bounded (value_after base size ds)) (sym (drop-cons digits i 0 within)) (value-none base size (get_or digits i 0) (drop (suc i) digits) some none))

pub held_at_end : (base size : ℕ) (digits : List ℕ) (i whole : ℕ) → length digits ≤ i → size < 2 ^ 128 → value_after base size (drop i digits) ≡ whole → Some size ≡ bounded whole
held_at_end base size digits i whole past within value =
    bounded-held size whole within (ap (value_after base size) (sym (drop_all i digits past)) ∙ value)
