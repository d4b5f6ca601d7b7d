-- Rules of the legaliser that widen are sound.
use Rattle.std.proofs.Common.{◌≡◌, ⊎_elim, ℕ, ◌+◌, ◌-◌, ◌/◌, ◌^◌, ◌<◌, ◌≤◌, ◌==◌, nat_lt, nat_le, true, false, refl, sym, ap, ◌∙◌, arith}
use Rattle.std.specs.Prelude.{int_div}
use Rattle.std.proofs.Math.Nat.{div-le_self, mod-eq_of_lt}
use Rattle.std.proofs.lemmas.Bool.{cases_eq, cases_lt, eq-eqb}
use Rattle.std.proofs.lemmas.Bool.Decides.{nat_tests}
use Rattle.std.proofs.lemmas.Nat.{mod_below, pow_pos}
use Rattle.gi_llt.specs.Bits.{sign_extended, signed, unsigned, wrapped}
use Rattle.gi_mir.specs.declared.operand.Flags.{Flags}
use Rattle.gi_meaning.specs.Generic.{overflows_division}
use Rattle.gi_rule_values.specs.Widening.{widen_add, widen_constant, widen_lshr, widen_sdiv}
use Rattle.gi_rule_values.specs.Running.{IsSoundRewrite}
use Rattle.gi_rule_values.proofs.Numbers.{bits_back, extended_high, extended_low, free_given, halves, low_of_low, low_sum, signed_extended, unless, unless_undefined, unsigned_low}

pub widen_add_sound : (x : ℕ) (flags : Flags) (n w : ℕ) → n < w → IsSoundRewrite x (widen_add flags n w)
widen_add_sound x flags n w wider = record {
  by = λ names world is_world a a_fits b b_fits.
      let less : nat_lt n w ≡ true = grind arith in
      rw less (λ p p_fits p_low. rw less (λ q q_fits q_low. (
        refl,
        unless _ n (wrapped n (a + b)) (wrapped n (wrapped w (p + q))) (mod_below (wrapped w (p + q)) (2 ^ n) (pow_pos n))
            (sym (low_of_low n w (p + q) (omega (arith, wider)) ∙ low_sum n p q a b p_low q_low)),
      )));
}

pub widen_constant_sound : (x : ℕ) (flags : Flags) (n w value : ℕ) → 1 ≤ n → n < w → value < 2 ^ n → IsSoundRewrite x (widen_constant flags n w value)
widen_constant_sound x flags n w value some wider fits = record {
  by = λ names world is_world. (refl, sym (unsigned_low w n (signed n (wrapped n value)) (omega (arith, wider)) ∙ ap (λ v. unsigned n (signed n v)) (mod-eq_of_lt fits) ∙ bits_back n value some fits));
}

pub widen_lshr_sound : (x : ℕ) (flags : Flags) (n w : ℕ) → n < w → IsSoundRewrite x (widen_lshr flags n w)
widen_lshr_sound x flags n w wider = record {
  by = λ names world is_world a a_fits k k_fits. ⊎_elim
      (λ (small : k < n).
      let within : nat_le n k ≡ false = grind arith in
      let below : nat_le w k ≡ false = grind arith in
      let fits : a / 2 ^ k < 2 ^ n = omega (arith, a_fits, div-le_self a (2 ^ k)) in
      rw (within, below) (refl, unless _ n (a / 2 ^ k) (wrapped n (a / 2 ^ k)) (mod_below (a / 2 ^ k) (2 ^ n) (pow_pos n)) (sym (mod-eq_of_lt fits))))
      (λ (great : n ≤ k).
      let beyond : nat_le n k ≡ true = grind arith in
      ⊎_elim
      (λ (small : k < w).
      let below : nat_le w k ≡ false = grind arith in
      rw (beyond, below) (refl, free_given n (wrapped n (a / 2 ^ k)) (mod_below (a / 2 ^ k) (2 ^ n) (pow_pos n))))
      (λ (most : w ≤ k).
      let above : nat_le w k ≡ true = grind arith in
      rw (beyond, above) (λ v v_fits v_low. (refl, free_given n (wrapped n v) (mod_below v (2 ^ n) (pow_pos n)))))
      (cases_lt k w))
      (cases_lt k n);
}

-- zero stays zero as its sign is extended
pub zero_extended : (n w b : ℕ) → 1 ≤ n → n < w → b < 2 ^ n → (sign_extended n w b == 0) ≡ (b == 0)
zero_extended n w b some wider fits = ⊎_elim
    (λ (low : b < 2 ^ (n - 1)). ap (λ k. k == 0) (extended_low n w b (omega (arith, wider)) low fits))
    (λ (high : 2 ^ (n - 1) ≤ b).
    let (two, more, half) = halves n w some (omega (arith, wider)) in
    let positive : 0 < 2 ^ (n - 1) = pow_pos (n - 1) in
    ap (λ k. k == 0) (extended_high n w b (omega (arith, wider)) high fits) ∙ grind (arith, nat_tests))
    (cases_lt b (2 ^ (n - 1)))

-- and nothing becomes the least number of more bits
pub not_least : (n w a : ℕ) → 1 ≤ n → n < w → a < 2 ^ n → (sign_extended n w a == 2 ^ (w - 1)) ≡ false
not_least n w a some wider fits = ⊎_elim
    (λ (low : a < 2 ^ (n - 1)).
    let (two, more, half) = halves n w some (omega (arith, wider)) in
    ap (λ k. k == 2 ^ (w - 1)) (extended_low n w a (omega (arith, wider)) low fits) ∙ grind (arith, nat_tests))
    (λ (high : 2 ^ (n - 1) ≤ a).
    let (two, more, half) = halves n (w - 1) some (omega (arith, wider)) in
    let (_, whole, _) = halves n w some (omega (arith, wider)) in
    let positive : 0 < 2 ^ (n - 1) = pow_pos (n - 1) in
    ap (λ k. k == 2 ^ (w - 1)) (extended_high n w a (omega (arith, wider)) high fits) ∙ grind (arith, nat_tests))
    (cases_lt a (2 ^ (n - 1)))

pub widen_sdiv_sound : (x : ℕ) (flags : Flags) (n w : ℕ) → 1 ≤ n → n < w → IsSoundRewrite x (widen_sdiv flags n w)
widen_sdiv_sound x flags n w some wider = record {
  by = λ names world is_world a a_fits b b_fits.
      let within : n ≤ w = omega (arith, wider) in
      let first = signed_extended n w a some within a_fits in
      let second = signed_extended n w b some within b_fits in
      let none = zero_extended n w b some wider b_fits in
      let inside = not_least n w a some wider a_fits in
      ⊎_elim
      (λ (zero : b ≡ 0).
      let is : (b == 0) ≡ true = eq-eqb b 0 zero in
      rw (first, second, none, inside, is) tt)
      (λ (other : b ≡ 0 → ⊥).
      let is : (b == 0) ≡ false = grind (arith, nat_tests, other) in
      rw (first, second, none, inside, is) (
        refl,
        unless_undefined (overflows_division n a b) _ n (unsigned n (int_div (signed n a) (signed n b))) (wrapped n (unsigned w (int_div (signed n a) (signed n b))))
            (mod_below (unsigned w (int_div (signed n a) (signed n b))) (2 ^ n) (pow_pos n)) (sym (unsigned_low w n (int_div (signed n a) (signed n b)) within)),
      ))
      (cases_eq b 0);
}
