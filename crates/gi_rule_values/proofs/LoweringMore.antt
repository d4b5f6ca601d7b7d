-- More rules of the legaliser that make an operation of others are sound.
use Rattle.std.proofs.lemmas.Nat.{mod_below, mod-mul-add, mul-add-lt, pow-add, pow_pos, shl-shr}
use Rattle.std.proofs.Common.{suc, ◌≡◌, ◌⊎◌, ⊎_elim, inl, inr, ℕ, pos, negsuc, ◌-ℤ◌, ◌+◌, ◌-◌, ◌%◌, ◌^◌, ◌<◌, ◌≤◌, ◌==◌, nat_lt, nat_le, Bool, true, false, cond, ◌||◌, refl, sym, ap, ◌∙◌, subst, arith, lit<, ◌*◌, ◌/◌, ap₂}
use Rattle.std.proofs.Math.Nat.{mod-eq_of_lt, pow-le-pow_right, div-add-mod', mul_comm, mul-le-mul_right}
use Rattle.std.proofs.lemmas.Bool.{cases_lt}
use Rattle.std.proofs.lemmas.Bool.Decides.{nat_tests}
use Rattle.std.proofs.lemmas.Int.{ints}
use Rattle.gi_llt.specs.Bits.{unsigned, wrapped, sign_extended}
use Rattle.gi_meaning.specs.Generic.{bit_of, difference_of, holds, leading_zeros, trailing_zeros, arithmetic_shift_of}
use Rattle.gi_meaning.proofs.Counting.{leading_zeros_le, trailing_zeros_le}
use Rattle.gi_meaning.proofs.Numbers.{unsigned_below}
use Rattle.gi_mir.specs.declared.operand.Flags.{Flags}
use Rattle.gi_mir.specs.declared.operand.Pred.TheVariants.{Sgt, Slt, Ugt, Ult}
use Rattle.gi_mir.specs.declared.opcode.Opcode.TheVariants as op
use Rattle.gi_rule_values.specs.Lowering.{lower_better, lower_rotate, lower_uaddo, lower_usube, lower_usubo, lower_zero_undef, lower_sext_inreg}
use Rattle.gi_rule_values.specs.Running.{IsSoundRewrite}
use Rattle.gi_rule_values.proofs.Lowering.{either_bit, once}
use Rattle.gi_rule_values.proofs.Numbers.{below_power, unless, extended_high, extended_low}

-- ══ Sums and differences with one bit ══

carries : (p a b : ℕ) → a < p → b < p → nat_le p (a + b + 0) ≡ nat_lt ((a + b) % p) a
carries p a b a_fits b_fits = ⊎_elim (λ sum. grind (arith, nat_tests, sum)) (λ sum. grind (arith, nat_tests, sum)) (once (a + b) p (omega (arith, a_fits, b_fits)))

pub lower_uaddo_sound : (x : ℕ) (flags : Flags) (n : ℕ) → IsSoundRewrite x (lower_uaddo flags n)
lower_uaddo_sound x flags n = record {
  by = λ names world is_world a a_fits b b_fits.
      let none : a + b + 0 ≡ a + b = omega arith in
      (refl, (refl, (ap (wrapped n) none, ap bit_of (carries (2 ^ n) a b a_fits b_fits))));
}

pub lower_usubo_sound : (x : ℕ) (flags : Flags) (n : ℕ) → IsSoundRewrite x (lower_usubo flags n)
lower_usubo_sound x flags n = record {
  by = λ names world is_world a a_fits b b_fits.
      let none : b + 0 ≡ b = omega arith in
      (refl, (refl, (ap (difference_of n a) none, ap (λ c. bit_of (nat_lt a c)) none)));
}

-- a difference of numbers of so many bits
pub differs : (n a b : ℕ) → a < 2 ^ n → b ≤ 2 ^ n → ((a < b) × (difference_of n a b ≡ a + 2 ^ n - b)) ⊎ ((b ≤ a) × (difference_of n a b ≡ a - b))
differs n a b a_fits b_fits = ⊎_elim
    (λ (less : a < b).
    let is : pos a -ℤ pos b ≡ negsuc (b - a - 1) = omega (arith, ints, less) in
    let small : (b - a - 1) % 2 ^ n ≡ b - a - 1 = mod-eq_of_lt (omega (arith, b_fits, less)) in
    inl (less, ap (unsigned n) is ∙ omega (arith, small, less, b_fits)))
    (λ (most : b ≤ a).
    let is : pos a -ℤ pos b ≡ pos (a - b) = omega (arith, ints, most) in
    inr (most, ap (unsigned n) is ∙ mod-eq_of_lt (omega (arith, a_fits))))
    (cases_lt a b)

-- what two differences make is what one makes
record AreBorrowed (n a b c t d : ℕ) : Type 0 where
  value : difference_of n a (b + c) ≡ d
  borrow : nat_lt a (b + c) ≡ (nat_lt a b || nat_lt t c)

borrowed : (n a b c t d : ℕ) → 1 ≤ n → a < 2 ^ n → b < 2 ^ n → c < 2 → t ≡ difference_of n a b → d ≡ difference_of n t c → AreBorrowed n a b c t d
borrowed n a b c t d some a_fits b_fits c_fits t_is d_is =
    let two : 2 ^ 1 ≤ 2 ^ n = pow-le-pow_right (lit< tt) some in
    let t_fits : t < 2 ^ n = subst (λ (u : ℕ). u < 2 ^ n) (sym t_is) (unsigned_below n (pos a -ℤ pos b)) in
    let first = differs n a b a_fits (omega (arith, b_fits)) in
    let second = differs n t c t_fits (omega (arith, c_fits, two)) in
    let whole = differs n a (b + c) a_fits (omega (arith, b_fits, c_fits)) in
    record {
      value = ⊎_elim
          (λ f. ⊎_elim (λ s. ⊎_elim (λ w. omega (arith, f, s, w, t_is, d_is, c_fits)) (λ w. omega (arith, f, s, w, t_is, d_is, c_fits)) whole) (λ s. ⊎_elim (λ w. omega (arith, f, s, w, t_is, d_is, c_fits)) (λ w. omega (arith, f, s, w, t_is, d_is, c_fits)) whole) second)
          (λ f. ⊎_elim (λ s. ⊎_elim (λ w. omega (arith, f, s, w, t_is, d_is, c_fits)) (λ w. omega (arith, f, s, w, t_is, d_is, c_fits)) whole) (λ s. ⊎_elim (λ w. omega (arith, f, s, w, t_is, d_is, c_fits)) (λ w. omega (arith, f, s, w, t_is, d_is, c_fits)) whole) second)
          first;
      borrow = ⊎_elim (λ f. grind (arith, nat_tests, f, t_is)) (λ f. grind (arith, nat_tests, f, t_is)) first;
    }

pub lower_usube_sound : (x : ℕ) (flags : Flags) (n : ℕ) → 1 ≤ n → IsSoundRewrite x (lower_usube flags n)
lower_usube_sound x flags n some = record {
  by = λ names world is_world a a_fits b b_fits c c_fits.
      let t : ℕ = difference_of n a b in
      let made : AreBorrowed n a b c t (difference_of n t c) = borrowed n a b c t (difference_of n t c) some a_fits b_fits c_fits refl refl in
      (refl, (refl, (made.value, ap bit_of made.borrow ∙ sym (either_bit (nat_lt a b) (nat_lt t c)))));
}

-- ══ Choices ══

taken : (t : Bool) (a b : ℕ) → cond t a b ≡ cond (bit_of t == 0) b a
taken true a b = refl
taken false a b = refl

pub lower_smin_sound : (x : ℕ) (flags : Flags) (n : ℕ) → IsSoundRewrite x (lower_better op.GenericSignedMinimum Slt flags x n)
lower_smin_sound x flags n = record { by = λ names world is_world a a_fits b b_fits. (refl, taken (holds Slt n a b) a b) }

pub lower_smax_sound : (x : ℕ) (flags : Flags) (n : ℕ) → IsSoundRewrite x (lower_better op.GenericSignedMaximum Sgt flags x n)
lower_smax_sound x flags n = record { by = λ names world is_world a a_fits b b_fits. (refl, taken (holds Sgt n a b) a b) }

pub lower_umin_sound : (x : ℕ) (flags : Flags) (n : ℕ) → IsSoundRewrite x (lower_better op.GenericUnsignedMinimum Ult flags x n)
lower_umin_sound x flags n = record { by = λ names world is_world a a_fits b b_fits. (refl, taken (holds Ult n a b) a b) }

pub lower_umax_sound : (x : ℕ) (flags : Flags) (n : ℕ) → IsSoundRewrite x (lower_better op.GenericUnsignedMaximum Ugt flags x n)
lower_umax_sound x flags n = record { by = λ names world is_world a a_fits b b_fits. (refl, taken (holds Ugt n a b) a b) }

-- ══ Operations that another is more than ══

pub lower_rotl_sound : (x : ℕ) (flags : Flags) (n : ℕ) → IsSoundRewrite x (lower_rotate op.GenericRotateLeft op.GenericFunnelShiftLeft flags n)
lower_rotl_sound x flags n = record { by = λ names world is_world a a_fits k k_fits. (refl, refl) }

pub lower_rotr_sound : (x : ℕ) (flags : Flags) (n : ℕ) → IsSoundRewrite x (lower_rotate op.GenericRotateRight op.GenericFunnelShiftRight flags n)
lower_rotr_sound x flags n = record { by = λ names world is_world a a_fits k k_fits. (refl, refl) }

pub lower_ctlz_zero_undef_sound : (x : ℕ) (flags : Flags) (n : ℕ) → IsSoundRewrite x (lower_zero_undef op.GenericCountLeadingZerosNotOfZero op.GenericCountLeadingZeros flags n)
lower_ctlz_zero_undef_sound x flags n = record {
  by = λ names world is_world a a_fits. (refl, unless (a == 0) n (leading_zeros n a) (leading_zeros n a) (omega (arith, leading_zeros_le n a, below_power n)) refl);
}

pub lower_cttz_zero_undef_sound : (x : ℕ) (flags : Flags) (n : ℕ) → IsSoundRewrite x (lower_zero_undef op.GenericCountTrailingZerosNotOfZero op.GenericCountTrailingZeros flags n)
lower_cttz_zero_undef_sound x flags n = record {
  by = λ names world is_world a a_fits. (refl, unless (a == 0) n (trailing_zeros n a) (trailing_zeros n a) (omega (arith, trailing_zeros_le n a, below_power n)) refl);
}

-- ══ Signs ══

-- the low bits, shifted to the left end
shifted_up : (k j a : ℕ) → wrapped (k + j) (a * 2 ^ j) ≡ a % 2 ^ k * 2 ^ j
shifted_up k j a =
    let whole : 2 ^ (k + j) ≡ 2 ^ k * 2 ^ j = pow-add 2 k j in
    let fits : a % 2 ^ k * 2 ^ j + 0 < 2 ^ j * 2 ^ k = mul-add-lt (a % 2 ^ k) (2 ^ j) 0 (2 ^ k) (mod_below a (2 ^ k) (pow_pos k)) (pow_pos j) in
    ap (λ p. a * 2 ^ j % p) whole ∙ ap (λ u. u % (2 ^ k * 2 ^ j)) (apart (a / 2 ^ k) (a % 2 ^ k) (2 ^ k) (2 ^ j) (div-add-mod' a (2 ^ k)))
    ∙ mod-mul-add (a / 2 ^ k) (2 ^ k * 2 ^ j) (a % 2 ^ k * 2 ^ j) (omega (arith, fits, mul_comm (2 ^ j) (2 ^ k)))
  where
    apart : (q r p s : ℕ) → q * p + r ≡ a → a * s ≡ q * (p * s) + r * s
    apart q r p s is = subst (λ (u : ℕ). u * s ≡ q * (p * s) + r * s) is (omega arith)

-- less than a whole by the same, before a shift and behind it
scaled : (p k r j : ℕ) → r ≤ k → k ≤ p → p * j - (k * j - r * j) ≡ (p - (k - r)) * j
scaled p k r j least within =
    let k_is : k ≡ r + (k - r) = omega (arith, least) in
    let p_is : p ≡ k - r + (p - (k - r)) = omega (arith, least, within) in
    let below : k * j ≡ r * j + (k - r) * j = ap (λ u. u * j) k_is ∙ spread r (k - r) in
    let above : p * j ≡ (k - r) * j + (p - (k - r)) * j = ap (λ u. u * j) p_is ∙ spread (k - r) (p - (k - r)) in
    omega (arith, below, above)
  where
    spread : (u v : ℕ) → (u + v) * j ≡ u * j + v * j
    spread u v = omega arith

shifted_back : (k j r : ℕ) → 1 ≤ k → r < 2 ^ k → arithmetic_shift_of (k + j) (r * 2 ^ j) j ≡ sign_extended k (k + j) r
shifted_back k j r some fits =
    let x : ℕ = k + j in
    let whole : 2 ^ x ≡ 2 ^ k * 2 ^ j = pow-add 2 k j in
    let top : k - 1 + j ≡ x - 1 = omega (arith, some) in
    let half : 2 ^ (x - 1) ≡ 2 ^ (k - 1) * 2 ^ j = ap (λ e. 2 ^ e) (sym top) ∙ pow-add 2 (k - 1) j in
    let wide : 2 ^ (x + j) ≡ 2 ^ x * 2 ^ j = pow-add 2 x j in
    let more : 2 ^ k ≤ 2 ^ x = pow-le-pow_right (lit< tt) (omega arith) in
    let t_fits : r * 2 ^ j < 2 ^ x = subst (λ (p : ℕ). r * 2 ^ j < p) (sym whole) (grown r (2 ^ k) fits) in
    ⊎_elim
    (λ (low : r < 2 ^ (k - 1)).
    let t_low : r * 2 ^ j < 2 ^ (x - 1) = subst (λ (p : ℕ). r * 2 ^ j < p) (sym half) (grown r (2 ^ (k - 1)) low) in
    ap (λ u. wrapped x (u / 2 ^ j)) (extended_low x (x + j) (r * 2 ^ j) (omega arith) t_low t_fits) ∙ ap (wrapped x) (shl-shr r j) ∙ mod-eq_of_lt (omega (arith, fits, more))
    ∙ sym (extended_low k x r (omega arith) low fits))
    (λ (high : 2 ^ (k - 1) ≤ r).
    let t_high : 2 ^ (x - 1) ≤ r * 2 ^ j = subst (λ (p : ℕ). p ≤ r * 2 ^ j) (sym half) (mul-le-mul_right (2 ^ j) high) in
    let parts : 2 ^ (x + j) - (2 ^ x - r * 2 ^ j) ≡ (2 ^ x - (2 ^ k - r)) * 2 ^ j =
    ap₂ (λ u v. u - (v - r * 2 ^ j)) wide whole ∙ scaled (2 ^ x) (2 ^ k) r (2 ^ j) (omega (arith, fits)) more in
    ap (λ u. wrapped x (u / 2 ^ j)) (extended_high x (x + j) (r * 2 ^ j) (omega arith) t_high t_fits ∙ parts) ∙ ap (wrapped x) (shl-shr (2 ^ x - (2 ^ k - r)) j)
    ∙ mod-eq_of_lt (omega (arith, fits, more)) ∙ sym (extended_high k x r (omega arith) high fits))
    (cases_lt r (2 ^ (k - 1)))
  where
    grown : (u p : ℕ) → u < p → u * 2 ^ j < p * 2 ^ j
    grown u p less = let there : 0 < 2 ^ j = pow_pos j in let most : suc u * 2 ^ j ≤ p * 2 ^ j = mul-le-mul_right (2 ^ j) less in omega (arith, most, there)

pub lower_sext_inreg_sound : (x : ℕ) (flags : Flags) (k : ℕ) → 1 ≤ k → k ≤ x → IsSoundRewrite x (lower_sext_inreg flags x k)
lower_sext_inreg_sound x flags k some within = record {
  by = λ names world is_world a a_fits.
      let below : nat_le x (x - k) ≡ false = grind (arith, some, within) in
      let parts : k + (x - k) ≡ x = omega (arith, within) in
      let is : sign_extended k x (wrapped k a) ≡ arithmetic_shift_of x (wrapped x (a * 2 ^ (x - k))) (x - k) =
      subst (λ (n : ℕ). sign_extended k n (wrapped k a) ≡ arithmetic_shift_of n (wrapped n (a * 2 ^ (x - k))) (x - k)) parts
      (sym (ap (λ t. arithmetic_shift_of (k + (x - k)) t (x - k)) (shifted_up k (x - k) a) ∙ shifted_back k (x - k) (a % 2 ^ k) some (mod_below a (2 ^ k) (pow_pos k)))) in
      rw below (rw below (refl, is));
}
