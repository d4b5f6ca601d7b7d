-- Rules of the combiners are sound.
use Rattle.std.proofs.Common.{◌≡◌, ℕ, ℤ, suc, pos, negsuc, ◌/◌, ◌≤◌, ◌==◌, nat_lt, cond, lit<, ◌+◌, ◌-◌, ◌*◌, ◌^◌, ◌<◌, nat_le, Bool, true, false, [], ◌∷◌, refl, sym, ap, ◌∙◌, arith}
use Rattle.std.specs.Prelude.{bit_or, bit_xor, int_div, neg_ℤ}
use Rattle.std.specs.Int.Bits.{or_zero_r, xor_self, xor_zero_r}
use Rattle.std.proofs.Math.Nat.{div-le_self, div-one, mod-eq_of_lt, mul-one, pow-le-pow_right}
use Rattle.std.proofs.lemmas.Bool.Decides.{nat_tests}
use Rattle.std.proofs.lemmas.Nat.{and_mask, mod_below, pow_pos}
use Rattle.gi_meaning.proofs.Numbers.{signed-low}
use Rattle.gi_refine.proofs.Basics.{not_below_itself}
use Rattle.gi_refine.proofs.ValueRules.{difference_self, sum_with_zero}
use Rattle.gi_meaning.specs.Given.{in_low_bits, one}
use Rattle.gi_mir.specs.declared.opcode.Opcode.TheVariants as op
use Rattle.gi_llt.specs.Signs.{negated}
use Rattle.gi_llt.specs.Bits.{sign_extended, signed, unsigned, wrapped}
use Rattle.gi_meaning.specs.Generic.{arithmetic_shift_of, difference_of}
use Rattle.gi_mir.specs.declared.operand.Flags.{Flags}
use Rattle.gi_rule_values.specs.Combining.{cut_extension, mul_to_shl, pointer_identity, right_identity, same_to_zero, sub_to_add, udiv_to_lshr, urem_to_mask}
use Rattle.gi_rule_values.specs.Running.{IfGiven, IsSoundRewrite}
use Rattle.gi_rule_values.proofs.Numbers.{bits_back, difference_is, same, unless, unless_undefined, unsigned_low}

pub mul_to_shl_sound : (x : ℕ) (flags more : Flags) (n k : ℕ) → k < n → IsSoundRewrite x (mul_to_shl flags more n k)
mul_to_shl_sound x flags more n k small = record {
  by = λ names w world a a_fits b b_fits is.
      let within : nat_le n k ≡ false = grind arith in
      rw within (refl, unless _ n (wrapped n (a * b)) (wrapped n (a * 2 ^ k)) (mod_below (a * 2 ^ k) (2 ^ n) (pow_pos n)) (ap (λ c. wrapped n (a * c)) is));
}

pub sub_to_add_sound : (x : ℕ) (flags more : Flags) (n c : ℕ) → c < 2 ^ n → IsSoundRewrite x (sub_to_add flags more n c)
sub_to_add_sound x flags more n c fits = record {
  by = λ names w world a a_fits b b_fits is.
      (refl, unless _ n (difference_of n a b) (wrapped n (a + negated n c)) (mod_below (a + negated n c) (2 ^ n) (pow_pos n)) (ap (difference_of n a) is ∙ sym (difference_is n a c a_fits fits)));
}

power_some : (k : ℕ) → (2 ^ k == 0) ≡ false
power_some k = let positive : 0 < 2 ^ k = pow_pos k in grind (arith, nat_tests)

pub udiv_to_lshr_sound : (x : ℕ) (flags more : Flags) (n k : ℕ) → k < n → IsSoundRewrite x (udiv_to_lshr flags more n k)
udiv_to_lshr_sound x flags more n k small = record {
  by = λ names w world a a_fits b b_fits is.
      let within : nat_le n k ≡ false = grind arith in
      let some : (2 ^ k == 0) ≡ false = power_some k in
      rw (within, is, some) (refl, unless _ n (a / 2 ^ k) (a / 2 ^ k) (omega (arith, a_fits, div-le_self a (2 ^ k))) refl);
}

pub urem_to_mask_sound : (x : ℕ) (flags more : Flags) (n k : ℕ) → IsSoundRewrite x (urem_to_mask flags more n k)
urem_to_mask_sound x flags more n k = record {
  by = λ names w world a a_fits b b_fits is.
      let some : (2 ^ k == 0) ≡ false = power_some k in
      rw (is, some) (refl, sym (and_mask a k));
}

-- ══ A value with nothing ══

pub add_zero_sound : (x : ℕ) (flags more : Flags) (n : ℕ) → IsSoundRewrite x (right_identity op.GenericAdd flags more n 0)
add_zero_sound x flags more n = record {
  by = λ names w world a a_fits b b_fits is. rw (not_below_itself n, same n) (refl, unless _ n (wrapped n (a + b)) a a_fits (sum_with_zero n a b a_fits is));
}

-- less nothing is with nothing
less_nothing : (n a b : ℕ) → a < 2 ^ n → b ≡ 0 → difference_of n a b ≡ a
less_nothing n a b fits is = ap (difference_of n a) is ∙ sym (difference_is n a 0 fits (pow_pos n)) ∙ sum_with_zero n a 0 fits refl

pub sub_zero_sound : (x : ℕ) (flags more : Flags) (n : ℕ) → IsSoundRewrite x (right_identity op.GenericSubtract flags more n 0)
sub_zero_sound x flags more n = record {
  by = λ names w world a a_fits b b_fits is. rw (not_below_itself n, same n) (refl, unless _ n (difference_of n a b) a a_fits (less_nothing n a b a_fits is));
}

pub or_zero_sound : (x : ℕ) (flags more : Flags) (n : ℕ) → IsSoundRewrite x (right_identity op.GenericOr flags more n 0)
or_zero_sound x flags more n = record {
  by = λ names w world a a_fits b b_fits is. rw (not_below_itself n, same n) (refl, unless _ n (bit_or a b) a a_fits (ap (bit_or a) is ∙ or_zero_r a));
}

pub xor_zero_sound : (x : ℕ) (flags more : Flags) (n : ℕ) → IsSoundRewrite x (right_identity op.GenericXor flags more n 0)
xor_zero_sound x flags more n = record {
  by = λ names w world a a_fits b b_fits is. rw (not_below_itself n, same n) (refl, ap (bit_xor a) is ∙ xor_zero_r a);
}

pub shl_zero_sound : (x : ℕ) (flags more : Flags) (n : ℕ) → 1 ≤ n → IsSoundRewrite x (right_identity op.GenericShiftLeft flags more n 0)
shl_zero_sound x flags more n some = record {
  by = λ names w world a a_fits b b_fits is.
      let within : nat_le n 0 ≡ false = grind arith in
      rw (not_below_itself n, same n, is, within) (refl, unless _ n (wrapped n (a * 2 ^ 0)) a a_fits (ap (wrapped n) (mul-one a) ∙ mod-eq_of_lt a_fits));
}

pub lshr_zero_sound : (x : ℕ) (flags more : Flags) (n : ℕ) → 1 ≤ n → IsSoundRewrite x (right_identity op.GenericLogicalShiftRight flags more n 0)
lshr_zero_sound x flags more n some = record {
  by = λ names w world a a_fits b b_fits is.
      let within : nat_le n 0 ≡ false = grind arith in
      rw (not_below_itself n, same n, is, within) (refl, unless _ n (a / 2 ^ 0) a a_fits (div-one a));
}

-- extended to its own width, and shifted by nothing
signed_still : (n a : ℕ) → 1 ≤ n → a < 2 ^ n → arithmetic_shift_of n a 0 ≡ a
signed_still n a some fits =
    let same_width : n + 0 ≡ n = omega arith in
    ap (λ m. wrapped n (sign_extended n m a / 2 ^ 0)) same_width ∙ ap (wrapped n) (div-one (sign_extended n n a))
    ∙ ap (λ u. wrapped n (unsigned n (signed n u))) (mod-eq_of_lt fits) ∙ ap (wrapped n) (bits_back n a some fits) ∙ mod-eq_of_lt fits

pub ashr_zero_sound : (x : ℕ) (flags more : Flags) (n : ℕ) → 1 ≤ n → IsSoundRewrite x (right_identity op.GenericArithmeticShiftRight flags more n 0)
ashr_zero_sound x flags more n some = record {
  by = λ names w world a a_fits b b_fits is.
      let within : nat_le n 0 ≡ false = grind arith in
      rw (not_below_itself n, same n, is, within) (refl, unless _ n (arithmetic_shift_of n a 0) a a_fits (signed_still n a some a_fits));
}

pub pointer_identity_sound : (x : ℕ) (flags more : Flags) → IsSoundRewrite x (pointer_identity flags more x)
pointer_identity_sound x flags more = record {
  by = λ names w world a a_fits b b_fits is. rw (not_below_itself x, same x) (refl, sum_with_zero x a b a_fits is);
}

pub mul_one_sound : (x : ℕ) (flags more : Flags) (n : ℕ) → IsSoundRewrite x (right_identity op.GenericMultiply flags more n 1)
mul_one_sound x flags more n = record {
  by = λ names w world a a_fits b b_fits is.
      rw (not_below_itself n, same n) (refl, unless _ n (wrapped n (a * b)) a a_fits (ap (λ c. wrapped n (a * c)) is ∙ ap (wrapped n) (mul-one a) ∙ mod-eq_of_lt a_fits));
}

pub udiv_one_sound : (x : ℕ) (flags more : Flags) (n : ℕ) → IsSoundRewrite x (right_identity op.GenericUnsignedDivide flags more n 1)
udiv_one_sound x flags more n = record {
  by = λ names w world a a_fits b b_fits is. rw (not_below_itself n, same n, is) (refl, unless _ n (a / 1) a a_fits (div-one a));
}

divided_by_one : (z : ℤ) → int_div z (pos 1) ≡ z
divided_by_one (pos m) = ap pos (div-one m)
divided_by_one (negsuc m) = ap (λ k. neg_ℤ (pos k)) (div-one (suc m))

pub sdiv_one_sound : (x : ℕ) (flags more : Flags) (n : ℕ) → 2 ≤ n → IsSoundRewrite x (right_identity op.GenericSignedDivide flags more n 1)
sdiv_one_sound x flags more n two = record {
  by = λ names w world a a_fits b b_fits is.
      let least : 1 ≤ n - 1 = omega (arith, two) in
      let half : 2 ^ 1 ≤ 2 ^ (n - 1) = pow-le-pow_right (lit< tt) least in
      let one_is : signed n 1 ≡ pos 1 = signed-low n 1 (omega (arith, half)) in
      let quotient : int_div (signed n a) (signed n 1) ≡ signed n a = ap (int_div (signed n a)) one_is ∙ divided_by_one (signed n a) in
      rw (not_below_itself n, same n, is)
      (refl, unless_undefined _ _ n (unsigned n (int_div (signed n a) (signed n 1))) a a_fits (ap (unsigned n) quotient ∙ bits_back n a (omega (arith, two)) a_fits));
}

-- ══ A value with itself ══

pub sub_same_sound : (x : ℕ) (flags : Flags) (n : ℕ) → IsSoundRewrite x (same_to_zero op.GenericSubtract flags n)
sub_same_sound x flags n = record {
  by = λ names w world a a_fits. (refl, unless _ n (difference_of n a a) 0 (pow_pos n) (difference_self n a));
}

pub xor_same_sound : (x : ℕ) (flags : Flags) (n : ℕ) → IsSoundRewrite x (same_to_zero op.GenericXor flags n)
xor_same_sound x flags n = record {
  by = λ names w world a a_fits. (refl, xor_self a);
}

-- ══ A value that was extended, and cut ══

pub cut_anyext_sound : (x : ℕ) (flags more : Flags) (n m : ℕ) → n < m → IsSoundRewrite x (cut_extension op.GenericAnyExtend flags more n m)
cut_anyext_sound x flags more n m wider = record {
  by = λ names w world a a_fits b b_fits.
      let less : nat_lt n m ≡ true = grind arith in
      rw (less, not_below_itself n, same n) (λ fits low. (refl, low ∙ mod-eq_of_lt a_fits));
}

-- whether or not a promise is broken, the low bits are the value's
low_known : (broken : Bool) (n m a b : ℕ) (goal : Type 0) → n < m → (wrapped n b ≡ wrapped n a → goal) → IfGiven (cond broken (in_low_bits n m a) (one a)) (b ∷ []) goal
low_known true n m a b goal wider all = let less : nat_lt n m ≡ true = grind arith in rw less (λ fits low. all low)
low_known false n m a b goal wider all = λ is. all (ap (wrapped n) is)

pub cut_zext_sound : (x : ℕ) (flags more : Flags) (n m : ℕ) → n < m → IsSoundRewrite x (cut_extension op.GenericZeroExtend flags more n m)
cut_zext_sound x flags more n m wider = record {
  by = λ names w world a a_fits b b_fits. rw (not_below_itself n, same n) (low_known _ n m a b _ wider (λ low. (refl, low ∙ mod-eq_of_lt a_fits)));
}

pub cut_sext_sound : (x : ℕ) (flags more : Flags) (n m : ℕ) → 1 ≤ n → n < m → IsSoundRewrite x (cut_extension op.GenericSignExtend flags more n m)
cut_sext_sound x flags more n m some wider = record {
  by = λ names w world a a_fits b b_fits is.
      rw (not_below_itself n, same n)
      (refl, ap (wrapped n) is ∙ unsigned_low m n (signed n (wrapped n a)) (omega (arith, wider)) ∙ ap (λ v. unsigned n (signed n v)) (mod-eq_of_lt a_fits) ∙ bits_back n a some a_fits);
}
