-- More rows of the selector are sound.
use Rattle.std.proofs.Common.{◌≡◌, inl, inr, ℕ, ℤ, pos, negsuc, ◌-ℤ◌, ◌+◌, ◌-◌, ◌*◌, ◌/◌, ◌%◌, ◌^◌, ◌<◌, ◌==◌, nat_lt, nat_le, Bool, true, false, not, cond, ◌||◌, [], ◌∷◌, refl, sym, ap, ap₂, ◌∙◌, subst, arith}
use Rattle.std.specs.Prelude.{bit_and, bit_or, bit_xor, int_div, int_le, int_lt, int_rem}
use Rattle.std.specs.Int.Bits.{xor_assoc, xor_self, xor_zero_l, xor_zero_r}
use Rattle.std.proofs.Math.Nat.{div-le_self, mod-eq_of_lt, mod-le}
use Rattle.std.proofs.lemmas.Bool.{cases_eq, leb-false}
use Rattle.std.proofs.lemmas.Bool.Decides.{nat_tests}
use Rattle.std.proofs.lemmas.Nat.{mod_below, or_lt, pow_pos, shr_le}
use Rattle.gi_llt.specs.Bits.{sign_extended, signed, unsigned, wrapped}
use Rattle.gi_llt.specs.declared.Llt.{Llt}
use Rattle.gi_llt.specs.declared.Llt.TheVariants.{Pointer}
use Rattle.gi_rule_values.specs.Forms.{s}
use Rattle.gi_meaning.proofs.Numbers.{unsigned_below}
use Rattle.gi_meaning.specs.Generic.{arithmetic_shift_of, arithmetically_shifted_right, bit_of, difference, difference_of, disjunction, product, shifted_left, shifted_right, signed_quotient, signed_remainder, sum, unsigned_quotient, unsigned_remainder}
use Rattle.gi_meaning.specs.Given.{Given, Undefined, free, unless_broken}
use Rattle.gi_meaning.specs.Machine.{arithmetic_right_word, is_immediate, left_word, on_low_half, product_word, quotient_unsigned_word, quotient_word, remainder_unsigned_word, remainder_word, right_word, sum_word}
use Rattle.gi_mir.specs.declared.opcode.Opcode.TheVariants as op
use Rattle.gi_mir.specs.declared.operand.Flags.{Flags}
use Rattle.gi_mir.specs.declared.operand.Pred.TheVariants.{Ugt, Uge, Ult, Sgt, Sge, Slt, Sle}
use Rattle.gi_refine.proofs.Basics.{not_below_itself, whole_fitted}
use Rattle.gi_rule_values.specs.Running.{IsSoundRewrite, MayGive}
use Rattle.gi_rule_values.specs.Selecting.{select_above, select_below, select_below_number, select_copy, select_eq_zero, select_icmp_eq, select_icmp_ne, select_implicit_def, select_ne_zero, select_not_above, select_not_below, select_number, select_ptr_add, select_sext, select_sext_inreg, select_shift, select_two}
use Rattle.gi_rule_values.proofs.Numbers.{below_power, bits_back, free_given, low_of_low, same, unless, unsigned_low}
use Rattle.gi_rule_values.proofs.Selecting.{not_below, one_word, turned_bit}

-- ══ What an instruction gives, the operation may give ══

abbrev Law : (n : ℕ) (gives : ℕ → ℕ → ℕ → Given) (f : ℕ → ℕ → ℕ → ℕ) → Type 0
Law n gives f = (a b : ℕ) → a < 2 ^ n → b < 2 ^ n → MayGive (gives n a b) (f n a b ∷ [])

abbrev Fit : (n : ℕ) (f : ℕ → ℕ → ℕ → ℕ) → Type 0
Fit n f = (a b : ℕ) → a < 2 ^ n → b < 2 ^ n → f n a b < 2 ^ n

-- the low half of what an instruction on low halves gives
half_is : (f : ℕ → ℕ → ℕ → ℕ) (a b u v : ℕ) → Fit 32 f → a < 2 ^ 32 → b < 2 ^ 32 → u % 2 ^ 32 ≡ a % 2 ^ 32 → v % 2 ^ 32 ≡ b % 2 ^ 32 → wrapped 32 (on_low_half f 64 u v) ≡ f 32 a b
half_is f a b u v fit a_fits b_fits first second =
    let r : ℕ = f 32 (wrapped 32 u) (wrapped 32 v) in
    let is : r ≡ f 32 a b = ap₂ (f 32) (first ∙ mod-eq_of_lt a_fits) (second ∙ mod-eq_of_lt b_fits) in
    unsigned_low 64 32 (signed 32 (wrapped 32 r)) (omega arith) ∙ ap (λ k. unsigned 32 (signed 32 (wrapped 32 k))) is
    ∙ ap (λ k. unsigned 32 (signed 32 k)) (mod-eq_of_lt (fit a b a_fits b_fits)) ∙ bits_back 32 (f 32 a b) (omega arith) (fit a b a_fits b_fits)

half_may : (gives : ℕ → ℕ → ℕ → Given) (f : ℕ → ℕ → ℕ → ℕ) (a b u v : ℕ) → Law 32 gives f → Fit 32 f → a < 2 ^ 32 → b < 2 ^ 32 → u % 2 ^ 32 ≡ a % 2 ^ 32 → v % 2 ^ 32 ≡ b % 2 ^ 32
    → MayGive (gives 32 a b) (wrapped 32 (on_low_half f 64 u v) ∷ [])
half_may gives f a b u v law fit a_fits b_fits first second = subst (λ r. MayGive (gives 32 a b) (r ∷ [])) (sym (half_is f a b u v fit a_fits b_fits first second)) (law a b a_fits b_fits)

-- ══ Sums, differences and products ══

sum_fits : (n : ℕ) → Fit n sum_word
sum_fits n a b a_fits b_fits = mod_below (a + b) (2 ^ n) (pow_pos n)

sum_law : (flags : Flags) (n : ℕ) → Law n (sum flags) sum_word
sum_law flags n a b a_fits b_fits = unless _ n (sum_word n a b) (sum_word n a b) (sum_fits n a b a_fits b_fits) refl

difference_fits : (n : ℕ) → Fit n difference_of
difference_fits n a b a_fits b_fits = unsigned_below n (pos a -ℤ pos b)

difference_law : (flags : Flags) (n : ℕ) → Law n (difference flags) difference_of
difference_law flags n a b a_fits b_fits = unless _ n (difference_of n a b) (difference_of n a b) (difference_fits n a b a_fits b_fits) refl

product_fits : (n : ℕ) → Fit n product_word
product_fits n a b a_fits b_fits = mod_below (a * b) (2 ^ n) (pow_pos n)

product_law : (flags : Flags) (n : ℕ) → Law n (product flags) product_word
product_law flags n a b a_fits b_fits = unless _ n (product_word n a b) (product_word n a b) (product_fits n a b a_fits b_fits) refl

or_law : (flags : Flags) (n : ℕ) → Law n (disjunction flags) (λ x a b. bit_or a b)
or_law flags n a b a_fits b_fits = unless _ n (bit_or a b) (bit_or a b) (or_lt n a b a_fits b_fits) refl

-- ══ Shifts ══

-- any value that fits where the amount is too great, and else this one unless a promise is broken
may_shift : (t b : Bool) (n v u : ℕ) → v < 2 ^ n → (t ≡ false → v ≡ u) → MayGive (cond t (free n) (unless_broken b n u)) (v ∷ [])
may_shift true b n v u fits is = free_given n v fits
may_shift false b n v u fits is = unless b n u v fits (sym (is refl))

-- an amount below the width is taken whole
amount : (n k : ℕ) → nat_le n k ≡ false → k % n ≡ k
amount n k within = mod-eq_of_lt (leb-false n k within)

left_fits : (n : ℕ) → Fit n left_word
left_fits n a b a_fits b_fits = mod_below (a * 2 ^ (b % n)) (2 ^ n) (pow_pos n)

left_law : (flags : Flags) (n : ℕ) → Law n (shifted_left flags) left_word
left_law flags n a b a_fits b_fits = may_shift (nat_le n b) _ n (left_word n a b) (wrapped n (a * 2 ^ b)) (left_fits n a b a_fits b_fits) (λ within. ap (λ k. wrapped n (a * 2 ^ k)) (amount n b within))

right_fits : (n : ℕ) → Fit n right_word
right_fits n a b a_fits b_fits = omega (arith, shr_le a (b % n), a_fits)

right_law : (flags : Flags) (n : ℕ) → Law n (shifted_right flags) right_word
right_law flags n a b a_fits b_fits = may_shift (nat_le n b) _ n (right_word n a b) (a / 2 ^ b) (right_fits n a b a_fits b_fits) (λ within. ap (λ k. a / 2 ^ k) (amount n b within))

signed_fits : (n : ℕ) → Fit n arithmetic_right_word
signed_fits n a b a_fits b_fits = mod_below (sign_extended n (n + b % n) a / 2 ^ (b % n)) (2 ^ n) (pow_pos n)

signed_law : (flags : Flags) (n : ℕ) → Law n (arithmetically_shifted_right flags) arithmetic_right_word
signed_law flags n a b a_fits b_fits =
    may_shift (nat_le n b) _ n (arithmetic_right_word n a b) (arithmetic_shift_of n a b) (signed_fits n a b a_fits b_fits) (λ within. ap (arithmetic_shift_of n a) (amount n b within))

-- ══ Quotients and remainders ══

-- undefined where the instruction gives another number, and also elsewhere
may_divide : (t s broken : Bool) (n other v : ℕ) → v < 2 ^ n → MayGive (cond (t || s) Undefined (unless_broken broken n v)) (cond t other v ∷ [])
may_divide true s broken n other v fits = tt
may_divide false true broken n other v fits = tt
may_divide false false broken n other v fits = unless broken n v v fits refl

may_divide_unsigned : (t broken : Bool) (n other v : ℕ) → v < 2 ^ n → MayGive (cond t Undefined (unless_broken broken n v)) (cond t other v ∷ [])
may_divide_unsigned true broken n other v fits = tt
may_divide_unsigned false broken n other v fits = unless broken n v v fits refl

choice_below : (t : Bool) (p other v : ℕ) → other < p → v < p → cond t other v < p
choice_below true p other v h l = h
choice_below false p other v h l = l

all_ones : (n : ℕ) → 2 ^ n - 1 < 2 ^ n
all_ones n = omega (arith, pow_pos n)

udiv_law : (flags : Flags) (n : ℕ) → Law n (unsigned_quotient flags) quotient_unsigned_word
udiv_law flags n a b a_fits b_fits = may_divide_unsigned (b == 0) _ n (2 ^ n - 1) (a / b) (omega (arith, div-le_self a b, a_fits))

udiv_fits : (n : ℕ) → Fit n quotient_unsigned_word
udiv_fits n a b a_fits b_fits = choice_below (b == 0) (2 ^ n) (2 ^ n - 1) (a / b) (all_ones n) (omega (arith, div-le_self a b, a_fits))

sdiv_law : (flags : Flags) (n : ℕ) → Law n (signed_quotient flags) quotient_word
sdiv_law flags n a b a_fits b_fits = may_divide (b == 0) _ _ n (2 ^ n - 1) (unsigned n (int_div (signed n a) (signed n b))) (unsigned_below n (int_div (signed n a) (signed n b)))

sdiv_fits : (n : ℕ) → Fit n quotient_word
sdiv_fits n a b a_fits b_fits = choice_below (b == 0) (2 ^ n) (2 ^ n - 1) (unsigned n (int_div (signed n a) (signed n b))) (all_ones n) (unsigned_below n (int_div (signed n a) (signed n b)))

urem_law : (n : ℕ) → Law n unsigned_remainder remainder_unsigned_word
urem_law n a b a_fits b_fits = may_divide_unsigned (b == 0) false n a (a % b) (omega (arith, mod-le a b, a_fits))

urem_fits : (n : ℕ) → Fit n remainder_unsigned_word
urem_fits n a b a_fits b_fits = choice_below (b == 0) (2 ^ n) a (a % b) a_fits (omega (arith, mod-le a b, a_fits))

srem_law : (n : ℕ) → Law n signed_remainder remainder_word
srem_law n a b a_fits b_fits = may_divide (b == 0) _ false n a (unsigned n (int_rem (signed n a) (signed n b))) (unsigned_below n (int_rem (signed n a) (signed n b)))

srem_fits : (n : ℕ) → Fit n remainder_word
srem_fits n a b a_fits b_fits = choice_below (b == 0) (2 ^ n) a (unsigned n (int_rem (signed n a) (signed n b))) a_fits (unsigned_below n (int_rem (signed n a) (signed n b)))

-- ══ One instruction for one operation ══

pub select_add_sound : (x : ℕ) (flags : Flags) → IsSoundRewrite x (select_two op.GenericAdd op.Add flags x)
select_add_sound x flags = record { by = λ names world is_world a a_fits b b_fits. rw (not_below_itself x) (refl, sum_law flags x a b a_fits b_fits) }

pub select_add_half_sound : (flags : Flags) → IsSoundRewrite 64 (select_two op.GenericAdd op.AddWord flags 32)
select_add_half_sound flags = record {
  by = λ names world is_world a a_fits b b_fits u u_fits u_low v v_fits v_low. (refl, half_may (sum flags) sum_word a b u v (sum_law flags 32) (sum_fits 32) a_fits b_fits u_low v_low);
}

pub select_sub_sound : (x : ℕ) (flags : Flags) → IsSoundRewrite x (select_two op.GenericSubtract op.Subtract flags x)
select_sub_sound x flags = record { by = λ names world is_world a a_fits b b_fits. rw (not_below_itself x) (refl, difference_law flags x a b a_fits b_fits) }

pub select_sub_half_sound : (flags : Flags) → IsSoundRewrite 64 (select_two op.GenericSubtract op.SubtractWord flags 32)
select_sub_half_sound flags = record {
  by = λ names world is_world a a_fits b b_fits u u_fits u_low v v_fits v_low. (refl, half_may (difference flags) difference_of a b u v (difference_law flags 32) (difference_fits 32) a_fits b_fits u_low v_low);
}

pub select_mul_sound : (x : ℕ) (flags : Flags) → IsSoundRewrite x (select_two op.GenericMultiply op.Multiply flags x)
select_mul_sound x flags = record { by = λ names world is_world a a_fits b b_fits. rw (not_below_itself x) (refl, product_law flags x a b a_fits b_fits) }

pub select_mul_half_sound : (flags : Flags) → IsSoundRewrite 64 (select_two op.GenericMultiply op.MultiplyWord flags 32)
select_mul_half_sound flags = record {
  by = λ names world is_world a a_fits b b_fits u u_fits u_low v v_fits v_low. (refl, half_may (product flags) product_word a b u v (product_law flags 32) (product_fits 32) a_fits b_fits u_low v_low);
}

pub select_shl_sound : (x : ℕ) (flags : Flags) → IsSoundRewrite x (select_two op.GenericShiftLeft op.ShiftLeftLogical flags x)
select_shl_sound x flags = record { by = λ names world is_world a a_fits b b_fits. rw (not_below_itself x) (refl, left_law flags x a b a_fits b_fits) }

pub select_shl_half_sound : (flags : Flags) → IsSoundRewrite 64 (select_two op.GenericShiftLeft op.ShiftLeftLogicalWord flags 32)
select_shl_half_sound flags = record {
  by = λ names world is_world a a_fits b b_fits u u_fits u_low v v_fits v_low. (refl, half_may (shifted_left flags) left_word a b u v (left_law flags 32) (left_fits 32) a_fits b_fits u_low v_low);
}

pub select_lshr_sound : (x : ℕ) (flags : Flags) → IsSoundRewrite x (select_two op.GenericLogicalShiftRight op.ShiftRightLogical flags x)
select_lshr_sound x flags = record { by = λ names world is_world a a_fits b b_fits. rw (not_below_itself x) (refl, right_law flags x a b a_fits b_fits) }

pub select_lshr_half_sound : (flags : Flags) → IsSoundRewrite 64 (select_two op.GenericLogicalShiftRight op.ShiftRightLogicalWord flags 32)
select_lshr_half_sound flags = record {
  by = λ names world is_world a a_fits b b_fits u u_fits u_low v v_fits v_low. (refl, half_may (shifted_right flags) right_word a b u v (right_law flags 32) (right_fits 32) a_fits b_fits u_low v_low);
}

pub select_ashr_sound : (x : ℕ) (flags : Flags) → IsSoundRewrite x (select_two op.GenericArithmeticShiftRight op.ShiftRightArithmetic flags x)
select_ashr_sound x flags = record { by = λ names world is_world a a_fits b b_fits. rw (not_below_itself x) (refl, signed_law flags x a b a_fits b_fits) }

pub select_ashr_half_sound : (flags : Flags) → IsSoundRewrite 64 (select_two op.GenericArithmeticShiftRight op.ShiftRightArithmeticWord flags 32)
select_ashr_half_sound flags = record {
  by = λ names world is_world a a_fits b b_fits u u_fits u_low v v_fits v_low. (refl, half_may (arithmetically_shifted_right flags) arithmetic_right_word a b u v (signed_law flags 32) (signed_fits 32) a_fits b_fits u_low v_low);
}

pub select_udiv_sound : (x : ℕ) (flags : Flags) → IsSoundRewrite x (select_two op.GenericUnsignedDivide op.DivideUnsigned flags x)
select_udiv_sound x flags = record { by = λ names world is_world a a_fits b b_fits. rw (not_below_itself x) (refl, udiv_law flags x a b a_fits b_fits) }

pub select_udiv_half_sound : (flags : Flags) → IsSoundRewrite 64 (select_two op.GenericUnsignedDivide op.DivideUnsignedWord flags 32)
select_udiv_half_sound flags = record {
  by = λ names world is_world a a_fits b b_fits u u_fits u_low v v_fits v_low. (refl, half_may (unsigned_quotient flags) quotient_unsigned_word a b u v (udiv_law flags 32) (udiv_fits 32) a_fits b_fits u_low v_low);
}

pub select_sdiv_sound : (x : ℕ) (flags : Flags) → IsSoundRewrite x (select_two op.GenericSignedDivide op.Divide flags x)
select_sdiv_sound x flags = record { by = λ names world is_world a a_fits b b_fits. rw (not_below_itself x) (refl, sdiv_law flags x a b a_fits b_fits) }

pub select_sdiv_half_sound : (flags : Flags) → IsSoundRewrite 64 (select_two op.GenericSignedDivide op.DivideWord flags 32)
select_sdiv_half_sound flags = record {
  by = λ names world is_world a a_fits b b_fits u u_fits u_low v v_fits v_low. (refl, half_may (signed_quotient flags) quotient_word a b u v (sdiv_law flags 32) (sdiv_fits 32) a_fits b_fits u_low v_low);
}

pub select_urem_sound : (x : ℕ) (flags : Flags) → IsSoundRewrite x (select_two op.GenericUnsignedRemainder op.RemainderUnsigned flags x)
select_urem_sound x flags = record { by = λ names world is_world a a_fits b b_fits. rw (not_below_itself x) (refl, urem_law x a b a_fits b_fits) }

pub select_urem_half_sound : (flags : Flags) → IsSoundRewrite 64 (select_two op.GenericUnsignedRemainder op.RemainderUnsignedWord flags 32)
select_urem_half_sound flags = record {
  by = λ names world is_world a a_fits b b_fits u u_fits u_low v v_fits v_low. (refl, half_may (unsigned_remainder) remainder_unsigned_word a b u v (urem_law 32) (urem_fits 32) a_fits b_fits u_low v_low);
}

pub select_srem_sound : (x : ℕ) (flags : Flags) → IsSoundRewrite x (select_two op.GenericSignedRemainder op.Remainder flags x)
select_srem_sound x flags = record { by = λ names world is_world a a_fits b b_fits. rw (not_below_itself x) (refl, srem_law x a b a_fits b_fits) }

pub select_srem_half_sound : (flags : Flags) → IsSoundRewrite 64 (select_two op.GenericSignedRemainder op.RemainderWord flags 32)
select_srem_half_sound flags = record {
  by = λ names world is_world a a_fits b b_fits u u_fits u_low v v_fits v_low. (refl, half_may (signed_remainder) remainder_word a b u v (srem_law 32) (srem_fits 32) a_fits b_fits u_low v_low);
}

pub select_and_sound : (x : ℕ) (flags : Flags) → IsSoundRewrite x (select_two op.GenericAnd op.And flags x)
select_and_sound x flags = record { by = λ names world is_world a a_fits b b_fits. rw (not_below_itself x) (refl, refl) }

pub select_or_sound : (x : ℕ) (flags : Flags) → IsSoundRewrite x (select_two op.GenericOr op.Or flags x)
select_or_sound x flags = record { by = λ names world is_world a a_fits b b_fits. rw (not_below_itself x) (refl, or_law flags x a b a_fits b_fits) }

pub select_xor_sound : (x : ℕ) (flags : Flags) → IsSoundRewrite x (select_two op.GenericXor op.Xor flags x)
select_xor_sound x flags = record { by = λ names world is_world a a_fits b b_fits. rw (not_below_itself x) (refl, refl) }

pub select_umulh_sound : (x : ℕ) (flags : Flags) → IsSoundRewrite x (select_two op.GenericUnsignedMultiplyHigh op.MultiplyHighUnsigned flags x)
select_umulh_sound x flags = record { by = λ names world is_world a a_fits b b_fits. rw (not_below_itself x) (refl, refl) }

pub select_smulh_sound : (x : ℕ) (flags : Flags) → IsSoundRewrite x (select_two op.GenericSignedMultiplyHigh op.MultiplyHigh flags x)
select_smulh_sound x flags = record { by = λ names world is_world a a_fits b b_fits. rw (not_below_itself x) (refl, refl) }

pub select_ptr_add_sound : (x : ℕ) (flags : Flags) → IsSoundRewrite x (select_ptr_add flags x)
select_ptr_add_sound x flags = record { by = λ names world is_world a a_fits b b_fits. rw (not_below_itself x) (refl, refl) }

-- ══ With a number ══

pub select_andi_sound : (x : ℕ) (flags more : Flags) (i : ℤ) → is_immediate i ≡ true → IsSoundRewrite x (select_number op.GenericAnd op.AndImmediate flags more x i)
select_andi_sound x flags more i small = record {
  by = λ names world is_world a a_fits b b_fits is.
      rw (not_below_itself x, small, whole_fitted x (bit_and a (unsigned x i))) (refl, ap (bit_and a) is);
}

pub select_xori_sound : (x : ℕ) (flags more : Flags) (i : ℤ) → is_immediate i ≡ true → IsSoundRewrite x (select_number op.GenericXor op.XorImmediate flags more x i)
select_xori_sound x flags more i small = record {
  by = λ names world is_world a a_fits b b_fits is.
      rw (not_below_itself x, small, whole_fitted x (bit_xor a (unsigned x i))) (refl, ap (bit_xor a) is);
}

pub select_ori_sound : (x : ℕ) (flags more : Flags) (i : ℤ) → is_immediate i ≡ true → IsSoundRewrite x (select_number op.GenericOr op.OrImmediate flags more x i)
select_ori_sound x flags more i small = record {
  by = λ names world is_world a a_fits b b_fits is.
      rw (not_below_itself x, small, whole_fitted x (bit_or a (unsigned x i))) (refl, subst (λ c. MayGive (disjunction flags x a c) (bit_or a (unsigned x i) ∷ [])) (sym is) (or_law flags x a (unsigned x i) a_fits (unsigned_below x i)));
}

pub select_addiw_sound : (flags more : Flags) (i : ℤ) → is_immediate i ≡ true → IsSoundRewrite 64 (select_number op.GenericAdd op.AddImmediateWord flags more 32 i)
select_addiw_sound flags more i small = record {
  by = λ names world is_world a a_fits b b_fits is u u_fits u_low.
      rw small (refl, half_may (sum flags) sum_word a b u (unsigned 64 i) (sum_law flags 32) (sum_fits 32) a_fits b_fits u_low (unsigned_low 64 32 i (omega arith) ∙ sym is ∙ sym (mod-eq_of_lt b_fits)));
}

pub select_shl_by_sound : (x : ℕ) (flags more : Flags) (k : ℕ) → k < x → IsSoundRewrite x (select_shift op.GenericShiftLeft op.ShiftLeftLogicalImmediate flags more x k)
select_shl_by_sound x flags more k within = record {
  by = λ names world is_world a a_fits b b_fits is.
      let less : nat_lt k x ≡ true = grind arith in
      let fits : k < 2 ^ x = omega (arith, within, below_power x) in
      let whole : k % 2 ^ x ≡ k = mod-eq_of_lt fits in
      rw (not_below_itself x, less, whole, whole_fitted x (left_word x a k)) (refl, subst (λ c. MayGive (shifted_left flags x a c) (left_word x a k ∷ [])) (sym is) (left_law flags x a k a_fits fits));
}

pub select_shl_half_by_sound : (flags more : Flags) (k : ℕ) → k < 32 → IsSoundRewrite 64 (select_shift op.GenericShiftLeft op.ShiftLeftLogicalImmediateWord flags more 32 k)
select_shl_half_by_sound flags more k within = record {
  by = λ names world is_world a a_fits b b_fits is u u_fits u_low.
      let less : nat_lt k 32 ≡ true = grind arith in
      rw less (refl, half_may (shifted_left flags) left_word a b u (unsigned 64 (pos k)) (left_law flags 32) (left_fits 32) a_fits b_fits u_low (low_of_low 32 64 k (omega arith) ∙ ap (wrapped 32) (sym is)));
}

pub select_lshr_by_sound : (x : ℕ) (flags more : Flags) (k : ℕ) → k < x → IsSoundRewrite x (select_shift op.GenericLogicalShiftRight op.ShiftRightLogicalImmediate flags more x k)
select_lshr_by_sound x flags more k within = record {
  by = λ names world is_world a a_fits b b_fits is.
      let less : nat_lt k x ≡ true = grind arith in
      let fits : k < 2 ^ x = omega (arith, within, below_power x) in
      let whole : k % 2 ^ x ≡ k = mod-eq_of_lt fits in
      rw (not_below_itself x, less, whole, whole_fitted x (right_word x a k)) (refl, subst (λ c. MayGive (shifted_right flags x a c) (right_word x a k ∷ [])) (sym is) (right_law flags x a k a_fits fits));
}

pub select_lshr_half_by_sound : (flags more : Flags) (k : ℕ) → k < 32 → IsSoundRewrite 64 (select_shift op.GenericLogicalShiftRight op.ShiftRightLogicalImmediateWord flags more 32 k)
select_lshr_half_by_sound flags more k within = record {
  by = λ names world is_world a a_fits b b_fits is u u_fits u_low.
      let less : nat_lt k 32 ≡ true = grind arith in
      rw less (refl, half_may (shifted_right flags) right_word a b u (unsigned 64 (pos k)) (right_law flags 32) (right_fits 32) a_fits b_fits u_low (low_of_low 32 64 k (omega arith) ∙ ap (wrapped 32) (sym is)));
}

pub select_ashr_by_sound : (x : ℕ) (flags more : Flags) (k : ℕ) → k < x → IsSoundRewrite x (select_shift op.GenericArithmeticShiftRight op.ShiftRightArithmeticImmediate flags more x k)
select_ashr_by_sound x flags more k within = record {
  by = λ names world is_world a a_fits b b_fits is.
      let less : nat_lt k x ≡ true = grind arith in
      let fits : k < 2 ^ x = omega (arith, within, below_power x) in
      let whole : k % 2 ^ x ≡ k = mod-eq_of_lt fits in
      rw (not_below_itself x, less, whole, whole_fitted x (arithmetic_right_word x a k)) (refl, subst (λ c. MayGive (arithmetically_shifted_right flags x a c) (arithmetic_right_word x a k ∷ [])) (sym is) (signed_law flags x a k a_fits fits));
}

pub select_ashr_half_by_sound : (flags more : Flags) (k : ℕ) → k < 32 → IsSoundRewrite 64 (select_shift op.GenericArithmeticShiftRight op.ShiftRightArithmeticImmediateWord flags more 32 k)
select_ashr_half_by_sound flags more k within = record {
  by = λ names world is_world a a_fits b b_fits is u u_fits u_low.
      let less : nat_lt k 32 ≡ true = grind arith in
      rw less (refl, half_may (arithmetically_shifted_right flags) arithmetic_right_word a b u (unsigned 64 (pos k)) (signed_law flags 32) (signed_fits 32) a_fits b_fits u_low (low_of_low 32 64 k (omega arith) ∙ ap (wrapped 32) (sym is)));
}

-- ══ Comparisons ══

not_less : (x y : ℤ) → int_le y x ≡ not (int_lt x y)
not_less (pos a) (pos b) = grind (arith, nat_tests)
not_less (pos a) (negsuc b) = refl
not_less (negsuc a) (pos b) = refl
not_less (negsuc a) (negsuc b) = grind (arith, nat_tests)

-- no bit differs of equal numbers alone
same_of_xor : (a b : ℕ) → bit_xor a b ≡ 0 → a ≡ b
same_of_xor a b none = sym (xor_zero_r a) ∙ (ap (bit_xor a) (sym (xor_self b)) ∙ (sym (xor_assoc a b b) ∙ (ap (λ m. bit_xor m b) none ∙ xor_zero_l b)))

xor_is_zero : (a b : ℕ) → (bit_xor a b == 0) ≡ (a == b)
xor_is_zero a b = elim (cases_eq a b) [
  | inl is ↦ (let z : bit_xor a b ≡ 0 = ap (λ m. bit_xor m b) is ∙ xor_self b in grind (arith, nat_tests, z, is))
  | inr other ↦ (let z : (bit_xor a b ≡ 0 → ⊥) = λ h. other (same_of_xor a b h) in grind (arith, nat_tests, z, other))
]

is_zero : (m : ℕ) → nat_lt m 1 ≡ (m == 0)
is_zero m = grind (arith, nat_tests)

is_above : (m : ℕ) → nat_lt 0 m ≡ not (m == 0)
is_above m = grind (arith, nat_tests)

pub select_icmp_ult_sound : (x : ℕ) (flags : Flags) → IsSoundRewrite x (select_below Ult op.SetLessUnsigned flags x)
select_icmp_ult_sound x flags = record { by = λ names world is_world a a_fits b b_fits. rw (not_below_itself x) (refl, refl) }

pub select_icmp_slt_sound : (x : ℕ) (flags : Flags) → IsSoundRewrite x (select_below Slt op.SetLess flags x)
select_icmp_slt_sound x flags = record { by = λ names world is_world a a_fits b b_fits. rw (not_below_itself x) (refl, refl) }

pub select_icmp_ugt_sound : (x : ℕ) (flags : Flags) → IsSoundRewrite x (select_above Ugt op.SetLessUnsigned flags x)
select_icmp_ugt_sound x flags = record { by = λ names world is_world a a_fits b b_fits. rw (not_below_itself x) (refl, refl) }

pub select_icmp_sgt_sound : (x : ℕ) (flags : Flags) → IsSoundRewrite x (select_above Sgt op.SetLess flags x)
select_icmp_sgt_sound x flags = record { by = λ names world is_world a a_fits b b_fits. rw (not_below_itself x) (refl, refl) }

pub select_icmp_uge_sound : (x : ℕ) (flags : Flags) → 0 < x → IsSoundRewrite x (select_not_below Uge op.SetLessUnsigned flags x)
select_icmp_uge_sound x flags positive = record {
  by = λ names world is_world a a_fits b b_fits. rw (not_below_itself x, one_word x positive) (refl, ap bit_of (not_below a b) ∙ turned_bit (nat_lt a b));
}

pub select_icmp_sge_sound : (x : ℕ) (flags : Flags) → 0 < x → IsSoundRewrite x (select_not_below Sge op.SetLess flags x)
select_icmp_sge_sound x flags positive = record {
  by = λ names world is_world a a_fits b b_fits. rw (not_below_itself x, one_word x positive) (refl, ap bit_of (not_less (signed x a) (signed x b)) ∙ turned_bit (int_lt (signed x a) (signed x b)));
}

pub select_icmp_sle_sound : (x : ℕ) (flags : Flags) → 0 < x → IsSoundRewrite x (select_not_above Sle op.SetLess flags x)
select_icmp_sle_sound x flags positive = record {
  by = λ names world is_world a a_fits b b_fits. rw (not_below_itself x, one_word x positive) (refl, ap bit_of (not_less (signed x b) (signed x a)) ∙ turned_bit (int_lt (signed x b) (signed x a)));
}

pub select_icmp_eq_sound : (x : ℕ) (flags : Flags) → 0 < x → IsSoundRewrite x (select_icmp_eq flags x)
select_icmp_eq_sound x flags positive = record {
  by = λ names world is_world a a_fits b b_fits. rw (not_below_itself x, one_word x positive) (refl, ap bit_of (sym (is_zero (bit_xor a b) ∙ xor_is_zero a b)));
}

pub select_icmp_ne_sound : (x : ℕ) (flags : Flags) → IsSoundRewrite x (select_icmp_ne flags x)
select_icmp_ne_sound x flags = record {
  by = λ names world is_world a a_fits b b_fits. rw (not_below_itself x) (refl, ap bit_of (sym (is_above (bit_xor a b) ∙ ap not (xor_is_zero a b))));
}

pub select_eq_zero_sound : (x : ℕ) (flags more : Flags) → 0 < x → IsSoundRewrite x (select_eq_zero flags more x)
select_eq_zero_sound x flags more positive = record {
  by = λ names world is_world a a_fits b b_fits is. rw (not_below_itself x, one_word x positive) (refl, ap (λ c. bit_of (a == c)) is ∙ ap bit_of (sym (is_zero a)));
}

pub select_ne_zero_sound : (x : ℕ) (flags more : Flags) → IsSoundRewrite x (select_ne_zero flags more x)
select_ne_zero_sound x flags more = record {
  by = λ names world is_world a a_fits b b_fits is. rw (not_below_itself x) (refl, ap (λ c. bit_of (not (a == c))) is ∙ ap bit_of (sym (is_above a)));
}

pub select_sltiu_sound : (x : ℕ) (flags more : Flags) (i : ℤ) → is_immediate i ≡ true → IsSoundRewrite x (select_below_number Ult op.SetLessImmediateUnsigned flags more x i)
select_sltiu_sound x flags more i small = record {
  by = λ names world is_world a a_fits b b_fits is.
      rw (not_below_itself x, small, whole_fitted x (bit_of (nat_lt a (unsigned x i)))) (refl, ap (λ c. bit_of (nat_lt a c)) is);
}

pub select_slti_sound : (x : ℕ) (flags more : Flags) (i : ℤ) → is_immediate i ≡ true → IsSoundRewrite x (select_below_number Slt op.SetLessImmediate flags more x i)
select_slti_sound x flags more i small = record {
  by = λ names world is_world a a_fits b b_fits is.
      rw (not_below_itself x, small, whole_fitted x (bit_of (int_lt (signed x a) (signed x (unsigned x i))))) (refl, ap (λ c. bit_of (int_lt (signed x a) (signed x c))) is);
}

-- ══ Casts ══

pub select_trunc_sound : (x : ℕ) (flags : Flags) (m n : ℕ) → n < m → IsSoundRewrite x (select_copy op.GenericTruncate flags (s m) (s n))
select_trunc_sound x flags m n wider = record {
  by = λ names world is_world a a_fits.
      let less : nat_lt m n ≡ false = grind arith in
      let other : (m == n) ≡ false = grind (arith, nat_tests) in
      rw (less, other) (refl, refl);
}

pub select_anyext_sound : (x : ℕ) (flags : Flags) (m n : ℕ) → m < n → IsSoundRewrite x (select_copy op.GenericAnyExtend flags (s m) (s n))
select_anyext_sound x flags m n wider = record {
  by = λ names world is_world a a_fits.
      let less : nat_lt m n ≡ true = grind arith in
      rw less (λ v v_fits v_low. (refl, (v_fits, v_low)));
}

pub select_ptrtoint_sound : (x : ℕ) (flags : Flags) → IsSoundRewrite x (select_copy op.GenericPointerToInteger flags Pointer (s x))
select_ptrtoint_sound x flags = record { by = λ names world is_world a a_fits. rw (not_below_itself x, same x) (refl, mod-eq_of_lt a_fits) }

pub select_inttoptr_sound : (x : ℕ) (flags : Flags) → IsSoundRewrite x (select_copy op.GenericIntegerToPointer flags (s x) Pointer)
select_inttoptr_sound x flags = record { by = λ names world is_world a a_fits. rw (not_below_itself x, same x) (refl, mod-eq_of_lt a_fits) }

with_nothing : (u : ℕ) → wrapped 32 (wrapped 32 u + wrapped 32 0) ≡ wrapped 32 u
with_nothing u = omega arith

pub select_sext_sound : (flags : Flags) → IsSoundRewrite 64 (select_sext flags)
select_sext_sound flags = record {
  by = λ names world is_world a a_fits u u_fits u_low. (refl, ap (sign_extended 32 64) (sym (with_nothing u ∙ u_low ∙ mod-eq_of_lt a_fits)));
}

pub select_sext_inreg_sound : (flags : Flags) → IsSoundRewrite 64 (select_sext_inreg flags)
select_sext_inreg_sound flags = record { by = λ names world is_world a a_fits. (refl, ap (sign_extended 32 64) (sym (with_nothing a))) }

-- ══ Values from nothing ══

pub select_implicit_def_sound : (x : ℕ) (flags : Flags) (type : Llt) → IsSoundRewrite x (select_implicit_def flags type)
select_implicit_def_sound x flags type = record { by = λ names world is_world v v_fits v_low. (refl, (v_fits, v_low)) }
