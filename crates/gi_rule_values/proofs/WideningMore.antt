-- More rules of the legaliser that widen are sound.
use Rattle.std.proofs.Common.{◌≡◌, ⊎_elim, ℕ, zero, suc, pos, ◌-ℤ◌, ◌+◌, ◌-◌, ◌*◌, ◌/◌, ◌%◌, ◌^◌, ◌<◌, ◌≤◌, ◌==◌, nat_lt, nat_le, Bool, true, false, cond, refl, sym, ap, ap₂, ◌∙◌, arith, ℤ}
use Rattle.std.specs.Prelude.{bit_and, bit_or, bit_xor, int_le, int_lt, int_rem}
use Rattle.std.proofs.Math.Nat.{div-le_self, mod-eq_of_lt, mod-le}
use Rattle.std.proofs.lemmas.Bool.{cases_eq, cases_lt, eq-eqb}
use Rattle.std.proofs.lemmas.Bool.Decides.{nat_tests}
use Rattle.std.proofs.lemmas.Nat.{and_mod, div-mul-add, mod-pow-add, mod_below, or_mod, pow-add, pow_pos, xor_mod}
use Rattle.gi_llt.specs.Bits.{sign_extended, signed, unsigned, wrapped}
use Rattle.gi_llt.specs.declared.Llt.{Llt}
use Rattle.gi_meaning.proofs.Numbers.{unsigned_below}
use Rattle.gi_meaning.specs.Generic.{arithmetic_shift_of, bit_of, difference_of, ones, overflows_division}
use Rattle.gi_mir.specs.declared.operand.Flags.{Flags}
use Rattle.gi_mir.specs.declared.operand.Pred.{Pred}
use Rattle.gi_mir.specs.declared.operand.Pred.TheVariants.{Eq, Ne, Ugt, Uge, Ult, Ule, Sgt, Sge, Slt, Sle}
use Rattle.gi_mir.specs.declared.opcode.Opcode.TheVariants as op
use Rattle.gi_rule_values.specs.Running.{IsSoundRewrite}
use Rattle.gi_rule_values.specs.Widening.{widen_and, widen_ashr, widen_cast, widen_condition, widen_ctpop, widen_icmp, widen_icmp_result, widen_implicit_def, widen_mul, widen_or, widen_select, widen_sext_inreg, widen_shl, widen_srem, widen_sub, widen_udiv, widen_urem, widen_xor}
use Rattle.gi_rule_values.proofs.Artifacts.{may_extend, may_widen}
use Rattle.gi_rule_values.proofs.Numbers.{below_power, below_wider, difference_plain, free_given, low_again, low_of_low, low_product, low_sum, signed_extended, unless, unless_undefined, unsigned_low}
use Rattle.gi_rule_values.proofs.Ones.{ones_fit}
use Rattle.gi_rule_values.proofs.Widening.{not_least, zero_extended}

cut_fits : (n u : ℕ) → wrapped n u < 2 ^ n
cut_fits n u = mod_below u (2 ^ n) (pow_pos n)

-- ══ Sums, differences and products ══

low_difference : (n p q a b : ℕ) → wrapped n p ≡ wrapped n a → wrapped n q ≡ wrapped n b → difference_of n p q ≡ difference_of n a b
low_difference n p q a b left right =
    difference_plain n p q ∙ ap (λ k. (p + (2 ^ n - k)) % 2 ^ n) right ∙ low_sum n p (2 ^ n - b % 2 ^ n) a (2 ^ n - b % 2 ^ n) left refl ∙ sym (difference_plain n a b)

pub widen_sub_sound : (x : ℕ) (flags : Flags) (n w : ℕ) → n < w → IsSoundRewrite x (widen_sub flags n w)
widen_sub_sound x flags n w wider = record {
  by = λ names world is_world a a_fits b b_fits.
      let less : nat_lt n w ≡ true = grind arith in
      rw less (λ p p_fits p_low. rw less (λ q q_fits q_low. (
        refl,
        unless _ n (difference_of n a b) (wrapped n (difference_of w p q)) (cut_fits n (difference_of w p q))
            (sym (unsigned_low w n (pos p -ℤ pos q) (omega (arith, wider)) ∙ low_difference n p q a b p_low q_low)),
      )));
}

pub widen_mul_sound : (x : ℕ) (flags : Flags) (n w : ℕ) → n < w → IsSoundRewrite x (widen_mul flags n w)
widen_mul_sound x flags n w wider = record {
  by = λ names world is_world a a_fits b b_fits.
      let less : nat_lt n w ≡ true = grind arith in
      rw less (λ p p_fits p_low. rw less (λ q q_fits q_low. (
        refl,
        unless _ n (wrapped n (a * b)) (wrapped n (wrapped w (p * q))) (cut_fits n (wrapped w (p * q)))
            (sym (low_of_low n w (p * q) (omega (arith, wider)) ∙ low_product n p q a b p_low q_low)),
      )));
}

-- ══ Logic ══

low_logic : (f : ℕ → ℕ → ℕ) (n p q a b : ℕ) → ((a b k : ℕ) → f a b % 2 ^ k ≡ f (a % 2 ^ k) (b % 2 ^ k)) → a < 2 ^ n → b < 2 ^ n → wrapped n p ≡ wrapped n a → wrapped n q ≡ wrapped n b → f a b ≡ wrapped n (f p q)
low_logic f n p q a b low a_fits b_fits left right = sym (low p q n ∙ ap₂ f (left ∙ mod-eq_of_lt a_fits) (right ∙ mod-eq_of_lt b_fits))

pub widen_and_sound : (x : ℕ) (flags : Flags) (n w : ℕ) → n < w → IsSoundRewrite x (widen_and flags n w)
widen_and_sound x flags n w wider = record {
  by = λ names world is_world a a_fits b b_fits.
      let less : nat_lt n w ≡ true = grind arith in
      rw less (λ p p_fits p_low. rw less (λ q q_fits q_low. (refl, low_logic bit_and n p q a b and_mod a_fits b_fits p_low q_low)));
}

pub widen_xor_sound : (x : ℕ) (flags : Flags) (n w : ℕ) → n < w → IsSoundRewrite x (widen_xor flags n w)
widen_xor_sound x flags n w wider = record {
  by = λ names world is_world a a_fits b b_fits.
      let less : nat_lt n w ≡ true = grind arith in
      rw less (λ p p_fits p_low. rw less (λ q q_fits q_low. (refl, low_logic bit_xor n p q a b xor_mod a_fits b_fits p_low q_low)));
}

pub widen_or_sound : (x : ℕ) (flags : Flags) (n w : ℕ) → n < w → IsSoundRewrite x (widen_or flags n w)
widen_or_sound x flags n w wider = record {
  by = λ names world is_world a a_fits b b_fits.
      let less : nat_lt n w ≡ true = grind arith in
      rw less (λ p p_fits p_low. rw less (λ q q_fits q_low.
      (refl, unless _ n (bit_or a b) (wrapped n (bit_or p q)) (cut_fits n (bit_or p q)) (low_logic bit_or n p q a b or_mod a_fits b_fits p_low q_low))));
}

-- ══ Shifts ══

-- an amount and two widths
pub data Amount (n w k : ℕ) : Type 0 where
  Within : nat_le n k ≡ false → nat_le w k ≡ false → Amount n w k
  Between : nat_le n k ≡ true → nat_le w k ≡ false → Amount n w k
  Beyond : nat_le n k ≡ true → nat_le w k ≡ true → Amount n w k

pub amount_is : (n w k : ℕ) → n < w → Amount n w k
amount_is n w k wider = ⊎_elim (λ (small : k < n). Within (grind arith) (grind arith))
    (λ (great : n ≤ k). ⊎_elim (λ (small : k < w). Between (grind arith) (grind arith)) (λ (most : w ≤ k). Beyond (grind arith) (grind arith)) (cases_lt k w)) (cases_lt k n)

pub widen_shl_sound : (x : ℕ) (flags : Flags) (n w : ℕ) → n < w → IsSoundRewrite x (widen_shl flags n w)
widen_shl_sound x flags n w wider = record {
  by = λ names world is_world a a_fits k k_fits.
      let less : nat_lt n w ≡ true = grind arith in
      rw less (λ p p_fits p_low.
      let shifted : ℕ = wrapped w (p * 2 ^ k) in
      let low : wrapped n shifted ≡ wrapped n (a * 2 ^ k) = low_of_low n w (p * 2 ^ k) (omega (arith, wider)) ∙ low_product n p (2 ^ k) a (2 ^ k) p_low refl in
      elim (amount_is n w k wider) [
        | Within within below ↦ (rw (within, below) (refl, unless _ n (wrapped n (a * 2 ^ k)) (wrapped n shifted) (cut_fits n shifted) (sym low)))
        | Between beyond below ↦ (rw (beyond, below) (refl, free_given n (wrapped n shifted) (cut_fits n shifted)))
        | Beyond beyond above ↦ (rw (beyond, above) (λ v v_fits v_low. (refl, free_given n (wrapped n v) (cut_fits n v))))
      ]);
}

-- the low bits of what was shifted with its sign
low_shift : (n w a k : ℕ) → 1 ≤ n → n < w → a < 2 ^ n → wrapped n (arithmetic_shift_of w (sign_extended n w a) k) ≡ arithmetic_shift_of n a k
low_shift n w a k some wider fits =
    let wide : ℕ = sign_extended n w a in
    let z = signed n a in
    let value : ℕ = unsigned (w + k) z in
    let wide_is : sign_extended w (w + k) wide ≡ value =
    ap (λ u. unsigned (w + k) (signed w u)) (mod-eq_of_lt (unsigned_below w (signed n (wrapped n a)))) ∙ ap (unsigned (w + k)) (signed_extended n w a some (omega (arith, wider)) fits) in
    let narrow_is : sign_extended n (n + k) a ≡ value % 2 ^ (n + k) = ap (λ u. unsigned (n + k) (signed n u)) (mod-eq_of_lt fits) ∙ sym (unsigned_low (w + k) (n + k) z (omega (arith, wider))) in
    let parts : value % 2 ^ (n + k) / 2 ^ k ≡ value / 2 ^ k % 2 ^ n =
    ap (λ u. u / 2 ^ k) (mod-pow-add value n k) ∙ div-mul-add (value / 2 ^ k % 2 ^ n) (2 ^ k) (value % 2 ^ k) (mod_below value (2 ^ k) (pow_pos k)) in
    low_of_low n w (sign_extended w (w + k) wide / 2 ^ k) (omega (arith, wider)) ∙ ap (λ u. wrapped n (u / 2 ^ k)) wide_is
    ∙ sym (ap (λ u. wrapped n (u / 2 ^ k)) narrow_is ∙ ap (wrapped n) parts ∙ low_of_low n n (value / 2 ^ k) (omega arith))

pub widen_ashr_sound : (x : ℕ) (flags : Flags) (n w : ℕ) → 1 ≤ n → n < w → IsSoundRewrite x (widen_ashr flags n w)
widen_ashr_sound x flags n w some wider = record {
  by = λ names world is_world a a_fits k k_fits.
      let shifted : ℕ = arithmetic_shift_of w (sign_extended n w a) k in
      elim (amount_is n w k wider) [
        | Within within below ↦ (rw (within, below) (refl, unless _ n (arithmetic_shift_of n a k) (wrapped n shifted) (cut_fits n shifted) (sym (low_shift n w a k some wider a_fits))))
        | Between beyond below ↦ (rw (beyond, below) (refl, free_given n (wrapped n shifted) (cut_fits n shifted)))
        | Beyond beyond above ↦ (rw (beyond, above) (λ v v_fits v_low. (refl, free_given n (wrapped n v) (cut_fits n v))))
      ];
}

-- ══ Quotients and remainders ══

pub widen_udiv_sound : (x : ℕ) (flags : Flags) (n w : ℕ) → n < w → IsSoundRewrite x (widen_udiv flags n w)
widen_udiv_sound x flags n w wider = record {
  by = λ names world is_world a a_fits b b_fits. ⊎_elim
      (λ (zero : b ≡ 0). let is : (b == 0) ≡ true = eq-eqb b 0 zero in rw is tt)
      (λ (other : b ≡ 0 → ⊥).
      let is : (b == 0) ≡ false = grind (arith, nat_tests, other) in
      let fits : a / b < 2 ^ n = omega (arith, a_fits, div-le_self a b) in
      rw is (refl, unless _ n (a / b) (wrapped n (a / b)) (cut_fits n (a / b)) (sym (mod-eq_of_lt fits))))
      (cases_eq b 0);
}

pub widen_urem_sound : (x : ℕ) (flags : Flags) (n w : ℕ) → n < w → IsSoundRewrite x (widen_urem flags n w)
widen_urem_sound x flags n w wider = record {
  by = λ names world is_world a a_fits b b_fits. ⊎_elim
      (λ (zero : b ≡ 0). let is : (b == 0) ≡ true = eq-eqb b 0 zero in rw is tt)
      (λ (other : b ≡ 0 → ⊥).
      let is : (b == 0) ≡ false = grind (arith, nat_tests, other) in
      rw is (refl, sym (mod-eq_of_lt (omega (arith, a_fits, mod-le a b)))))
      (cases_eq b 0);
}

pub widen_srem_sound : (x : ℕ) (flags : Flags) (n w : ℕ) → 1 ≤ n → n < w → IsSoundRewrite x (widen_srem flags n w)
widen_srem_sound x flags n w some wider = record {
  by = λ names world is_world a a_fits b b_fits.
      let within : n ≤ w = omega (arith, wider) in
      let first = signed_extended n w a some within a_fits in
      let second = signed_extended n w b some within b_fits in
      let none = zero_extended n w b some wider b_fits in
      let inside = not_least n w a some wider a_fits in
      let z = int_rem (signed n a) (signed n b) in
      ⊎_elim
      (λ (zero : b ≡ 0).
      let is : (b == 0) ≡ true = eq-eqb b 0 zero in
      rw (first, second, none, inside, is) tt)
      (λ (other : b ≡ 0 → ⊥).
      let is : (b == 0) ≡ false = grind (arith, nat_tests, other) in
      rw (first, second, none, inside, is) (refl, unless_undefined (overflows_division n a b) false n (unsigned n z) (wrapped n (unsigned w z)) (cut_fits n (unsigned w z)) (sym (unsigned_low w n z within))))
      (cases_eq b 0);
}

-- ══ Bits and choices ══

no_ones : (k : ℕ) → ones k 0 ≡ 0
no_ones zero = refl
no_ones (suc k) = omega (arith, no_ones k)

ones_wider : (k n a : ℕ) → a < 2 ^ n → ones (n + k) a ≡ ones n a
ones_wider k zero a fits = let none : a ≡ 0 = omega (arith, fits) in ap (ones (zero + k)) none ∙ no_ones (zero + k)
ones_wider k (suc n) a fits =
    let more : suc n + k ≡ suc (n + k) = omega arith in
    let one : suc n ≡ n + 1 = omega arith in
    let twice : 2 ^ suc n ≡ 2 ^ n * 2 = ap (λ j. 2 ^ j) one ∙ pow-add 2 n 1 in
    ap (λ j. ones j a) more ∙ ap (λ u. a % 2 + u) (ones_wider k n (a / 2) (omega (arith, fits, twice)))

pub widen_ctpop_sound : (x : ℕ) (flags : Flags) (n w : ℕ) → n < w → IsSoundRewrite x (widen_ctpop flags n w)
widen_ctpop_sound x flags n w wider = record {
  by = λ names world is_world a a_fits.
      let parts : n + (w - n) ≡ w = omega (arith, wider) in
      let same_ones : ones w a ≡ ones n a = ap (λ j. ones j a) (sym parts) ∙ ones_wider (w - n) n a a_fits in
      (refl, sym (ap (wrapped n) same_ones ∙ mod-eq_of_lt (omega (arith, ones_fit n a, below_power n))));
}

pub widen_sext_inreg_sound : (x : ℕ) (flags : Flags) (n w k : ℕ) → k ≤ n → n < w → IsSoundRewrite x (widen_sext_inreg flags n w k)
widen_sext_inreg_sound x flags n w k within wider = record {
  by = λ names world is_world a a_fits.
      let less : nat_lt n w ≡ true = grind arith in
      rw less (λ p p_fits p_low.
      (refl, sym (unsigned_low w n (signed k (wrapped k (wrapped k p))) (omega (arith, wider)) ∙ ap (λ v. unsigned n (signed k (wrapped k v))) (low_again k n p a within p_low))));
}

either_cut : (t : Bool) (n p q a b : ℕ) → a < 2 ^ n → b < 2 ^ n → wrapped n p ≡ wrapped n a → wrapped n q ≡ wrapped n b → cond t b a ≡ wrapped n (cond t q p)
either_cut true n p q a b a_fits b_fits left right = sym (right ∙ mod-eq_of_lt b_fits)
either_cut false n p q a b a_fits b_fits left right = sym (left ∙ mod-eq_of_lt a_fits)

pub widen_select_sound : (x : ℕ) (flags : Flags) (c n w : ℕ) → n < w → IsSoundRewrite x (widen_select flags c n w)
widen_select_sound x flags c n w wider = record {
  by = λ names world is_world t t_fits a a_fits b b_fits.
      let less : nat_lt n w ≡ true = grind arith in
      rw less (λ p p_fits p_low. rw less (λ q q_fits q_low. (refl, either_cut (t == 0) n p q a b a_fits b_fits p_low q_low)));
}

pub widen_condition_sound : (x : ℕ) (flags : Flags) (type : Llt) → IsSoundRewrite x (widen_condition flags x type)
widen_condition_sound x flags type = record { by = λ names world is_world t t_fits a a_fits b b_fits. (refl, refl) }

-- ══ Comparisons ══

one_bit : (t : Bool) → bit_of t ≡ wrapped 1 (bit_of t)
one_bit true = refl
one_bit false = refl

pub widen_icmp_result_sound : (x : ℕ) (flags : Flags) (pred : Pred) (type : Llt) → IsSoundRewrite x (widen_icmp_result flags pred type x)
widen_icmp_result_sound x flags pred type = record { by = λ names world is_world a a_fits b b_fits. (refl, one_bit _) }

-- what looks at signs sees the same in more bits
signs_kept : (f : ℤ → ℤ → Bool) (n w a b : ℕ) → 1 ≤ n → n < w → a < 2 ^ n → b < 2 ^ n → bit_of (f (signed n a) (signed n b)) ≡ bit_of (f (signed w (sign_extended n w a)) (signed w (sign_extended n w b)))
signs_kept f n w a b some wider a_fits b_fits =
    ap₂ (λ u v. bit_of (f u v)) (sym (signed_extended n w a some (omega (arith, wider)) a_fits)) (sym (signed_extended n w b some (omega (arith, wider)) b_fits))

pub widen_icmp_sound : (x : ℕ) (flags : Flags) (pred : Pred) (n w k : ℕ) → 1 ≤ n → n < w → IsSoundRewrite x (widen_icmp flags pred n w k)
widen_icmp_sound x flags Eq n w k some wider = record { by = λ names world is_world a a_fits b b_fits. (refl, refl) }
widen_icmp_sound x flags Ne n w k some wider = record { by = λ names world is_world a a_fits b b_fits. (refl, refl) }
widen_icmp_sound x flags Ugt n w k some wider = record { by = λ names world is_world a a_fits b b_fits. (refl, refl) }
widen_icmp_sound x flags Uge n w k some wider = record { by = λ names world is_world a a_fits b b_fits. (refl, refl) }
widen_icmp_sound x flags Ult n w k some wider = record { by = λ names world is_world a a_fits b b_fits. (refl, refl) }
widen_icmp_sound x flags Ule n w k some wider = record { by = λ names world is_world a a_fits b b_fits. (refl, refl) }
widen_icmp_sound x flags Sgt n w k some wider = record { by = λ names world is_world a a_fits b b_fits. (refl, signs_kept (λ u v. int_lt v u) n w a b some wider a_fits b_fits) }
widen_icmp_sound x flags Sge n w k some wider = record { by = λ names world is_world a a_fits b b_fits. (refl, signs_kept (λ u v. int_le v u) n w a b some wider a_fits b_fits) }
widen_icmp_sound x flags Slt n w k some wider = record { by = λ names world is_world a a_fits b b_fits. (refl, signs_kept (λ u v. int_lt u v) n w a b some wider a_fits b_fits) }
widen_icmp_sound x flags Sle n w k some wider = record { by = λ names world is_world a a_fits b b_fits. (refl, signs_kept (λ u v. int_le u v) n w a b some wider a_fits b_fits) }

-- ══ Casts ══

pub widen_anyext_sound : (x : ℕ) (flags : Flags) (m k w : ℕ) → m < k → k < w → IsSoundRewrite x (widen_cast op.GenericAnyExtend flags m k w)
widen_anyext_sound x flags m k w wider cut = record {
  by = λ names world is_world a a_fits.
      let less : nat_lt m w ≡ true = grind arith in
      rw less (λ v v_fits v_low.
      (refl, may_widen m k a a (wrapped k v) (cut_fits k v) (sym (mod-eq_of_lt a_fits)) (low_of_low m k v (omega (arith, wider)) ∙ v_low) wider));
}

pub widen_zext_sound : (x : ℕ) (flags : Flags) (m k w : ℕ) → m < k → k < w → IsSoundRewrite x (widen_cast op.GenericZeroExtend flags m k w)
widen_zext_sound x flags m k w wider cut = record {
  by = λ names world is_world a a_fits. (refl, may_extend _ m k a (wrapped k a) wider a_fits (mod-eq_of_lt (below_wider m k a (omega (arith, wider)) a_fits)));
}

pub widen_sext_sound : (x : ℕ) (flags : Flags) (m k w : ℕ) → m < k → k < w → IsSoundRewrite x (widen_cast op.GenericSignExtend flags m k w)
widen_sext_sound x flags m k w wider cut = record {
  by = λ names world is_world a a_fits. (refl, sym (unsigned_low w k (signed m (wrapped m a)) (omega (arith, cut))));
}

pub widen_implicit_def_sound : (x : ℕ) (flags : Flags) (n w : ℕ) → IsSoundRewrite x (widen_implicit_def flags n w)
widen_implicit_def_sound x flags n w = record {
  by = λ names world is_world v v_fits v_low. (refl, free_given n (wrapped n v) (cut_fits n v));
}
