-- Rules of the legaliser that make an operation of others are sound.
use Rattle.std.proofs.Common.{◌≡◌, ◌⊎◌, ⊎_elim, inl, inr, ℕ, pos, negsuc, ◌/◌, ◌-ℤ◌, ap₂, ◌+◌, ◌-◌, ◌*◌, ◌%◌, ◌^◌, ◌<◌, ◌≤◌, nat_lt, nat_le, Bool, true, false, cond, ◌||◌, refl, sym, ap, ◌∙◌, subst, arith, lit<}
use Rattle.std.specs.Prelude.{bit_and, bit_or, bit_xor, nat_abs}
use Rattle.std.specs.Int.Bits.{xor_add_and, xor_zero_r}
use Rattle.std.proofs.Math.Nat.{div-add-mod', div-eq_of_lt, mod-add-mod, mod-eq-sub-mod, mod-eq_of_lt, pow-le-pow_right}
use Rattle.std.proofs.lemmas.Bool.{cases_lt}
use Rattle.std.proofs.lemmas.Bool.Decides.{nat_tests}
use Rattle.std.proofs.lemmas.Int.{ints}
use Rattle.std.proofs.lemmas.Nat.{and_mask, and_mod, and_shr, div_below, div-mul-add, or_lt, or_mod, or_shr, pow-add, pow_pos, xor_mod, xor_shr}
use Rattle.gi_llt.specs.Bits.{unsigned, wrapped}
use Rattle.gi_meaning.proofs.Numbers.{nat_abs-neg, signed-high, signed-low}
use Rattle.gi_meaning.specs.Generic.{arithmetic_shift_of, difference_of}
use Rattle.gi_mir.specs.declared.opcode.Opcode.TheVariants as op
use Rattle.gi_rule_values.proofs.Groups.{not_cut, swap_32_is, swap_64_is, swapped}
use Rattle.gi_rule_values.proofs.Ones.{counted_32, counted_64, plainly}
use Rattle.gi_rule_values.proofs.Numbers.{extended_high, extended_low, halves, unless}
use Rattle.gi_mir.specs.declared.operand.Flags.{Flags}
use Rattle.gi_rule_values.specs.Lowering.{lower_abs, lower_bswap_32, lower_bswap_64, lower_ctpop_32, lower_ctpop_64, lower_uadde, narrow_logic}
use Rattle.gi_rule_values.specs.Running.{IsSoundRewrite}

-- ══ A sum with a carry ══

pub either_bit : (p q : Bool) → bit_or (cond p 1 0) (cond q 1 0) ≡ cond (p || q) 1 0
either_bit true true = refl
either_bit true false = refl
either_bit false true = refl
either_bit false false = refl

-- below twice a number the rest is what it is, or less the number
pub once : (m k : ℕ) → m < k + k → ((m < k) × (m % k ≡ m)) ⊎ ((k ≤ m) × (m % k ≡ m - k))
once m k h = ⊎_elim (λ (less : m < k). inl (less, mod-eq_of_lt less)) (λ (more : k ≤ m). inr (more, mod-eq-sub-mod more ∙ mod-eq_of_lt (omega (arith, h, more)))) (cases_lt m k)

carries : (p a b c t d : ℕ) → 2 ≤ p → a < p → b < p → c < 2 → t ≡ (a + b) % p → d ≡ (t + c) % p → nat_le p (a + b + c) ≡ (nat_lt t a || nat_lt d t)
carries p a b c t d some a_fits b_fits c_fits t_is d_is = ⊎_elim
    (λ first. ⊎_elim (λ second. grind (arith, nat_tests, first, second)) (λ second. grind (arith, nat_tests, first, second)) (once (t + c) p (omega (arith, first, t_is))))
    (λ first. ⊎_elim (λ second. grind (arith, nat_tests, first, second)) (λ second. grind (arith, nat_tests, first, second)) (once (t + c) p (omega (arith, first, t_is))))
    (once (a + b) p (omega (arith, a_fits, b_fits)))

pub lower_uadde_sound : (x : ℕ) (flags : Flags) (n : ℕ) → 1 ≤ n → IsSoundRewrite x (lower_uadde flags n)
lower_uadde_sound x flags n some = record {
  by = λ names world is_world a a_fits b b_fits c c_fits.
      let t : ℕ = (a + b) % 2 ^ n in
      let two : 2 ^ 1 ≤ 2 ^ n = pow-le-pow_right (lit< tt) some in
      (refl, (refl, (sym (mod-add-mod (a + b) (2 ^ n) c), ap (λ q. cond q 1 0) (carries (2 ^ n) a b c t ((t + c) % 2 ^ n) two a_fits b_fits c_fits refl refl) ∙ sym (either_bit (nat_lt t a) (nat_lt ((t + c) % 2 ^ n) t)))));
}

-- ══ The size of a number with a sign ══

-- the bits that come in are those of the sign
sign_bits_low : (n a : ℕ) → 1 ≤ n → a < 2 ^ (n - 1) → a < 2 ^ n → arithmetic_shift_of n a (n - 1) ≡ 0
sign_bits_low n a some low fits =
    ap (λ u. wrapped n (u / 2 ^ (n - 1))) (extended_low n (n + (n - 1)) a (omega arith) low fits) ∙ ap (wrapped n) (div-eq_of_lt low) ∙ mod-eq_of_lt (pow_pos n)

sign_bits_high : (n a : ℕ) → 1 ≤ n → 2 ^ (n - 1) ≤ a → a < 2 ^ n → arithmetic_shift_of n a (n - 1) ≡ 2 ^ n - 1
sign_bits_high n a some high fits =
    let half : ℕ = 2 ^ (n - 1) in
    let positive : 0 < half = pow_pos (n - 1) in
    let (two, _, _) = halves n n some (omega arith) in
    let whole : 2 ^ (n + (n - 1)) ≡ 2 ^ n * half = pow-add 2 n (n - 1) in
    let parts : 2 ^ n * half - (2 ^ n - a) ≡ (2 ^ n - 1) * half + (a - half) = around (2 ^ n) half a (omega (arith, fits)) two high fits in
    ap (λ u. wrapped n (u / half)) (extended_high n (n + (n - 1)) a (omega arith) high fits ∙ ap (λ k. k - (2 ^ n - a)) whole ∙ parts)
    ∙ ap (wrapped n) (div-mul-add (2 ^ n - 1) half (a - half) (omega (arith, two, fits))) ∙ mod-eq_of_lt (omega (arith, fits))
  where
    around : (p h a : ℕ) → 0 < p → p ≡ h + h → h ≤ a → a < p → p * h - (p - a) ≡ (p - 1) * h + (a - h)
    around p h a some is high fits = let one : p ≡ (p - 1) + 1 = omega (arith, some) in subst (λ (q : ℕ). q * h - (p - a) ≡ (p - 1) * h + (a - h)) (sym one) (omega (arith, is, high, fits))

-- all bits turned
turned : (n a : ℕ) → a < 2 ^ n → bit_xor a (2 ^ n - 1) ≡ 2 ^ n - 1 - a
turned n a fits = let mask : bit_and a (2 ^ n - 1) ≡ a = and_mask a n ∙ mod-eq_of_lt fits in omega (arith, mask, xor_add_and a (2 ^ n - 1), fits)

-- one more than the turned bits
turned_and_one : (n a : ℕ) → 0 < a → a < 2 ^ n → difference_of n (2 ^ n - 1 - a) (2 ^ n - 1) ≡ 2 ^ n - a
turned_and_one n a some fits =
    let below : pos (2 ^ n - 1 - a) -ℤ pos (2 ^ n - 1) ≡ negsuc (a - 1) = omega (arith, ints, some, fits) in
    let small : (a - 1) % 2 ^ n ≡ a - 1 = mod-eq_of_lt (omega (arith, fits)) in
    ap (unsigned n) below ∙ omega (arith, small, some, fits)

pub lower_abs_sound : (x : ℕ) (flags : Flags) (n : ℕ) → 1 ≤ n → IsSoundRewrite x (lower_abs flags n)
lower_abs_sound x flags n some = record {
  by = λ names world is_world a a_fits.
      let within : nat_le n (n - 1) ≡ false = grind arith in
      ⊎_elim
      (λ (low : a < 2 ^ (n - 1)).
      let still : pos a -ℤ pos 0 ≡ pos a = omega (arith, ints) in
      rw within (
        refl,
        ap (λ z. unsigned n (pos (nat_abs z))) (signed-low n a low)
            ∙ sym (ap (λ s. difference_of n (bit_xor a s) s) (sign_bits_low n a some low a_fits) ∙ ap (λ u. difference_of n u 0) (xor_zero_r a) ∙ ap (unsigned n) still),
      ))
      (λ (high : 2 ^ (n - 1) ≤ a).
      let positive : 0 < a = omega (arith, pow_pos (n - 1), high) in
      rw within (
        refl,
        ap (λ z. unsigned n (pos (nat_abs z))) (signed-high n a high) ∙ ap (λ k. unsigned n (pos k)) (nat_abs-neg (2 ^ n - a)) ∙ mod-eq_of_lt (omega (arith, positive, a_fits))
            ∙ sym (ap (λ s. difference_of n (bit_xor a s) s) (sign_bits_high n a some high a_fits) ∙ ap (λ u. difference_of n u (2 ^ n - 1)) (turned n a a_fits) ∙ turned_and_one n a positive a_fits),
      ))
      (cases_lt a (2 ^ (n - 1)));
}

-- ══ Logic by halves ══

-- a value of two halves that were made of halves
by_halves : (f : ℕ → ℕ → ℕ) (x a b : ℕ) → ((a b k : ℕ) → f a b % 2 ^ k ≡ f (a % 2 ^ k) (b % 2 ^ k)) → ((a b k : ℕ) → f a b / 2 ^ k ≡ f (a / 2 ^ k) (b / 2 ^ k))
    → a < 2 ^ (2 * x) → b < 2 ^ (2 * x) → f a b ≡ f (a % 2 ^ x) (b % 2 ^ x) + 2 ^ x * (f (a / 2 ^ x % 2 ^ x) (b / 2 ^ x % 2 ^ x) + 2 ^ x * 0)
by_halves f x a b low high a_fits b_fits =
    let first = halved a a_fits in
    let second = halved b b_fits in
    let parts : f a b / 2 ^ x * 2 ^ x + f a b % 2 ^ x ≡ f a b = div-add-mod' (f a b) (2 ^ x) in
    sym (parts_turned (2 ^ x) (f a b / 2 ^ x) (f a b % 2 ^ x) (f a b) parts) ∙ ap₂ (λ u v. u + 2 ^ x * (v + 2 ^ x * 0)) (low a b x) (high a b x ∙ ap₂ f (sym first) (sym second))
  where
    halved : (c : ℕ) → c < 2 ^ (2 * x) → c / 2 ^ x % 2 ^ x ≡ c / 2 ^ x
    halved c fits =
        let two : 2 * x ≡ x + x = omega arith in
        let square : 2 ^ (2 * x) ≡ 2 ^ x * 2 ^ x = ap (λ k. 2 ^ k) two ∙ pow-add 2 x x in
        mod-eq_of_lt (div_below c (2 ^ x) (2 ^ x) (pow_pos x) (subst (λ (k : ℕ). c < k) square fits))

    parts_turned : (p h l v : ℕ) → h * p + l ≡ v → l + p * (h + p * 0) ≡ v
    parts_turned p h l v is = omega (arith, is)

pub narrow_and_sound : (x : ℕ) (flags : Flags) → IsSoundRewrite x (narrow_logic op.GenericAnd flags x)
narrow_and_sound x flags = record {
  by = λ names world is_world a a_fits b b_fits. (refl, by_halves bit_and x a b and_mod and_shr a_fits b_fits);
}

pub narrow_xor_sound : (x : ℕ) (flags : Flags) → IsSoundRewrite x (narrow_logic op.GenericXor flags x)
narrow_xor_sound x flags = record {
  by = λ names world is_world a a_fits b b_fits. (refl, by_halves bit_xor x a b xor_mod xor_shr a_fits b_fits);
}

pub narrow_or_sound : (x : ℕ) (flags : Flags) → IsSoundRewrite x (narrow_logic op.GenericOr flags x)
narrow_or_sound x flags = record {
  by = λ names world is_world a a_fits b b_fits.
      let is = by_halves bit_or x a b or_mod or_shr a_fits b_fits in
      (refl, unless _ (2 * x) (bit_or a b) _ (subst (λ (k : ℕ). k < 2 ^ (2 * x)) is (or_lt (2 * x) a b a_fits b_fits)) is);
}

-- ══ Bytes turned around ══

pub lower_bswap_32_sound : (x : ℕ) (flags : Flags) → IsSoundRewrite x (lower_bswap_32 flags)
lower_bswap_32_sound x flags = record {
  by = λ names world is_world a a_fits. (
    refl,
    sym (ap (λ v. bit_or (bit_and (v / 2 ^ 16) 65535) (wrapped 32 (bit_and v 65535 * 2 ^ 16))) (not_cut 32 8 16711935 a (lit< tt))
        ∙ not_cut 32 16 65535 (swapped 8 16711935 a) (lit< tt) ∙ swap_32_is a a_fits),
  );
}

pub lower_bswap_64_sound : (x : ℕ) (flags : Flags) → IsSoundRewrite x (lower_bswap_64 flags)
lower_bswap_64_sound x flags = record {
  by = λ names world is_world a a_fits.
      let first : ℕ = swapped 8 71777214294589695 a in (
        refl,
        sym (ap (λ v. turned_64 32 4294967295 (turned_64 16 281470681808895 v)) (not_cut 64 8 71777214294589695 a (lit< tt))
            ∙ ap (turned_64 32 4294967295) (not_cut 64 16 281470681808895 first (lit< tt))
            ∙ not_cut 64 32 4294967295 (swapped 16 281470681808895 first) (lit< tt) ∙ swap_64_is a a_fits),
      );
}
  where
    turned_64 : (k m v : ℕ) → ℕ
    turned_64 k m v = bit_or (bit_and (v / 2 ^ k) m) (wrapped 64 (bit_and v m * 2 ^ k))

-- ══ Ones ══

pub lower_ctpop_32_sound : (x : ℕ) (flags : Flags) → IsSoundRewrite x (lower_ctpop_32 flags)
lower_ctpop_32_sound x flags = record {
  by = λ names world is_world a a_fits.
      (refl, sym (ap (λ v. wrapped 32 (v * 16843009) / 2 ^ 24) (plainly 32 1431655765 858993459 252645135 a a_fits (lit< tt)) ∙ counted_32 a a_fits));
}

pub lower_ctpop_64_sound : (x : ℕ) (flags : Flags) → IsSoundRewrite x (lower_ctpop_64 flags)
lower_ctpop_64_sound x flags = record {
  by = λ names world is_world a a_fits.
      (refl, sym (ap (λ v. wrapped 64 (v * 72340172838076673) / 2 ^ 56) (plainly 64 6148914691236517205 3689348814741910323 1085102592571150095 a a_fits (lit< tt)) ∙ counted_64 a a_fits));
}
