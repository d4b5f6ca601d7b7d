-- Rules of the legaliser that work on halves are sound.
use Rattle.gi_rule_values.proofs.Groups.{reversed_halves}
use Rattle.gi_rule_values.specs.Artifacts.{trunc_of_merge}
use Rattle.gi_refine.proofs.Basics.{not_below_itself}
use Rattle.std.proofs.Common.{◌≡◌, ◌⊎◌, ⊎_elim, inl, inr, ℕ, zero, suc, pos, negsuc, ◌-ℤ◌, ◌+◌, ◌-◌, ◌*◌, ◌/◌, ◌%◌, ◌^◌, ◌<◌, ◌≤◌, ◌==◌, nat_lt, nat_le, Bool, true, false, cond, [], ◌∷◌, refl, sym, ap, ap₂, ◌∙◌, subst, arith}
use Rattle.std.proofs.Math.Nat.{add-mul-mod_self_left, add-mul-mod_self_right, div-add-mod', mod-eq_of_lt, mod-one}
use Rattle.std.proofs.lemmas.Bool.{cases_lt}
use Rattle.std.proofs.lemmas.Bool.Decides.{nat_tests}
use Rattle.std.proofs.lemmas.Nat.{div-mul-add, div_below, mod_below, mul-add-lt, pow-add, pow_pos}
use Rattle.gi_llt.specs.Bits.{unsigned, wrapped}
use Rattle.gi_meaning.proofs.Numbers.{unsigned_below}
use Rattle.gi_meaning.specs.Generic.{bit_of, difference_of, byte_swap_of}
use Rattle.gi_mir.specs.declared.opcode.Opcode.TheVariants as op
use Rattle.gi_mir.specs.declared.operand.Flags.{Flags}
use Rattle.gi_rule_values.specs.Lowering.{narrow_add, narrow_anyext, narrow_constant, narrow_implicit_def, narrow_select, narrow_sub, narrow_zext, narrow_bswap}
use Rattle.gi_rule_values.specs.Running.{IsSoundRewrite, MayGive}
use Rattle.gi_rule_values.proofs.Artifacts.{may_extend, may_widen}
use Rattle.gi_rule_values.proofs.LoweringMore.{differs}
use Rattle.gi_rule_values.proofs.Numbers.{difference_plain, free_given, unless, low_of_low, same}

-- ══ Two halves ══

square : (x : ℕ) → 2 ^ (2 * x) ≡ 2 ^ x * 2 ^ x
square x = let two : 2 * x ≡ x + x = omega arith in ap (λ k. 2 ^ k) two ∙ pow-add 2 x x

-- a value of two halves
pair : (x l h : ℕ) → ℕ
pair x l h = l + 2 ^ x * (h + 2 ^ x * 0)

pair_is : (p l h : ℕ) → l + p * (h + p * 0) ≡ h * p + l
pair_is p l h = omega arith

pair_fits : (x l h : ℕ) → l < 2 ^ x → h < 2 ^ x → l + 2 ^ x * (h + 2 ^ x * 0) < 2 ^ (2 * x)
pair_fits x l h low high = omega (arith, pair_is (2 ^ x) l h, square x, mul-add-lt h (2 ^ x) l (2 ^ x) high low)

-- the halves of a value that was made of them
high_half : (x v : ℕ) → v < 2 ^ (2 * x) → v / 2 ^ x % 2 ^ x ≡ v / 2 ^ x
high_half x v fits = mod-eq_of_lt (div_below v (2 ^ x) (2 ^ x) (pow_pos x) (subst (λ (k : ℕ). v < k) (square x) fits))

halved : (x v : ℕ) → v < 2 ^ (2 * x) → v % 2 ^ x + 2 ^ x * (v / 2 ^ x % 2 ^ x + 2 ^ x * 0) ≡ v
halved x v fits = pair_is (2 ^ x) (v % 2 ^ x) (v / 2 ^ x % 2 ^ x) ∙ ap (λ h. h * 2 ^ x + v % 2 ^ x) (high_half x v fits) ∙ div-add-mod' v (2 ^ x)

-- ══ Sums ══

-- a sum of two halves is its low half and a carry
carry_of : (p s : ℕ) → s < p + p → s % p + bit_of (nat_le p s) * p ≡ s
carry_of p s below = ⊎_elim
    (λ (less : s < p). let none : nat_le p s ≡ false = grind arith in rw none (omega (arith, mod-eq_of_lt less)))
    (λ (most : p ≤ s).
    let some : nat_le p s ≡ true = grind arith in
    let back : s ≡ s - p + 1 * p = omega (arith, most) in
    let rest : s % p ≡ s - p = ap (λ t. t % p) back ∙ add-mul-mod_self_right (s - p) 1 p ∙ mod-eq_of_lt (omega (arith, most, below)) in
    rw some (omega (arith, rest, most)))
    (cases_lt s p)

-- the sum of two values by their halves, of which q is what is too much
sum_of_halves : (p al ah bl bh c q lo hi : ℕ) → lo + c * p ≡ al + bl → hi + q * p ≡ ah + bh + c → ah * p + al + (bh * p + bl) ≡ hi * p + lo + q * (p * p)
sum_of_halves p al ah bl bh c q lo hi low high =
    let times : (hi + q * p) * p ≡ (ah + bh + c) * p = ap (λ t. t * p) high in omega (arith, low, spread_three ah bh c, spread_two hi q, times)
  where
    spread_three : (u v w : ℕ) → (u + v + w) * p ≡ u * p + v * p + w * p
    spread_three u v w = omega arith

    spread_two : (u v : ℕ) → (u + v * p) * p ≡ u * p + v * (p * p)
    spread_two u v = omega arith

sum_by_halves : (x a b : ℕ) → a < 2 ^ (2 * x) → b < 2 ^ (2 * x)
    → wrapped (2 * x) (a + b) ≡ (a % 2 ^ x + b % 2 ^ x + 0) % 2 ^ x + 2 ^ x * ((a / 2 ^ x % 2 ^ x + b / 2 ^ x % 2 ^ x + bit_of (nat_le (2 ^ x) (a % 2 ^ x + b % 2 ^ x + 0))) % 2 ^ x + 2 ^ x * 0)
sum_by_halves x a b a_fits b_fits =
    let p : ℕ = 2 ^ x in
    let s : ℕ = a % p + b % p + 0 in
    let c : ℕ = bit_of (nat_le p s) in
    let t : ℕ = a / p % p + b / p % p + c in
    let positive : 0 < p = pow_pos x in
    let low : s % p + c * p ≡ a % p + b % p = carry_of p s (omega (arith, mod_below a p positive, mod_below b p positive)) ∙ omega arith in
    let high : t % p + t / p * p ≡ a / p + b / p + c = sym (omega (arith, div-add-mod' t p)) ∙ ap₂ (λ u v. u + v + c) (high_half x a a_fits) (high_half x b b_fits) in
    let whole : a + b ≡ t % p * p + s % p + t / p * (p * p) =
    ap₂ (λ u v. u + v) (sym (div-add-mod' a p)) (sym (div-add-mod' b p)) ∙ sum_of_halves p (a % p) (a / p) (b % p) (b / p) c (t / p) (s % p) (t % p) low high in
    let fits : t % p * p + s % p < p * p = mul-add-lt (t % p) p (s % p) p (mod_below t p positive) (mod_below s p positive) in
    ap (λ k. (a + b) % k) (square x) ∙ ap (λ k. k % (p * p)) whole ∙ add-mul-mod_self_right (t % p * p + s % p) (t / p) (p * p) ∙ mod-eq_of_lt fits ∙ sym (pair_is p (s % p) (t % p))

pub narrow_add_sound : (x : ℕ) (flags : Flags) → IsSoundRewrite x (narrow_add flags x)
narrow_add_sound x flags = record {
  by = λ names world is_world a a_fits b b_fits.
      let is = sum_by_halves x a b a_fits b_fits in
      (refl, unless _ (2 * x) (wrapped (2 * x) (a + b)) _ (subst (λ (k : ℕ). k < 2 ^ (2 * x)) is (mod_below (a + b) (2 ^ (2 * x)) (pow_pos (2 * x)))) is);
}

-- ══ Differences ══

low_borrow : (x a b : ℕ) → a < 2 ^ x → b < 2 ^ x → difference_of x a (b + 0) + b ≡ a + bit_of (nat_lt a (b + 0)) * 2 ^ x
low_borrow x a b a_fits b_fits = ⊎_elim
    (λ f. let less : nat_lt a (b + 0) ≡ true = grind (arith, f) in rw less (omega (arith, f, b_fits)))
    (λ f. let more : nat_lt a (b + 0) ≡ false = grind (arith, f) in rw more (omega (arith, f)))
    (differs x a (b + 0) a_fits (omega (arith, b_fits)))

borrows : (n a b : ℕ) → a < 2 ^ n → b ≤ 2 ^ n → (difference_of n a b + b ≡ a) ⊎ (difference_of n a b + b ≡ a + 2 ^ n)
borrows n a b a_fits b_fits = ⊎_elim (λ f. inr (omega (arith, f, b_fits))) (λ f. inl (omega (arith, f))) (differs n a b a_fits b_fits)

-- two differences of halves are one
joined : (p al ah bl bh c l h d : ℕ) → l < p → h < p → d < p * p → l + bl ≡ al + c * p → (h + (bh + c) ≡ ah) ⊎ (h + (bh + c) ≡ ah + p)
    → (d + (bh * p + bl) ≡ ah * p + al) ⊎ (d + (bh * p + bl) ≡ ah * p + al + p * p) → d ≡ h * p + l
joined p al ah bl bh c l h d l_fits h_fits d_fits low high whole =
    let fits : h * p + l < p * p = mul-add-lt h p l p h_fits l_fits in
    ⊎_elim
    (λ (e : h + (bh + c) ≡ ah). let times : h * p + (bh * p + c * p) ≡ ah * p = spread ∙ ap (λ k. k * p) e in
    ⊎_elim (λ w. omega (arith, low, times, w)) (λ w. omega (arith, low, times, w, d_fits, fits)) whole)
    (λ (e : h + (bh + c) ≡ ah + p). let times : h * p + (bh * p + c * p) ≡ ah * p + p * p = spread ∙ ap (λ k. k * p) e ∙ omega arith in
    ⊎_elim (λ w. omega (arith, low, times, w, d_fits, fits)) (λ w. omega (arith, low, times, w)) whole)
    high
  where
    spread : h * p + (bh * p + c * p) ≡ (h + (bh + c)) * p
    spread = omega arith

bit_fits : (t : Bool) → bit_of t ≤ 1
bit_fits true = omega arith
bit_fits false = omega arith

-- the difference of two values by their halves
difference_by_halves : (x a b : ℕ) → a < 2 ^ (2 * x) → b < 2 ^ (2 * x)
    → difference_of (2 * x) a b ≡ difference_of x (a % 2 ^ x) (b % 2 ^ x + 0) + 2 ^ x * (difference_of x (a / 2 ^ x % 2 ^ x) (b / 2 ^ x % 2 ^ x + bit_of (nat_lt (a % 2 ^ x) (b % 2 ^ x + 0))) + 2 ^ x * 0)
difference_by_halves x a b a_fits b_fits =
    let p : ℕ = 2 ^ x in
    let c : ℕ = bit_of (nat_lt (a % p) (b % p + 0)) in
    let l : ℕ = difference_of x (a % p) (b % p + 0) in
    let h : ℕ = difference_of x (a / p % p) (b / p % p + c) in
    let d : ℕ = difference_of (2 * x) a b in
    let al : a % p < p = mod_below a p (pow_pos x) in
    let bl : b % p < p = mod_below b p (pow_pos x) in
    let ah : a / p % p < p = mod_below (a / p) p (pow_pos x) in
    let bh : b / p % p < p = mod_below (b / p) p (pow_pos x) in
    let first : a / p % p * p + a % p ≡ a = ap (λ k. k * p + a % p) (high_half x a a_fits) ∙ div-add-mod' a p in
    let second : b / p % p * p + b % p ≡ b = ap (λ k. k * p + b % p) (high_half x b b_fits) ∙ div-add-mod' b p in
    let d_fits : d < p * p = subst (λ (k : ℕ). d < k) (square x) (unsigned_below (2 * x) (pos a -ℤ pos b)) in
    joined p (a % p) (a / p % p) (b % p) (b / p % p) c l h d (unsigned_below x (pos (a % p) -ℤ pos (b % p + 0))) (unsigned_below x (pos (a / p % p) -ℤ pos (b / p % p + c))) d_fits
    (low_borrow x (a % p) (b % p) al bl) (borrows x (a / p % p) (b / p % p + c) ah (omega (arith, bh, bit_fits (nat_lt (a % p) (b % p + 0)))))
    (⊎_elim (λ w. inl (omega (arith, w, first, second))) (λ w. inr (omega (arith, w, first, second, square x))) (borrows (2 * x) a b a_fits (omega (arith, b_fits))))
    ∙ sym (pair_is p l h)

pub narrow_sub_sound : (x : ℕ) (flags : Flags) → IsSoundRewrite x (narrow_sub flags x)
narrow_sub_sound x flags = record {
  by = λ names world is_world a a_fits b b_fits.
      let is = difference_by_halves x a b a_fits b_fits in
      (refl, unless _ (2 * x) (difference_of (2 * x) a b) _ (subst (λ (k : ℕ). k < 2 ^ (2 * x)) is (unsigned_below (2 * x) (pos a -ℤ pos b))) is);
}

-- ══ Other operations ══

either_half : (t : Bool) (x a b : ℕ) → a < 2 ^ (2 * x) → b < 2 ^ (2 * x)
    → cond t b a ≡ cond t (b % 2 ^ x) (a % 2 ^ x) + 2 ^ x * (cond t (b / 2 ^ x % 2 ^ x) (a / 2 ^ x % 2 ^ x) + 2 ^ x * 0)
either_half true x a b a_fits b_fits = sym (halved x b b_fits)
either_half false x a b a_fits b_fits = sym (halved x a a_fits)

pub narrow_select_sound : (x : ℕ) (flags : Flags) (c : ℕ) → IsSoundRewrite x (narrow_select flags c x)
narrow_select_sound x flags c = record { by = λ names world is_world t t_fits a a_fits b b_fits. (refl, either_half (t == 0) x a b a_fits b_fits) }

low_of_pair : (x l h : ℕ) → l < 2 ^ x → wrapped x (l + 2 ^ x * h) ≡ l
low_of_pair x l h fits = add-mul-mod_self_left l (2 ^ x) h ∙ mod-eq_of_lt fits

pub narrow_zext_sound : (x : ℕ) (flags : Flags) → 1 ≤ x → IsSoundRewrite x (narrow_zext flags x)
narrow_zext_sound x flags some = record {
  by = λ names world is_world a a_fits.
      let nothing : a + 2 ^ x * (0 + 2 ^ x * 0) ≡ a = omega arith in
      (refl, may_extend _ x (2 * x) a _ (omega (arith, some)) a_fits nothing);
}

pub narrow_anyext_sound : (x : ℕ) (flags : Flags) → 1 ≤ x → IsSoundRewrite x (narrow_anyext flags x)
narrow_anyext_sound x flags some = record {
  by = λ names world is_world a a_fits v v_fits v_low.
      (refl, may_widen x (2 * x) a a (a + 2 ^ x * (v + 2 ^ x * 0)) (pair_fits x a v a_fits v_fits) (sym (mod-eq_of_lt a_fits)) (low_of_pair x a (v + 2 ^ x * 0) a_fits ∙ sym (mod-eq_of_lt a_fits)) (omega (arith, some)));
}

pub narrow_implicit_def_sound : (x : ℕ) (flags : Flags) → IsSoundRewrite x (narrow_implicit_def flags x)
narrow_implicit_def_sound x flags = record {
  by = λ names world is_world u u_fits u_low v v_fits v_low. (refl, free_given (2 * x) (u + 2 ^ x * (v + 2 ^ x * 0)) (pair_fits x u v u_fits v_fits));
}

pub narrow_constant_sound : (x : ℕ) (flags : Flags) (value : ℕ) → value < 2 ^ (2 * x) → IsSoundRewrite x (narrow_constant flags x value)
narrow_constant_sound x flags value fits = record {
  by = λ names world is_world. (refl, sym (pair_is (2 ^ x) (value % 2 ^ x) (value / 2 ^ x) ∙ div-add-mod' value (2 ^ x)));
}

-- the bytes of both halves turned around, and the halves too
pub narrow_bswap_sound : (x : ℕ) (flags : Flags) → IsSoundRewrite x (narrow_bswap flags 32)
narrow_bswap_sound x flags = record {
  by = λ names world is_world a a_fits.
      let high : a / 4294967296 % 4294967296 ≡ a / 4294967296 = high_half 32 a a_fits in (
        refl,
        sym (pair_is 4294967296 (byte_swap_of 32 (a / 4294967296 % 4294967296)) (byte_swap_of 32 (a % 4294967296))
            ∙ ap (λ h. byte_swap_of 32 (a % 4294967296) * 4294967296 + byte_swap_of 32 h) high ∙ reversed_halves a),
      );
}

-- ══ The lower of two parts ══

pub trunc_of_merge_same_sound : (x : ℕ) (flags more : Flags) (width : ℕ) → IsSoundRewrite x (trunc_of_merge op.Copy flags more width width)
trunc_of_merge_same_sound x flags more width = record {
  by = λ names world is_world a a_fits l l_fits h h_fits is.
      rw (not_below_itself width, same width) (refl, ap (wrapped width) is ∙ low_of_pair width l (h + 2 ^ width * 0) l_fits);
}

pub trunc_of_merge_narrower_sound : (x : ℕ) (flags more : Flags) (width n : ℕ) → n ≤ width → IsSoundRewrite x (trunc_of_merge op.GenericTruncate flags more width n)
trunc_of_merge_narrower_sound x flags more width n within = record {
  by = λ names world is_world a a_fits l l_fits h h_fits is.
      (refl, ap (wrapped n) is ∙ sym (low_of_low n width (l + 2 ^ width * (h + 2 ^ width * 0)) within) ∙ ap (wrapped n) (low_of_pair width l (h + 2 ^ width * 0) l_fits));
}
