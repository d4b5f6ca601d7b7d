-- Rows of the selector are sound.
use Rattle.std.proofs.Common.{◌≡◌, ℕ, ℤ, ◌==◌, ◌+◌, ◌-◌, ◌*◌, ◌/◌, ◌%◌, ◌^◌, ◌<◌, ◌≤◌, nat_lt, nat_le, Bool, true, false, not, cond, [], ◌∷◌, refl, sym, ap, ◌∙◌, subst, arith, lit<}
use Rattle.std.specs.Prelude.{bit_and, bit_xor}
use Rattle.std.specs.Int.Bits.{and_zero_r, xor_assoc, xor_self, xor_zero_l, xor_zero_r}
use Rattle.std.proofs.lemmas.Nat.{and_mask, pow_pos, xor_comm, xor_lt}
use Rattle.gi_llt.specs.Bits.{unsigned, wrapped}
use Rattle.gi_llt.specs.Llt.{width_of}
use Rattle.gi_meaning.specs.Generic.{bit_of, difference_of}
use Rattle.gi_meaning.specs.Machine.{is_immediate}
use Rattle.std.proofs.Math.Nat.{mod-eq_of_lt, pow-le-pow_right}
use Rattle.std.proofs.lemmas.Bool.Decides.{nat_tests}
use Rattle.gi_llt.specs.declared.Llt.{Llt}
use Rattle.gi_meaning.specs.Given.{LowBits, one}
use Rattle.gi_mir.specs.declared.operand.Flags.{Flags}
use Rattle.gi_refine.proofs.Basics.{not_below_itself, whole_fitted}
use Rattle.gi_rule_values.specs.Selecting.{select_addi, select_icmp_ule, select_select, select_zext}
use Rattle.gi_rule_values.proofs.Numbers.{unless}
use Rattle.std.proofs.lemmas.Nat.{mod_below}
use Rattle.gi_rule_values.specs.Running.{IsSoundRewrite, MayGive}

-- ══ Comparisons ══

pub one_word : (x : ℕ) → 0 < x → 1 % 2 ^ x ≡ 1
one_word x positive = let p : 2 ^ 1 ≤ 2 ^ x = pow-le-pow_right (lit< tt) positive in mod-eq_of_lt (omega (arith, p))

pub turned_bit : (b : Bool) → cond (not b) 1 0 ≡ bit_xor (cond b 1 0) 1
turned_bit true = refl
turned_bit false = refl

pub not_below : (a b : ℕ) → nat_le b a ≡ not (nat_lt a b)
not_below a b = grind (arith, nat_tests)

pub select_icmp_ule_sound : (x : ℕ) (flags : Flags) → 0 < x → IsSoundRewrite x (select_icmp_ule flags x)
select_icmp_ule_sound x flags positive = record {
  by = λ names world is_world a a_fits b b_fits.
      rw (not_below_itself x, one_word x positive) (refl, ap (λ t. cond t 1 0) (not_below b a) ∙ turned_bit (nat_lt b a));
}

-- ══ Extensions ══

-- to the left by half a word and back leaves the low half
low_half : (u : ℕ) → u * 4294967296 % 18446744073709551616 / 4294967296 ≡ u % 4294967296
low_half u = omega arith

may_extend : (broken : Bool) (a v : ℕ) → a < 2 ^ 32 → v ≡ a → MayGive (cond broken (LowBits 32 64 a) (one a)) (v ∷ [])
may_extend true a v fits is = (omega (arith, fits, is), ap (λ u. u % 2 ^ 32) is)
may_extend false a v fits is = sym is

pub select_zext_sound : (flags : Flags) → IsSoundRewrite 64 (select_zext flags)
select_zext_sound flags = record {
  by = λ names world is_world a a_fits word word_fits low. (refl, may_extend _ a _ a_fits (low_half word ∙ low ∙ mod-eq_of_lt a_fits));
}

-- ══ Sums ══

pub select_addi_sound : (x : ℕ) (flags more : Flags) (i : ℤ) → is_immediate i ≡ true → IsSoundRewrite x (select_addi flags more x i)
select_addi_sound x flags more i small = record {
  by = λ names world is_world a a_fits b b_fits is.
      rw (not_below_itself x, small, whole_fitted x (wrapped x (a + unsigned x i)))
      (refl, unless _ x (wrapped x (a + b)) (wrapped x (a + unsigned x i)) (mod_below (a + unsigned x i) (2 ^ x) (pow_pos x)) (ap (λ c. wrapped x (a + c)) is));
}

-- ══ Choices ══

-- all ones where the condition holds, and else none
abbrev mask : (n : ℕ) → Bool → ℕ
mask n holds = difference_of n 0 (bit_of holds)

none_left : (n : ℕ) → 0 % 2 ^ n ≡ 0
none_left n = mod-eq_of_lt (pow_pos n)

all_left : (n : ℕ) → 2 ^ n - 1 - 0 % 2 ^ n ≡ 2 ^ n - 1
all_left n = omega (arith, none_left n)

twice_differing : (a b : ℕ) → bit_xor b (bit_xor a b) ≡ a
twice_differing a b = ap (bit_xor b) (xor_comm a b) ∙ (sym (xor_assoc b b a) ∙ (ap (λ m. bit_xor m a) (xor_self b) ∙ xor_zero_l a))

chosen : (n a b : ℕ) (holds : Bool) → a < 2 ^ n → b < 2 ^ n → bit_xor b (bit_and (bit_xor a b) (mask n holds)) ≡ cond holds a b
chosen n a b true a_fits b_fits =
    ap (λ m. bit_xor b (bit_and (bit_xor a b) m)) (all_left n)
    ∙ (ap (bit_xor b) (and_mask (bit_xor a b) n ∙ mod-eq_of_lt (xor_lt n a b a_fits b_fits)) ∙ twice_differing a b)
chosen n a b false a_fits b_fits =
    ap (λ m. bit_xor b (bit_and (bit_xor a b) m)) (none_left n) ∙ (ap (bit_xor b) (and_zero_r (bit_xor a b)) ∙ xor_zero_r b)

chosen_otherwise : (c a b : ℕ) → cond (c == 0) b a ≡ cond (nat_lt 0 c) a b
chosen_otherwise c a b = turned_choice (c == 0) (nat_lt 0 c) (grind (arith, nat_tests))
  where
    turned_choice : (p q : Bool) → q ≡ not p → cond p b a ≡ cond q a b
    turned_choice true true is = cc
    turned_choice true false is = refl
    turned_choice false true is = refl
    turned_choice false false is = cc

pub select_select_sound : (x : ℕ) (flags : Flags) (type : Llt) → width_of x type ≡ x → IsSoundRewrite x (select_select flags x type)
select_select_sound x flags type word = record {
  by = λ names world is_world c c_fits a a_fits b b_fits.
      let first : a < 2 ^ x = subst (λ (k : ℕ). a < 2 ^ k) word a_fits in
      let second : b < 2 ^ x = subst (λ (k : ℕ). b < 2 ^ k) word b_fits in
      rw (word, not_below_itself x) (refl, chosen_otherwise c a b ∙ sym (chosen x a b (nat_lt 0 c) first second));
}
