-- Rules of the legaliser for casts and parts are sound.
use Rattle.std.proofs.Common.{◌≡◌, ℕ, ◌-◌, ◌^◌, ◌<◌, ◌≤◌, nat_lt, Bool, true, false, cond, [], ◌∷◌, refl, sym, ap, ◌∙◌, subst, arith}
use Rattle.std.specs.Prelude.{bit_and}
use Rattle.std.proofs.lemmas.Nat.{and_mask, mod_below, pow_pos}
use Rattle.gi_llt.specs.Bits.{sign_extended, wrapped}
use Rattle.gi_llt.specs.declared.Llt.{Llt}
use Rattle.gi_llt.specs.Llt.{width_of}
use Rattle.gi_meaning.specs.Given.{in_low_bits, one}
use Rattle.gi_mir.specs.declared.operand.Flags.{Flags}
use Rattle.gi_refine.proofs.Basics.{not_below_itself}
use Rattle.gi_rule_values.specs.Artifacts.{anyext_of_trunc_narrower, anyext_of_trunc_same, anyext_of_trunc_wider, freeze_to_copy, sext_of_trunc_narrower, sext_of_trunc_same, sext_of_trunc_wider, trunc_of_trunc, zext_of_trunc_narrower, zext_of_trunc_same, zext_of_trunc_wider}
use Rattle.gi_rule_values.specs.Running.{IsSoundRewrite, MayGive}
use Rattle.gi_rule_values.proofs.Numbers.{below_wider, low_again, low_of_low, same}

pub freeze_to_copy_sound : (x : ℕ) (flags : Flags) (type : Llt) → IsSoundRewrite x (freeze_to_copy flags type)
freeze_to_copy_sound x flags type = record {
  by = λ names world is_world a a_fits. rw (not_below_itself (width_of x type), same (width_of x type)) (refl, refl);
}

-- ══ Casts of what was cut ══

pub trunc_of_trunc_sound : (x : ℕ) (flags more : Flags) (m w k : ℕ) → k ≤ m → IsSoundRewrite x (trunc_of_trunc flags more m w k)
trunc_of_trunc_sound x flags more m w k within = record {
  by = λ names world is_world a a_fits b b_fits is. (refl, ap (wrapped k) is ∙ low_of_low k m b within);
}

-- a number of k bits whose low m bits are those of b
pub may_widen : (m k a b v : ℕ) → v < 2 ^ k → a ≡ wrapped m b → wrapped m v ≡ wrapped m b → m < k → MayGive (in_low_bits m k a) (v ∷ [])
may_widen m k a b v fits is low wider =
    let less : nat_lt m k ≡ true = grind arith in
    rw less (fits, low ∙ sym (ap (wrapped m) is ∙ low_of_low m m b (omega arith)))

pub anyext_of_trunc_same_sound : (x : ℕ) (flags more : Flags) (m k : ℕ) → m < k → IsSoundRewrite x (anyext_of_trunc_same flags more m k)
anyext_of_trunc_same_sound x flags more m k wider = record {
  by = λ names world is_world a a_fits b b_fits is. rw (not_below_itself k, same k) (refl, may_widen m k a b b b_fits is refl wider);
}

pub anyext_of_trunc_narrower_sound : (x : ℕ) (flags more : Flags) (m w k : ℕ) → m < k → k < w → IsSoundRewrite x (anyext_of_trunc_narrower flags more m w k)
anyext_of_trunc_narrower_sound x flags more m w k wider cut = record {
  by = λ names world is_world a a_fits b b_fits is.
      (refl, may_widen m k a b (wrapped k b) (mod_below b (2 ^ k) (pow_pos k)) is (low_of_low m k b (omega (arith, wider))) wider);
}

pub anyext_of_trunc_wider_sound : (x : ℕ) (flags more : Flags) (m w k : ℕ) → m < w → w < k → IsSoundRewrite x (anyext_of_trunc_wider flags more m w k)
anyext_of_trunc_wider_sound x flags more m w k cut wider = record {
  by = λ names world is_world a a_fits b b_fits is.
      let less : nat_lt w k ≡ true = grind arith in
      rw less (λ v v_fits v_low. (refl, may_widen m k a b v v_fits is (low_again m w v b (omega (arith, cut)) v_low) (omega (arith, cut, wider))));
}

-- no promise is broken: the value
pub may_extend : (broken : Bool) (m k a v : ℕ) → m < k → a < 2 ^ m → v ≡ a → MayGive (cond broken (in_low_bits m k a) (one a)) (v ∷ [])
may_extend true m k a v wider fits is =
    let less : nat_lt m k ≡ true = grind arith in
    rw less (subst (λ u. u < 2 ^ k) (sym is) (below_wider m k a (omega (arith, wider)) fits), ap (wrapped m) is)
may_extend false m k a v wider fits is = sym is

-- the mask of m bits leaves the low ones
masked : (m k a b t : ℕ) (broken : Bool) → m < k → a < 2 ^ m → a ≡ wrapped m b → wrapped m t ≡ wrapped m b → MayGive (cond broken (in_low_bits m k a) (one a)) (bit_and t (2 ^ m - 1) ∷ [])
masked m k a b t broken wider fits is low = may_extend broken m k a (bit_and t (2 ^ m - 1)) wider fits (and_mask t m ∙ low ∙ sym is)

pub zext_of_trunc_same_sound : (x : ℕ) (flags more : Flags) (m k : ℕ) → m < k → IsSoundRewrite x (zext_of_trunc_same flags more m k)
zext_of_trunc_same_sound x flags more m k wider = record {
  by = λ names world is_world a a_fits b b_fits is. (refl, masked m k a b b _ wider a_fits is refl);
}

pub zext_of_trunc_narrower_sound : (x : ℕ) (flags more : Flags) (m w k : ℕ) → m < k → k < w → IsSoundRewrite x (zext_of_trunc_narrower flags more m w k)
zext_of_trunc_narrower_sound x flags more m w k wider cut = record {
  by = λ names world is_world a a_fits b b_fits is. (refl, masked m k a b (wrapped k b) _ wider a_fits is (low_of_low m k b (omega (arith, wider))));
}

pub zext_of_trunc_wider_sound : (x : ℕ) (flags more : Flags) (m w k : ℕ) → m < w → w < k → IsSoundRewrite x (zext_of_trunc_wider flags more m w k)
zext_of_trunc_wider_sound x flags more m w k cut wider = record {
  by = λ names world is_world a a_fits b b_fits is.
      let less : nat_lt w k ≡ true = grind arith in
      rw less (λ t t_fits t_low. (refl, masked m k a b t _ (omega (arith, cut, wider)) a_fits is (low_again m w t b (omega (arith, cut)) t_low)));
}

-- the sign is that of the low m bits
signed_low : (m k a b t : ℕ) → a ≡ wrapped m b → wrapped m t ≡ wrapped m b → sign_extended m k a ≡ sign_extended m k (wrapped m t)
signed_low m k a b t is low = ap (sign_extended m k) (is ∙ sym low)

pub sext_of_trunc_same_sound : (x : ℕ) (flags more : Flags) (m k : ℕ) → m < k → IsSoundRewrite x (sext_of_trunc_same flags more m k)
sext_of_trunc_same_sound x flags more m k wider = record {
  by = λ names world is_world a a_fits b b_fits is. (refl, signed_low m k a b b is refl);
}

pub sext_of_trunc_narrower_sound : (x : ℕ) (flags more : Flags) (m w k : ℕ) → m < k → k < w → IsSoundRewrite x (sext_of_trunc_narrower flags more m w k)
sext_of_trunc_narrower_sound x flags more m w k wider cut = record {
  by = λ names world is_world a a_fits b b_fits is. (refl, signed_low m k a b (wrapped k b) is (low_of_low m k b (omega (arith, wider))));
}

pub sext_of_trunc_wider_sound : (x : ℕ) (flags more : Flags) (m w k : ℕ) → m < w → w < k → IsSoundRewrite x (sext_of_trunc_wider flags more m w k)
sext_of_trunc_wider_sound x flags more m w k cut wider = record {
  by = λ names world is_world a a_fits b b_fits is.
      let less : nat_lt w k ≡ true = grind arith in
      rw less (λ t t_fits t_low. (refl, signed_low m k a b t is (low_again m w t b (omega (arith, cut)) t_low)));
}
