-- More rules of the combiners are sound.
use Rattle.gi_mir.specs.declared.opcode.Opcode.{Opcode}
use Rattle.gi_meaning.specs.Meaning.{Generic, meaning_of}
use Rattle.gi_meaning.specs.Given.{Given, one}
use Rattle.gi_meaning.specs.Argument.{Argument, Value}
use Rattle.std.proofs.Common.{◌≡◌, ⊎_elim, ℕ, ◌*◌, ◌^◌, ◌<◌, ◌≤◌, ◌==◌, Bool, true, false, cond, refl, sym, ap, ◌∙◌, subst, arith, List, [], ◌∷◌}
use Rattle.std.specs.Prelude.{bit_and, bit_or}
use Rattle.std.specs.Int.Bits.{and_self, and_zero_r, or_self}
use Rattle.std.proofs.Math.Nat.{mod-eq_of_lt}
use Rattle.std.proofs.lemmas.Bool.{cases_eq, eq-eqb}
use Rattle.std.proofs.lemmas.Bool.Decides.{nat_tests}
use Rattle.std.proofs.lemmas.Nat.{pow_pos}
use Rattle.gi_llt.specs.Bits.{sign_extended, signed, unsigned, wrapped}
use Rattle.gi_llt.specs.Llt.{width_of}
use Rattle.gi_llt.specs.declared.Llt.{Llt}
use Rattle.gi_meaning.proofs.Numbers.{unsigned_below}
use Rattle.gi_meaning.specs.Generic.{bit_of, holds}
use Rattle.gi_mir.specs.declared.opcode.Opcode.TheVariants as op
use Rattle.gi_mir.specs.declared.operand.Flags.{Flags}
use Rattle.gi_mir.specs.declared.operand.Pred.{Pred}
use Rattle.gi_refine.proofs.Basics.{not_below_itself}
use Rattle.gi_rule_values.specs.Combining.{binop_same, binop_to_zero, constant_fold_cast, icmp_and_one, select_constant, select_same, constant_fold}
use Rattle.gi_rule_values.specs.Running.{IsSoundRewrite}
use Rattle.gi_rule_values.proofs.Artifacts.{may_extend, may_widen}
use Rattle.gi_rule_values.proofs.Numbers.{bits_back, same, unless, unsigned_low}

-- ══ Zeros and equal operands ══

pub mul_zero_sound : (x : ℕ) (flags more : Flags) (n : ℕ) → IsSoundRewrite x (binop_to_zero op.GenericMultiply flags more n)
mul_zero_sound x flags more n = record {
  by = λ names w world a a_fits b b_fits is.
      let none : a * 0 ≡ 0 = omega arith in
      rw (not_below_itself n, same n) (refl, unless _ n (wrapped n (a * b)) b b_fits (ap (λ c. wrapped n (a * c)) is ∙ ap (wrapped n) none ∙ mod-eq_of_lt (pow_pos n) ∙ sym is));
}

pub and_zero_sound : (x : ℕ) (flags more : Flags) (n : ℕ) → IsSoundRewrite x (binop_to_zero op.GenericAnd flags more n)
and_zero_sound x flags more n = record {
  by = λ names w world a a_fits b b_fits is. rw (not_below_itself n, same n) (refl, ap (bit_and a) is ∙ and_zero_r a ∙ sym is);
}

pub and_same_sound : (x : ℕ) (flags : Flags) (n : ℕ) → IsSoundRewrite x (binop_same op.GenericAnd flags n)
and_same_sound x flags n = record { by = λ names w world a a_fits. rw (not_below_itself n, same n) (refl, and_self a) }

pub or_same_sound : (x : ℕ) (flags : Flags) (n : ℕ) → IsSoundRewrite x (binop_same op.GenericOr flags n)
or_same_sound x flags n = record { by = λ names w world a a_fits. rw (not_below_itself n, same n) (refl, unless _ n (bit_or a a) a a_fits (or_self a)) }

-- ══ Choices ══

either_same : (t : Bool) (a : ℕ) → cond t a a ≡ a
either_same true a = refl
either_same false a = refl

pub select_same_sound : (x : ℕ) (flags : Flags) (c : ℕ) (type : Llt) → IsSoundRewrite x (select_same flags c type)
select_same_sound x flags c type = record {
  by = λ names w world t t_fits a a_fits. rw (not_below_itself (width_of x type), same (width_of x type)) (refl, either_same (t == 0) a);
}

pub select_constant_sound : (x : ℕ) (flags more : Flags) (c value : ℕ) (type : Llt) → IsSoundRewrite x (select_constant flags more c value type)
select_constant_sound x flags more c value type = ⊎_elim
    (λ (zero : value ≡ 0).
    let none : (value == 0) ≡ true = eq-eqb value 0 zero in
    record { by = λ names w world t t_fits a a_fits b b_fits is. rw none (rw (not_below_itself (width_of x type), same (width_of x type), is, none) (refl, refl)) })
    (λ (other : value ≡ 0 → ⊥).
    let some : (value == 0) ≡ false = grind (arith, nat_tests, other) in
    record { by = λ names w world t t_fits a a_fits b b_fits is. rw some (rw (not_below_itself (width_of x type), same (width_of x type), is, some) (refl, refl)) })
    (cases_eq value 0)

-- ══ A comparison's bit ══

masked_bit : (t : Bool) → bit_and (bit_of t) 1 ≡ bit_of t
masked_bit true = refl
masked_bit false = refl

pub icmp_and_one_sound : (x : ℕ) (flags more other : Flags) (pred : Pred) (type : Llt) (n : ℕ) → IsSoundRewrite x (icmp_and_one flags more other pred type n)
icmp_and_one_sound x flags more other pred type n = record {
  by = λ names w world a a_fits b b_fits p p_fits q q_fits is one_is.
      rw (not_below_itself n, same n, is, one_is) (refl, masked_bit (holds pred (width_of x type) p q));
}

-- ══ Folds ══

pub fold_trunc_sound : (x : ℕ) (flags more : Flags) (m c n : ℕ) → IsSoundRewrite x (constant_fold_cast op.GenericTruncate flags more m c n (wrapped n c))
fold_trunc_sound x flags more m c n = record { by = λ names w world a a_fits is. (refl, ap (wrapped n) is) }

pub fold_zext_sound : (x : ℕ) (flags more : Flags) (m c n : ℕ) → m < n → IsSoundRewrite x (constant_fold_cast op.GenericZeroExtend flags more m c n c)
fold_zext_sound x flags more m c n wider = record { by = λ names w world a a_fits is. (refl, may_extend _ m n a c wider a_fits (sym is)) }

pub fold_sext_sound : (x : ℕ) (flags more : Flags) (m c n : ℕ) → IsSoundRewrite x (constant_fold_cast op.GenericSignExtend flags more m c n (sign_extended m n c))
fold_sext_sound x flags more m c n = record { by = λ names w world a a_fits is. (refl, ap (sign_extended m n) is) }

-- the value with its sign, of the values that an extension may give
pub fold_anyext_sound : (x : ℕ) (flags more : Flags) (m c n : ℕ) → 1 ≤ m → m < n → IsSoundRewrite x (constant_fold_cast op.GenericAnyExtend flags more m c n (sign_extended m n c))
fold_anyext_sound x flags more m c n some wider = record {
  by = λ names w world a a_fits is.
      let fits : c < 2 ^ m = subst (λ (u : ℕ). u < 2 ^ m) is a_fits in
      let low : wrapped m (sign_extended m n c) ≡ c = unsigned_low n m (signed m (wrapped m c)) (omega (arith, wider)) ∙ ap (λ v. unsigned m (signed m v)) (mod-eq_of_lt fits) ∙ bits_back m c some fits in
      (refl, may_widen m n a c (sign_extended m n c) (unsigned_below n (signed m (wrapped m c))) (is ∙ sym (mod-eq_of_lt fits)) (low ∙ sym (mod-eq_of_lt fits)) wider);
}

-- any operation on two constants that gives one value
pub constant_fold_sound : (x : ℕ) (root : Opcode) (flags first second : Flags) (l a m b n value : ℕ) (gives : List ℕ → List Argument → Given)
    → meaning_of flags root ≡ Generic gives → gives (n ∷ []) (Value l a ∷ Value m b ∷ []) ≡ one value → IsSoundRewrite x (constant_fold root flags first second l a m b n value)
constant_fold_sound x root flags first second l a m b n value gives means given = record {
  by = λ names w world u u_fits v v_fits is other. rw (is, other, means, given) (refl, refl);
}
