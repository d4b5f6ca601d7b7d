-- Rules are sound: a difference with itself, a sum with zero, a remainder by a power of two.
use Rattle.std.proofs.Common.{◌≡◌, ℕ, ◌+◌, ◌-◌, ◌%◌, ◌^◌, ◌<◌, ◌==◌, Bool, true, false, cond, [], ◌∷◌, Some, inl, refl, sym, ap, ◌∙◌, subst, arith}
use Rattle.std.specs.Prelude.{bit_and}
use Rattle.std.proofs.lemmas.Option.{same_Some}
use Rattle.std.proofs.Math.Nat.{mod-eq_of_lt}
use Rattle.std.proofs.lemmas.Nat.{and_mask, pow_pos}
use Rattle.gi_llt.specs.Bits.{wrapped}
use Rattle.gi_mir.specs.Data.{no_flags}
use Rattle.gi_mir.specs.declared.opcode.Opcode.TheVariants as op
use Rattle.gi_mir.specs.declared.operand.Flags.{Flags}
use Rattle.gi_meaning.specs.Generic.{difference, difference_of, sum, unsigned_remainder}
use Rattle.gi_meaning.specs.Given.{Undefined, one}
use Rattle.gi_meaning.specs.State.{World}
use Rattle.gi_meaning.specs.Act.{Answers, Results}
use Rattle.gi_refine.specs.Values.{Correspond, Environment, IsCertain, IsSound, Makes, MayMake}
use Rattle.gi_refine.specs.ValueRules.{add_zero, on_two, remainder_to_mask, subtract_self}
use Rattle.gi_refine.proofs.RuleSteps.{answers_given, unless_given, exactly, constant_known, entry, entry_value}

-- ══ A difference with itself ══

pub difference_self : (n a : ℕ) → difference_of n a a ≡ 0
difference_self n a = grind arith

pub subtract_self_sound : (x : ℕ) (w : World) (flags : Flags) (n : ℕ) → IsSound x w (subtract_self flags n)
subtract_self_sound x w flags n = record {
  by = λ outside a fits facts made makes.
      let is : made ≡ Some ((n, a) ∷ (n, 0) ∷ []) = exactly (0 ∷ []) outside makes.0 ((n, a) ∷ []) (n ∷ []) (Makes x w outside []) made makes.1 makes.2 in
      subst (MayMake x w outside (subtract_self flags n) ((n, a) ∷ [])) (sym is)
      (inl (
        (n, a) ∷ (n, 0) ∷ [],
        (Results (0 ∷ []) outside, answers_given (difference flags n a a) outside (0 ∷ []) (unless_given _ n (difference_of n a a) 0 (pow_pos n) (difference_self n a)), refl),
        (refl, tt),
      ));
}

-- ══ A sum with zero ══

pub sum_with_zero : (n a b : ℕ) → a < 2 ^ n → b ≡ 0 → wrapped n (a + b) ≡ a
sum_with_zero n a b fits zero = ap (wrapped n) (omega (arith, zero)) ∙ mod-eq_of_lt fits

pub add_zero_sound : (x : ℕ) (w : World) (flags : Flags) (n : ℕ) → IsSound x w (add_zero flags n)
add_zero_sound x w flags n = record {
  by = λ outside a a_fits b b_fits facts made makes.
      let b_is : b ≡ 0 = entry_value n b n 0 (constant_known x w outside ((n, a) ∷ (n, b) ∷ []) n 0 1 facts.0) in
      subst (MayMake x w outside (add_zero flags n) ((n, a) ∷ (n, b) ∷ [])) (sym makes)
      (inl (
        (n, a) ∷ (n, b) ∷ (n, a) ∷ [],
        (
          Results (a ∷ []) outside,
          answers_given (sum flags n a b) outside (a ∷ []) (unless_given _ n (wrapped n (a + b)) a a_fits (sum_with_zero n a b a_fits b_is)),
          refl,
        ),
        (refl, tt),
      ));
}

-- the summand and the sum have one value
pub add_zero_certain : (x : ℕ) (w : World) (n : ℕ) → IsCertain x w (add_zero no_flags n)
add_zero_certain x w n = record {
  by = λ outside a a_fits b b_fits facts old makes.
      let b_is : b ≡ 0 = entry_value n b n 0 (constant_known x w outside ((n, a) ∷ (n, b) ∷ []) n 0 1 facts.0) in
      let is : Some old ≡ Some ((n, a) ∷ (n, b) ∷ (n, wrapped n (a + b)) ∷ []) =
      exactly (wrapped n (a + b) ∷ []) outside makes.0 ((n, a) ∷ (n, b) ∷ []) (n ∷ []) (Makes x w outside []) (Some old) makes.1 makes.2 in
      let sum_is : entry n a ≡ entry n (wrapped n (a + b)) = ap (entry n) (sym (sum_with_zero n a b a_fits b_is)) in
      subst (λ env. Correspond ((2, 0) ∷ []) env env) (same_Some _ old (sym is)) (sum_is, tt);
}

-- ══ A remainder by a power of two ══

some_remainder : (b : Bool) (n r u : ℕ) → b ≡ false → r ≡ u → cond b Undefined (one r) ≡ one u
some_remainder true n r u is same = cc
some_remainder false n r u is same = ap one same

not_zero : (m : ℕ) → 0 < m → (m == 0) ≡ false
not_zero m h = grind arith

remainder_is : (n a b k : ℕ) → b ≡ 2 ^ k → unsigned_remainder n a b ≡ one (bit_and a (2 ^ k - 1))
remainder_is n a b k is =
    ap (unsigned_remainder n a) is ∙ some_remainder (2 ^ k == 0) n (a % 2 ^ k) (bit_and a (2 ^ k - 1)) (not_zero (2 ^ k) (pow_pos k)) (sym (and_mask a k))

pub remainder_to_mask_sound : (x : ℕ) (w : World) (n k : ℕ) → IsSound x w (remainder_to_mask n k)
remainder_to_mask_sound x w n k = record {
  by = λ outside a a_fits b b_fits facts made makes.
      let rule = remainder_to_mask n k in
      let env : Environment = (n, a) ∷ (n, b) ∷ [] in
      let b_is : b ≡ 2 ^ k = entry_value n b n (2 ^ k) (constant_known x w outside env n (2 ^ k) 1 facts.0) in
      let mask : ℕ = 2 ^ k - 1 in
      let more : Makes x w outside (on_two op.GenericAnd no_flags n 0 2 ∷ []) ((n, a) ∷ (n, b) ∷ (n, mask) ∷ []) made =
      exactly (mask ∷ []) outside makes.0 env (n ∷ []) (Makes x w outside (on_two op.GenericAnd no_flags n 0 2 ∷ [])) made makes.1 makes.2 in
      let is : made ≡ Some ((n, a) ∷ (n, b) ∷ (n, mask) ∷ (n, bit_and a mask) ∷ []) =
      exactly (bit_and a mask ∷ []) outside more.0 ((n, a) ∷ (n, b) ∷ (n, mask) ∷ []) (n ∷ []) (Makes x w outside []) made more.1 more.2 in
      subst (MayMake x w outside rule env) (sym is)
      (inl (
        (n, a) ∷ (n, b) ∷ (n, bit_and a mask) ∷ [],
        (
          Results (bit_and a mask ∷ []) outside,
          subst (λ g. Answers g outside (Results (bit_and a mask ∷ []) outside)) (sym (remainder_is n a b k b_is)) (bit_and a mask ∷ [], refl, refl),
          refl,
        ),
        (refl, tt),
      ));
}
