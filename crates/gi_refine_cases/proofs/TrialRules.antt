-- The trial rules are sound.
use Rattle.gi_meaning.specs.Meaning.{Generic, meaning_of}
use Rattle.gi_mir.specs.declared.opcode.Opcode.{Opcode}
use Rattle.gi_meaning.specs.Argument.{Argument, Value}
use Rattle.std.proofs.Common.{◌≡◌, ℕ, ◌+◌, ◌-◌, ◌%◌, ◌^◌, ◌<◌, ◌≤◌, Bool, true, false, cond, List, [], ◌∷◌, Some, inl, refl, sym, ap, ◌∙◌, subst, arith, ◌++◌, ◌&&◌, ◌||◌, ◌*◌, ◌/◌, Option, None}
use Rattle.std.proofs.lemmas.Nat.{pow_pos, mod_below, pow_below}
use Rattle.std.specs.Prelude.{nat_le, ◌*ℤ◌}
use Rattle.gi_llt.specs.Bits.{wrapped, signed}
use Rattle.gi_mir.specs.Data.{no_flags}
use Rattle.gi_mir.specs.declared.opcode.Opcode.TheVariants as op
use Rattle.gi_mir.specs.declared.operand.Flags.{Flags}
use Rattle.gi_meaning.specs.Given.{free, unless_broken, Given, IsGiven}
use Rattle.gi_meaning.specs.Generic.{sum, product, shifted_left, leaves_signed, bit_of}
use Rattle.gi_meaning.specs.State.{World, Outside}
use Rattle.gi_meaning.specs.Act.{Results, Answers, Act}
use Rattle.gi_meaning.proofs.Numbers.{signed-low}
use Rattle.gi_refine.specs.Values.{Environment, Operation, Makes, MayMake, IsSound, At, Then}
use Rattle.gi_refine.specs.ValueRules.{on_one, on_two}
use Rattle.gi_refine_cases.specs.TrialRules.{widen_add, halves, multiply_to_shift, narrow_add, fold_constants}
use Rattle.gi_refine.proofs.RuleSteps.{answers_given, unless_given, exactly, constant_known, entry_value, OneOf, from_low_bits, after_one, SameGiven, Gives, GivesNone, same_given}
use Rattle.gi_refine_cases.proofs.TrialArithmetic.{sum_of_extended, sum_by_halves}

-- ══ Widening ══

pub widen_add_sound : (x : ℕ) (w : World) (flags : Flags) (n y : ℕ) → IsSound x w (widen_add flags n y)
widen_add_sound x w flags n y = record {
  by = λ outside a a_fits b b_fits facts made makes.
      let m : ℕ = y + n in
      let within : n ≤ m = omega arith in
      let env : Environment = (n, a) ∷ (n, b) ∷ [] in
      let rest_1 : List Operation = on_one op.GenericAnyExtend m 1 ∷ on_two op.GenericAdd no_flags m 2 3 ∷ on_one op.GenericTruncate n 4 ∷ [] in
      let rest_2 : List Operation = on_two op.GenericAdd no_flags m 2 3 ∷ on_one op.GenericTruncate n 4 ∷ [] in
      let left : OneOf n a outside makes.0 = from_low_bits n m a outside makes.0 within makes.1 in
      let f : ℕ = left.result in
      let more_1 : Makes x w outside rest_1 ((n, a) ∷ (n, b) ∷ (m, f) ∷ []) made = after_one f m outside makes.0 env (Makes x w outside rest_1) made left.is makes.2 in
      let right : OneOf n b outside more_1.0 = from_low_bits n m b outside more_1.0 within more_1.1 in
      let g : ℕ = right.result in
      let more_2 : Makes x w outside rest_2 ((n, a) ∷ (n, b) ∷ (m, f) ∷ (m, g) ∷ []) made =
      after_one g m outside more_1.0 ((n, a) ∷ (n, b) ∷ (m, f) ∷ []) (Makes x w outside rest_2) made right.is more_1.2 in
      let wide : ℕ = wrapped m (f + g) in
      let more_3 : Makes x w outside (on_one op.GenericTruncate n 4 ∷ []) ((n, a) ∷ (n, b) ∷ (m, f) ∷ (m, g) ∷ (m, wide) ∷ []) made =
      exactly (wide ∷ []) outside more_2.0 ((n, a) ∷ (n, b) ∷ (m, f) ∷ (m, g) ∷ []) (m ∷ []) (Makes x w outside (on_one op.GenericTruncate n 4 ∷ [])) made more_2.1 more_2.2 in
      let v : ℕ = wrapped n wide in
      let is : made ≡ Some ((n, a) ∷ (n, b) ∷ (m, f) ∷ (m, g) ∷ (m, wide) ∷ (n, v) ∷ []) =
      exactly (v ∷ []) outside more_3.0 ((n, a) ∷ (n, b) ∷ (m, f) ∷ (m, g) ∷ (m, wide) ∷ []) (n ∷ []) (Makes x w outside []) made more_3.1 more_3.2 in
      subst (MayMake x w outside (widen_add flags n y) env) (sym is)
      (inl (
        (n, a) ∷ (n, b) ∷ (n, v) ∷ [],
        (
          Results (v ∷ []) outside,
          answers_given (sum flags n a b) outside (v ∷ [])
              (unless_given _ n (wrapped n (a + b)) v (mod_below wide (2 ^ n) (pow_pos n)) (sym (sum_of_extended n y f g a b left.low right.low))),
          refl,
        ),
        (refl, tt),
      ));
}

-- ══ Narrowing ══

pub narrow_add_sound : (x : ℕ) (w : World) (flags : Flags) (n : ℕ) → IsSound x w (narrow_add flags n)
narrow_add_sound x w flags n = record {
  by = λ outside a a_fits b b_fits facts made makes.
      let m : ℕ = n + n in
      let add_high : Operation = record { op = op.GenericUnsignedAddCarry; flags = no_flags; slots = At 3 ∷ At 5 ∷ At 7 ∷ []; mem = None; widths = n ∷ 1 ∷ [] } in
      let add_low : Operation = record { op = op.GenericUnsignedAddOverflow; flags = no_flags; slots = At 2 ∷ At 4 ∷ []; mem = None; widths = n ∷ 1 ∷ [] } in
      let merge : Operation = on_two op.GenericMergeValues no_flags m 6 8 in
      let al : ℕ = a % 2 ^ n in
      let ah : ℕ = a / 2 ^ n % 2 ^ n in
      let bl : ℕ = b % 2 ^ n in
      let bh : ℕ = b / 2 ^ n % 2 ^ n in
      let lo : ℕ = wrapped n (al + bl + 0) in
      let c : ℕ = bit_of (nat_le (2 ^ n) (al + bl + 0)) in
      let hi : ℕ = wrapped n (ah + bh + c) in
      let d : ℕ = bit_of (nat_le (2 ^ n) (ah + bh + c)) in
      let env : Environment = (m, a) ∷ (m, b) ∷ [] in
      let env_1 : Environment = (m, a) ∷ (m, b) ∷ (n, al) ∷ (n, ah) ∷ [] in
      let env_2 : Environment = (m, a) ∷ (m, b) ∷ (n, al) ∷ (n, ah) ∷ (n, bl) ∷ (n, bh) ∷ [] in
      let env_3 : Environment = (m, a) ∷ (m, b) ∷ (n, al) ∷ (n, ah) ∷ (n, bl) ∷ (n, bh) ∷ (n, lo) ∷ (1, c) ∷ [] in
      let env_4 : Environment = (m, a) ∷ (m, b) ∷ (n, al) ∷ (n, ah) ∷ (n, bl) ∷ (n, bh) ∷ (n, lo) ∷ (1, c) ∷ (n, hi) ∷ (1, d) ∷ [] in
      let more_1 : Makes x w outside (halves n 1 ∷ add_low ∷ add_high ∷ merge ∷ []) env_1 made =
      exactly (al ∷ ah ∷ []) outside makes.0 env (n ∷ n ∷ []) (Makes x w outside (halves n 1 ∷ add_low ∷ add_high ∷ merge ∷ [])) made makes.1 makes.2 in
      let more_2 : Makes x w outside (add_low ∷ add_high ∷ merge ∷ []) env_2 made =
      exactly (bl ∷ bh ∷ []) outside more_1.0 env_1 (n ∷ n ∷ []) (Makes x w outside (add_low ∷ add_high ∷ merge ∷ [])) made more_1.1 more_1.2 in
      let more_3 : Makes x w outside (add_high ∷ merge ∷ []) env_3 made =
      exactly (lo ∷ c ∷ []) outside more_2.0 env_2 (n ∷ 1 ∷ []) (Makes x w outside (add_high ∷ merge ∷ [])) made more_2.1 more_2.2 in
      let more_4 : Makes x w outside (merge ∷ []) env_4 made =
      exactly (hi ∷ d ∷ []) outside more_3.0 env_3 (n ∷ 1 ∷ []) (Makes x w outside (merge ∷ [])) made more_3.1 more_3.2 in
      let v : ℕ = lo + 2 ^ n * (hi + 2 ^ n * 0) in
      let last : made ≡ Some (env_4 ++ (m, v) ∷ []) = exactly (v ∷ []) outside more_4.0 env_4 (m ∷ []) (Makes x w outside []) made more_4.1 more_4.2 in
      let sum_is : v ≡ wrapped m (a + b) = sum_by_halves n a b a_fits b_fits in
      let is : made ≡ Some (env_4 ++ (m, wrapped m (a + b)) ∷ []) = last ∙ ap (λ u. Some (env_4 ++ (m, u) ∷ [])) sum_is in
      subst (MayMake x w outside (narrow_add flags n) env) (sym is)
      (inl (
        (m, a) ∷ (m, b) ∷ (m, wrapped m (a + b)) ∷ [],
        (
          Results (wrapped m (a + b) ∷ []) outside,
          answers_given (sum flags m a b) outside (wrapped m (a + b) ∷ [])
              (unless_given _ m (wrapped m (a + b)) (wrapped m (a + b)) (mod_below (a + b) (2 ^ m) (pow_pos m)) refl),
          refl,
        ),
        (refl, tt),
      ));
}

-- ══ A shift for a product ══

small_shift : (b : Bool) (n : ℕ) (g h : Given) → b ≡ false → g ≡ h → cond b (free n) g ≡ h
small_shift true n g h is same = cc
small_shift false n g h is same = same

no_shift_out : (n k : ℕ) → k + 1 < n → nat_le n k ≡ false
no_shift_out n k h = grind arith

-- the product by a power of two that has no sign is the shift, with all flags
product_is_shift : (flags : Flags) (n k a b : ℕ) → k + 1 < n → b ≡ 2 ^ k → shifted_left flags n a k ≡ product flags n a b
product_is_shift flags n k a b small is =
    small_shift (nat_le n k) n _ (product flags n a b) (no_shift_out n k small)
    (ap (λ z. unless_broken (flags.nuw && nat_le (2 ^ n) (a * 2 ^ k) || flags.nsw && leaves_signed n (signed n a *ℤ z)) n (wrapped n (a * 2 ^ k)))
    (sym (signed-low n (2 ^ k) (pow_below k (n - 1) (omega (arith, small)))))
    ∙ ap (product flags n a) (sym is))

shift_made : (x : ℕ) (w : World) (outside : Outside) (flags : Flags) (n k a b : ℕ) (made : Option Environment)
    → SameGiven (product flags n a b) outside n ((n, a) ∷ (n, b) ∷ []) ((n, a) ∷ (n, b) ∷ (n, k) ∷ []) made → MayMake x w outside (multiply_to_shift flags n k) ((n, a) ∷ (n, b) ∷ []) made
shift_made x w outside flags n k a b made (Gives v is given) =
    subst (MayMake x w outside (multiply_to_shift flags n k) ((n, a) ∷ (n, b) ∷ [])) (sym is)
    (inl ((n, a) ∷ (n, b) ∷ (n, v) ∷ [], (Results (v ∷ []) outside, given, refl), (refl, tt)))
shift_made x w outside flags n k a b made (GivesNone is answer given none) =
    subst (MayMake x w outside (multiply_to_shift flags n k) ((n, a) ∷ (n, b) ∷ [])) (sym is)
    (answer, given, subst (λ m. Then m (Makes x w outside []) None) (sym none) refl)

pub multiply_to_shift_sound : (x : ℕ) (w : World) (flags : Flags) (n k : ℕ) → k + 1 < n → IsSound x w (multiply_to_shift flags n k)
multiply_to_shift_sound x w flags n k small = record {
  by = λ outside a a_fits b b_fits facts made makes.
      let env : Environment = (n, a) ∷ (n, b) ∷ [] in
      let env' : Environment = (n, a) ∷ (n, b) ∷ (n, k) ∷ [] in
      let shift : Operation = on_two op.GenericShiftLeft flags n 0 2 in
      let b_is : b ≡ 2 ^ k = entry_value n b n (2 ^ k) (constant_known x w outside env n (2 ^ k) 1 facts.0) in
      let more : Makes x w outside (shift ∷ []) env' made = exactly (k ∷ []) outside makes.0 env (n ∷ []) (Makes x w outside (shift ∷ [])) made makes.1 makes.2 in
      let shifted : Answers (product flags n a b) outside more.0 = subst (λ g. Answers g outside more.0) (product_is_shift flags n k a b small b_is) more.1 in
      shift_made x w outside flags n k a b made (same_given (product flags n a b) outside n env env' more.0 made shifted more.2);
}

-- ══ A fold ══

pub fold_constants_sound : (x : ℕ) (w : World) (o : Opcode) (flags : Flags) (gives : List ℕ → List Argument → Given) (l a m b n value : ℕ) → meaning_of flags o ≡ Generic gives
    → IsGiven (gives (n ∷ []) (Value l a ∷ Value m b ∷ [])) (value ∷ []) → IsSound x w (fold_constants o flags l a m b n value)
fold_constants_sound x w o flags gives l a m b n value means given = record {
  by = λ outside u u_fits v v_fits facts made makes.
      let env : Environment = (l, u) ∷ (m, v) ∷ [] in
      let u_is : u ≡ a = entry_value l u l a (constant_known x w outside env l a 0 facts.0) in
      let v_is : v ≡ b = entry_value m v m b (constant_known x w outside env m b 1 facts.1.0) in
      let is : made ≡ Some ((l, u) ∷ (m, v) ∷ (n, value) ∷ []) = exactly (value ∷ []) outside makes.0 env (n ∷ []) (Makes x w outside []) made makes.1 makes.2 in
      let given_here : IsGiven (gives (n ∷ []) (Value l u ∷ Value m v ∷ [])) (value ∷ []) =
      subst (λ p. IsGiven (gives (n ∷ []) (Value l p ∷ Value m v ∷ [])) (value ∷ [])) (sym u_is)
      (subst (λ q. IsGiven (gives (n ∷ []) (Value l a ∷ Value m q ∷ [])) (value ∷ [])) (sym v_is) given) in
      subst (MayMake x w outside (fold_constants o flags l a m b n value) env) (sym is)
      (inl (
        (l, u) ∷ (m, v) ∷ (n, value) ∷ [],
        (
          Results (value ∷ []) outside,
          subst (λ meaning. Act x w meaning None (n ∷ []) (Value l u ∷ Value m v ∷ []) outside (Results (value ∷ []) outside)) (sym means)
              (answers_given (gives (n ∷ []) (Value l u ∷ Value m v ∷ [])) outside (value ∷ []) given_here),
          refl,
        ),
        (refl, tt),
      ));
}
