-- Comparisons are selected.
use Rattle.std.proofs.Common.{◌≡◌, ℕ, ◌^◌, ◌<◌, ◌≤◌, ◌==◌, Bool, true, false, not, List, [], ◌∷◌, ◌++◌, Option, Some, slice_get, refl, sym, ap, ◌∙◌, arith, inl, inr, lit<, ℤ, pos, negsuc, nat_lt, nat_le}
use Rattle.std.specs.Prelude.{int_lt, int_le, bit_xor}
use Rattle.std.specs.Int.Bits.{xor_self, xor_assoc, xor_zero_l, xor_zero_r}
use Rattle.std.proofs.lemmas.Bool.Decides.{nat_tests}
use Rattle.std.proofs.lemmas.Bool.{cases_eq}
use Rattle.std.proofs.Math.Nat.{mod-eq_of_lt, pow-le-pow_right}
use Rattle.gi_llt.specs.Bits.{unsigned, signed}
use Rattle.gi_mir.specs.Data.{no_flags}
use Rattle.gi_mir.specs.declared.opcode.Opcode.{Opcode}
use Rattle.gi_mir.specs.declared.opcode.Opcode.TheVariants as op
use Rattle.gi_mir.specs.declared.operand.Flags.{Flags}
use Rattle.gi_mir.specs.declared.operand.Pred.{Pred}
use Rattle.gi_mir.specs.declared.operand.Pred.TheVariants.{Eq, Ne, Ugt, Uge, Ult, Ule, Sgt, Sge, Slt, Sle}
use Rattle.gi_meaning.specs.Argument.{Value, Test}
use Rattle.gi_meaning.specs.Generic.{bit_of, holds, comparison}
use Rattle.gi_meaning.specs.Machine.{on_words, on_immediate, is_immediate, less_word, less_unsigned_word, xor_word}
use Rattle.gi_meaning.specs.Meaning.{Machine, meaning_of}
use Rattle.gi_meaning.specs.State.{World, Outside}
use Rattle.gi_refine.specs.Values.{Environment, At, Fixed, Operation, Fact, Defines, Makes, MayMake, IsSound}
use Rattle.gi_refine.specs.ValueRules.{constant, on_two}
use Rattle.gi_refine.proofs.RuleSteps.{constant_known, entry_value}
use Rattle.gi_riscv.specs.SelectionRules.{compare, compared, compared_with, with_number, with_zero, compare_ult, compare_ugt, compare_slt, compare_sgt, compare_uge, compare_ule, compare_sge, compare_sle, compare_eq, compare_ne, compare_eq_zero, compare_ne_zero, compare_ult_number, compare_slt_number}
use Rattle.gi_riscv.proofs.MachineSteps.{rule_of, may_make}
use Rattle.gi_riscv.proofs.WordSteps.{word_step, immediate_step}

-- ══ Bits ══

one_word : (x : ℕ) → 0 < x → unsigned x (pos 1) ≡ 1
one_word x positive = let p : 2 ^ 1 ≤ 2 ^ x = pow-le-pow_right (lit< tt) positive in mod-eq_of_lt (omega (arith, p))

complement_bit : (b : Bool) → bit_xor (bit_of b) 1 ≡ bit_of (not b)
complement_bit true = refl
complement_bit false = refl

complement_word : (x : ℕ) (b : Bool) → 0 < x → xor_word x (bit_of b) (unsigned x (pos 1)) ≡ bit_of (not b)
complement_word x b positive = ap (bit_xor (bit_of b)) (one_word x positive) ∙ complement_bit b

not_below : (a b : ℕ) → not (nat_lt a b) ≡ nat_le b a
not_below a b = grind (arith, nat_tests)

not_less : (x y : ℤ) → not (int_lt x y) ≡ int_le y x
not_less (pos a) (pos b) = grind (arith, nat_tests)
not_less (pos a) (negsuc b) = refl
not_less (negsuc a) (pos b) = refl
not_less (negsuc a) (negsuc b) = grind (arith, nat_tests)

-- no bit differs of equal numbers alone
same_of_xor : (a b : ℕ) → bit_xor a b ≡ 0 → a ≡ b
same_of_xor a b none = sym (xor_zero_r a) ∙ (ap (bit_xor a) (sym (xor_self b)) ∙ (sym (xor_assoc a b b) ∙ (ap (λ m. bit_xor m b) none ∙ xor_zero_l b)))

xor_of_same : (a b : ℕ) → a ≡ b → bit_xor a b ≡ 0
xor_of_same a b same = ap (λ m. bit_xor m b) same ∙ xor_self b

is_zero : (m : ℕ) → nat_lt m 1 ≡ (m == 0)
is_zero m = grind (arith, nat_tests)

pub is_above : (m : ℕ) → nat_lt 0 m ≡ not (m == 0)
is_above m = grind (arith, nat_tests)

xor_is_zero : (a b : ℕ) → (bit_xor a b == 0) ≡ (a == b)
xor_is_zero a b = elim (cases_eq a b) [
  | inl same ↦ (let z : bit_xor a b ≡ 0 = xor_of_same a b same in grind (arith, nat_tests, z, same))
  | inr other ↦ (let z : (bit_xor a b ≡ 0 → ⊥) = λ h. other (same_of_xor a b h) in grind (arith, nat_tests, z, other))
]

-- ══ Forms ══

-- what the comparison gives, it may make
compare_made : (x : ℕ) (w : World) (outside : Outside) (pred : Pred) (flags : Flags) (facts : List Fact) (new : List Operation) (j a b r : ℕ) (env' : Environment) (made : Option Environment)
    → slice_get env' j ≡ Some (x, r) → r ≡ bit_of (holds pred x a b) → made ≡ Some env' → MayMake x w outside (rule_of (x ∷ x ∷ []) facts (compare pred flags x) new 2 j) ((x, a) ∷ (x, b) ∷ []) made
compare_made x w outside pred flags facts new j a b r env' made there right is =
    may_make x w outside (x ∷ x ∷ []) facts op.GenericCompare flags (Fixed (Test pred) ∷ At 0 ∷ At 1 ∷ []) new 2 j x r ((x, a) ∷ (x, b) ∷ []) env'
    comparison (Test pred ∷ Value x a ∷ Value x b ∷ []) made refl refl there (ap (λ v. v ∷ []) right) is

-- an instruction on the operands, and swapped
straight_sound : (x : ℕ) (w : World) (pred : Pred) (flags : Flags) (new : Opcode) (f : ℕ → ℕ → ℕ → ℕ)
    → meaning_of no_flags new ≡ Machine (on_words f) → ((a b : ℕ) → f x a b ≡ bit_of (holds pred x a b)) → IsSound x w (compared pred flags x (on_two new no_flags x 0 1 ∷ []))
straight_sound x w pred flags new f means right = record {
  by = λ outside a a_fits b b_fits facts made makes.
      let env : Environment = (x, a) ∷ (x, b) ∷ [] in
      compare_made x w outside pred flags [] (on_two new no_flags x 0 1 ∷ []) 2 a b (f x a b) (env ++ (x, f x a b) ∷ []) made refl (right a b)
      (word_step x w outside (meaning_of no_flags new) f a b env (Makes x w outside []) made makes.0 means makes.1 makes.2);
}

swapped_sound : (x : ℕ) (w : World) (pred : Pred) (flags : Flags) (new : Opcode) (f : ℕ → ℕ → ℕ → ℕ)
    → meaning_of no_flags new ≡ Machine (on_words f) → ((a b : ℕ) → f x b a ≡ bit_of (holds pred x a b)) → IsSound x w (compared pred flags x (on_two new no_flags x 1 0 ∷ []))
swapped_sound x w pred flags new f means right = record {
  by = λ outside a a_fits b b_fits facts made makes.
      let env : Environment = (x, a) ∷ (x, b) ∷ [] in
      compare_made x w outside pred flags [] (on_two new no_flags x 1 0 ∷ []) 2 a b (f x b a) (env ++ (x, f x b a) ∷ []) made refl (right a b)
      (word_step x w outside (meaning_of no_flags new) f b a env (Makes x w outside []) made makes.0 means makes.1 makes.2);
}

-- an instruction on the operands, and one on its result and a number
straight_number_sound : (x : ℕ) (w : World) (pred : Pred) (flags : Flags) (new then : Opcode) (f g : ℕ → ℕ → ℕ → ℕ) (i : ℤ)
    → meaning_of no_flags new ≡ Machine (on_words f) → meaning_of no_flags then ≡ Machine (on_immediate g) → is_immediate i ≡ true
    → ((a b : ℕ) → g x (f x a b) (unsigned x i) ≡ bit_of (holds pred x a b)) → IsSound x w (compared pred flags x (on_two new no_flags x 0 1 ∷ with_number then x 2 i ∷ []))
straight_number_sound x w pred flags new then f g i means means' short right = record {
  by = λ outside a a_fits b b_fits facts made makes.
      let env : Environment = (x, a) ∷ (x, b) ∷ [] in
      let second : Operation = with_number then x 2 i in
      let t : ℕ = f x a b in
      let more : Makes x w outside (second ∷ []) (env ++ (x, t) ∷ []) made =
      word_step x w outside (meaning_of no_flags new) f a b env (Makes x w outside (second ∷ [])) made makes.0 means makes.1 makes.2 in
      compare_made x w outside pred flags [] (on_two new no_flags x 0 1 ∷ second ∷ []) 3 a b (g x t (unsigned x i)) (env ++ (x, t) ∷ (x, g x t (unsigned x i)) ∷ []) made refl (right a b)
      (immediate_step x w outside (meaning_of no_flags then) g t i (env ++ (x, t) ∷ []) (Makes x w outside []) made more.0 means' short more.1 more.2);
}

swapped_number_sound : (x : ℕ) (w : World) (pred : Pred) (flags : Flags) (new then : Opcode) (f g : ℕ → ℕ → ℕ → ℕ) (i : ℤ)
    → meaning_of no_flags new ≡ Machine (on_words f) → meaning_of no_flags then ≡ Machine (on_immediate g) → is_immediate i ≡ true
    → ((a b : ℕ) → g x (f x b a) (unsigned x i) ≡ bit_of (holds pred x a b)) → IsSound x w (compared pred flags x (on_two new no_flags x 1 0 ∷ with_number then x 2 i ∷ []))
swapped_number_sound x w pred flags new then f g i means means' short right = record {
  by = λ outside a a_fits b b_fits facts made makes.
      let env : Environment = (x, a) ∷ (x, b) ∷ [] in
      let second : Operation = with_number then x 2 i in
      let t : ℕ = f x b a in
      let more : Makes x w outside (second ∷ []) (env ++ (x, t) ∷ []) made =
      word_step x w outside (meaning_of no_flags new) f b a env (Makes x w outside (second ∷ [])) made makes.0 means makes.1 makes.2 in
      compare_made x w outside pred flags [] (on_two new no_flags x 1 0 ∷ second ∷ []) 3 a b (g x t (unsigned x i)) (env ++ (x, t) ∷ (x, g x t (unsigned x i)) ∷ []) made refl (right a b)
      (immediate_step x w outside (meaning_of no_flags then) g t i (env ++ (x, t) ∷ []) (Makes x w outside []) made more.0 means' short more.1 more.2);
}

-- a number for the second operand
constant_sound : (x : ℕ) (w : World) (pred : Pred) (flags : Flags) (value : ℕ) (new : Opcode) (f : ℕ → ℕ → ℕ → ℕ) (i : ℤ)
    → meaning_of no_flags new ≡ Machine (on_immediate f) → is_immediate i ≡ true
    → ((a : ℕ) → f x a (unsigned x i) ≡ bit_of (holds pred x a value)) → IsSound x w (compared_with pred flags x value (with_number new x 0 i ∷ []))
constant_sound x w pred flags value new f i means short right = record {
  by = λ outside a a_fits b b_fits facts made makes.
      let env : Environment = (x, a) ∷ (x, b) ∷ [] in
      let b_is : b ≡ value = entry_value x b x value (constant_known x w outside env x value 1 facts.0) in
      let r : ℕ = f x a (unsigned x i) in
      compare_made x w outside pred flags (Defines (constant x value) (1 ∷ []) ∷ []) (with_number new x 0 i ∷ []) 2 a b r (env ++ (x, r) ∷ []) made refl
      (right a ∙ ap (λ c. bit_of (holds pred x a c)) (sym b_is))
      (immediate_step x w outside (meaning_of no_flags new) f a i env (Makes x w outside []) made makes.0 means short makes.1 makes.2);
}

-- ══ Rules ══

pub compare_ult_sound : (x : ℕ) (w : World) (flags : Flags) → IsSound x w (compare_ult x flags)
compare_ult_sound x w flags = straight_sound x w Ult flags op.SetLessUnsigned less_unsigned_word refl (λ a b. refl)

pub compare_ugt_sound : (x : ℕ) (w : World) (flags : Flags) → IsSound x w (compare_ugt x flags)
compare_ugt_sound x w flags = swapped_sound x w Ugt flags op.SetLessUnsigned less_unsigned_word refl (λ a b. refl)

pub compare_slt_sound : (x : ℕ) (w : World) (flags : Flags) → IsSound x w (compare_slt x flags)
compare_slt_sound x w flags = straight_sound x w Slt flags op.SetLess less_word refl (λ a b. refl)

pub compare_sgt_sound : (x : ℕ) (w : World) (flags : Flags) → IsSound x w (compare_sgt x flags)
compare_sgt_sound x w flags = swapped_sound x w Sgt flags op.SetLess less_word refl (λ a b. refl)

pub compare_uge_sound : (x : ℕ) (w : World) (flags : Flags) → 0 < x → IsSound x w (compare_uge x flags)
compare_uge_sound x w flags positive =
    straight_number_sound x w Uge flags op.SetLessUnsigned op.XorImmediate less_unsigned_word xor_word (pos 1) refl refl refl
    (λ a b. complement_word x (nat_lt a b) positive ∙ ap bit_of (not_below a b))

pub compare_ule_sound : (x : ℕ) (w : World) (flags : Flags) → 0 < x → IsSound x w (compare_ule x flags)
compare_ule_sound x w flags positive =
    swapped_number_sound x w Ule flags op.SetLessUnsigned op.XorImmediate less_unsigned_word xor_word (pos 1) refl refl refl
    (λ a b. complement_word x (nat_lt b a) positive ∙ ap bit_of (not_below b a))

pub compare_sge_sound : (x : ℕ) (w : World) (flags : Flags) → 0 < x → IsSound x w (compare_sge x flags)
compare_sge_sound x w flags positive =
    straight_number_sound x w Sge flags op.SetLess op.XorImmediate less_word xor_word (pos 1) refl refl refl
    (λ a b. complement_word x (int_lt (signed x a) (signed x b)) positive ∙ ap bit_of (not_less (signed x a) (signed x b)))

pub compare_sle_sound : (x : ℕ) (w : World) (flags : Flags) → 0 < x → IsSound x w (compare_sle x flags)
compare_sle_sound x w flags positive =
    swapped_number_sound x w Sle flags op.SetLess op.XorImmediate less_word xor_word (pos 1) refl refl refl
    (λ a b. complement_word x (int_lt (signed x b) (signed x a)) positive ∙ ap bit_of (not_less (signed x b) (signed x a)))

pub compare_eq_sound : (x : ℕ) (w : World) (flags : Flags) → 0 < x → IsSound x w (compare_eq x flags)
compare_eq_sound x w flags positive =
    straight_number_sound x w Eq flags op.Xor op.SetLessImmediateUnsigned xor_word less_unsigned_word (pos 1) refl refl refl
    (λ a b. ap (λ m. bit_of (nat_lt (bit_xor a b) m)) (one_word x positive) ∙ ap bit_of (is_zero (bit_xor a b) ∙ xor_is_zero a b))

pub compare_ne_sound : (x : ℕ) (w : World) (flags : Flags) → IsSound x w (compare_ne x flags)
compare_ne_sound x w flags = record {
  by = λ outside a a_fits b b_fits facts made makes.
      let env : Environment = (x, a) ∷ (x, b) ∷ [] in
      let second : Operation = with_zero op.SetLessUnsigned x 2 in
      let t : ℕ = bit_xor a b in
      let more : Makes x w outside (second ∷ []) (env ++ (x, t) ∷ []) made =
      word_step x w outside (meaning_of no_flags op.Xor) xor_word a b env (Makes x w outside (second ∷ [])) made makes.0 refl makes.1 makes.2 in
      compare_made x w outside Ne flags [] (on_two op.Xor no_flags x 0 1 ∷ second ∷ []) 3 a b (less_unsigned_word x 0 t) (env ++ (x, t) ∷ (x, less_unsigned_word x 0 t) ∷ []) made refl
      (ap bit_of (is_above t ∙ ap not (xor_is_zero a b)))
      (word_step x w outside (meaning_of no_flags op.SetLessUnsigned) less_unsigned_word 0 t (env ++ (x, t) ∷ []) (Makes x w outside []) made more.0 refl more.1 more.2);
}

pub compare_eq_zero_sound : (x : ℕ) (w : World) (flags : Flags) → 0 < x → IsSound x w (compare_eq_zero x flags)
compare_eq_zero_sound x w flags positive =
    constant_sound x w Eq flags 0 op.SetLessImmediateUnsigned less_unsigned_word (pos 1) refl refl (λ a. ap (λ m. bit_of (nat_lt a m)) (one_word x positive) ∙ ap bit_of (is_zero a))

pub compare_ne_zero_sound : (x : ℕ) (w : World) (flags : Flags) → IsSound x w (compare_ne_zero x flags)
compare_ne_zero_sound x w flags = record {
  by = λ outside a a_fits b b_fits facts made makes.
      let env : Environment = (x, a) ∷ (x, b) ∷ [] in
      let b_is : b ≡ 0 = entry_value x b x 0 (constant_known x w outside env x 0 1 facts.0) in
      let r : ℕ = less_unsigned_word x 0 a in
      compare_made x w outside Ne flags (Defines (constant x 0) (1 ∷ []) ∷ []) (with_zero op.SetLessUnsigned x 0 ∷ []) 2 a b r (env ++ (x, r) ∷ []) made refl
      (ap bit_of (is_above a) ∙ ap (λ c. bit_of (holds Ne x a c)) (sym b_is))
      (word_step x w outside (meaning_of no_flags op.SetLessUnsigned) less_unsigned_word 0 a env (Makes x w outside []) made makes.0 refl makes.1 makes.2);
}

pub compare_ult_number_sound : (x : ℕ) (w : World) (flags : Flags) (i : ℤ) → is_immediate i ≡ true → IsSound x w (compare_ult_number x flags i)
compare_ult_number_sound x w flags i short = constant_sound x w Ult flags (unsigned x i) op.SetLessImmediateUnsigned less_unsigned_word i refl short (λ a. refl)

pub compare_slt_number_sound : (x : ℕ) (w : World) (flags : Flags) (i : ℤ) → is_immediate i ≡ true → IsSound x w (compare_slt_number x flags i)
compare_slt_number_sound x w flags i short = constant_sound x w Slt flags (unsigned x i) op.SetLessImmediate less_word i refl short (λ a. refl)
