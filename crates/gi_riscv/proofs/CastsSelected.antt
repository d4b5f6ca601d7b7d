-- Casts, addresses of stack objects and values that are free are selected.
use Rattle.std.proofs.Common.{◌≡◌, ℕ, ◌+◌, ◌%◌, ◌^◌, ◌<◌, ◌≤◌, ◌==◌, Bool, true, false, cond, nat_lt, [], ◌∷◌, ◌++◌, Some, refl, sym, ap, ◌∙◌, subst, arith, pos}
use Rattle.std.proofs.lemmas.Nat.{pow_pos}
use Rattle.std.proofs.lemmas.Bool.{true≢false, false≢true, le-ltb, eqb-true}
use Rattle.std.proofs.lemmas.Bool.Decides.{nat_tests}
use Rattle.std.proofs.Math.Nat.{mod-eq_of_lt}
use Rattle.gi_llt.specs.Bits.{unsigned, wrapped, sign_extended}
use Rattle.gi_mir.specs.Data.{no_flags}
use Rattle.gi_mir.specs.declared.opcode.Opcode.{Opcode}
use Rattle.gi_mir.specs.declared.opcode.Opcode.TheVariants as op
use Rattle.gi_mir.specs.declared.operand.Flags.{Flags}
use Rattle.gi_meaning.specs.Argument.{Value, Number}
use Rattle.gi_meaning.specs.Given.{free, Given, LowBits, Undefined, one, in_low_bits}
use Rattle.gi_meaning.specs.Generic.{unary, zero_extension, extension_in_register}
use Rattle.gi_meaning.specs.Machine.{add_immediate, by_amount, on_immediate, on_low_half, on_rv64, left_word, right_word, sum_word}
use Rattle.gi_meaning.specs.Meaning.{Generic, meaning_of}
use Rattle.gi_meaning.specs.State.{World}
use Rattle.gi_meaning.specs.Act.{Answers, copied}
use Rattle.gi_refine.specs.ValueRules.{on_one}
use Rattle.gi_refine.specs.Values.{Environment, At, Fixed, Operation, Makes, IsSound}
use Rattle.gi_refine.proofs.RuleSteps.{same_given}
use Rattle.gi_riscv.specs.SelectionRules.{leave_free, no_operands, stack_address, address_and_zero, with_number, zero_extend, sign_extend, sign_extend_in_register, by_copy, truncate, any_extend, pointer_to_integer, integer_to_pointer, freeze}
use Rattle.gi_riscv.proofs.MachineSteps.{same_made, MayGive, may_make, acts, OnNumber, on_word_and_number}
use Rattle.gi_riscv.proofs.WordSteps.{number_step}

-- ══ Extensions ══

-- to the left by half a word and back leaves the low half
low_half_left : (u : ℕ) → right_word 64 (left_word 64 u 32) 32 ≡ u % 2 ^ 32
low_half_left u = omega arith

may_extend : (broken : Bool) (a v : ℕ) → a < 2 ^ 32 → v ≡ a → MayGive (cond broken (LowBits 32 64 a) (one a)) v
may_extend true a v fits is = (v, omega (arith, fits, is), ap (λ u. u % 2 ^ 32) is, refl)
may_extend false a v fits is = ap (λ u. u ∷ []) is

pub zero_extend_sound : (w : World) (flags : Flags) → IsSound 64 w (zero_extend flags)
zero_extend_sound w flags = record {
  by = λ outside a a_fits facts made makes.
      let env : Environment = (32, a) ∷ [] in
      let second : Operation = with_number op.ShiftRightLogicalImmediate 64 1 (pos 32) in
      let step : OnNumber 64 (λ u. left_word 64 u 32) 32 a 64 env (Makes 64 w outside (second ∷ [])) made =
      on_word_and_number 64 w outside (by_amount (λ x. x) left_word) (λ u. left_word 64 u 32) 32 a 64 (pos 32) env (Makes 64 w outside (second ∷ [])) made makes.0 (λ width word. refl) makes.1 makes.2 in
      let t : ℕ = left_word 64 step.left 32 in
      let more : Makes 64 w outside (second ∷ []) (env ++ (64, t) ∷ []) made = step.more in
      let r : ℕ = right_word 64 t 32 in
      let is : made ≡ Some (env ++ (64, t) ∷ (64, r) ∷ []) =
      number_step 64 w outside (meaning_of no_flags op.ShiftRightLogicalImmediate) (by_amount (λ x. x) right_word) (λ u. right_word 64 u 32) t (pos 32) (env ++ (64, t) ∷ []) (Makes 64 w outside []) made more.0 refl (λ width word. refl) more.1 more.2 in
      may_make 64 w outside (32 ∷ []) [] op.GenericZeroExtend flags (At 0 ∷ []) (with_number op.ShiftLeftLogicalImmediate 64 0 (pos 32) ∷ second ∷ []) 1 2 64 r env (env ++ (64, t) ∷ (64, r) ∷ [])
      (unary (zero_extension flags)) (Value 32 a ∷ []) made refl refl refl (may_extend _ a r a_fits (low_half_left step.left ∙ step.left_reads.1 ∙ mod-eq_of_lt a_fits)) is;
}

low_sum : (u : ℕ) → wrapped 32 (wrapped 32 u + wrapped 32 0) ≡ wrapped 32 u
low_sum u = omega arith

-- the low half of a sum with zero, extended
extended_sum : (u : ℕ) → on_low_half sum_word 64 u 0 ≡ sign_extended 32 64 (wrapped 32 u)
extended_sum u = ap (sign_extended 32 64) (low_sum u)

pub sign_extend_sound : (w : World) (flags : Flags) → IsSound 64 w (sign_extend flags)
sign_extend_sound w flags = record {
  by = λ outside a a_fits facts made makes.
      let env : Environment = (32, a) ∷ [] in
      let step : OnNumber 64 (λ u. on_low_half sum_word 64 u 0) 32 a 64 env (Makes 64 w outside []) made =
      on_word_and_number 64 w outside (on_rv64 (on_immediate (on_low_half sum_word))) (λ u. on_low_half sum_word 64 u 0) 32 a 64 (pos 0) env (Makes 64 w outside []) made makes.0 (λ width word. refl) makes.1 makes.2 in
      let r : ℕ = on_low_half sum_word 64 step.left 0 in
      may_make 64 w outside (32 ∷ []) [] op.GenericSignExtend flags (At 0 ∷ []) (with_number op.AddImmediateWord 64 0 (pos 0) ∷ []) 1 1 64 r env (env ++ (64, r) ∷ [])
      (unary (λ m n a. one (sign_extended m n a))) (Value 32 a ∷ []) made refl refl refl (ap (λ v. v ∷ []) (extended_sum step.left ∙ ap (sign_extended 32 64) (step.left_reads.1 ∙ mod-eq_of_lt a_fits))) step.more;
}

pub sign_extend_in_register_sound : (w : World) (flags : Flags) → IsSound 64 w (sign_extend_in_register flags)
sign_extend_in_register_sound w flags = record {
  by = λ outside a a_fits facts made makes.
      let env : Environment = (64, a) ∷ [] in
      let r : ℕ = on_low_half sum_word 64 a 0 in
      let is : made ≡ Some (env ++ (64, r) ∷ []) =
      number_step 64 w outside (meaning_of no_flags op.AddImmediateWord) (on_rv64 (on_immediate (on_low_half sum_word))) (λ u. on_low_half sum_word 64 u 0) a (pos 0) env (Makes 64 w outside []) made makes.0 refl (λ width word. refl) makes.1 makes.2 in
      may_make 64 w outside (64 ∷ []) [] op.GenericSignExtendInRegister flags (At 0 ∷ Fixed (Number (pos 32)) ∷ []) (with_number op.AddImmediateWord 64 0 (pos 0) ∷ []) 1 1 64 r env (env ++ (64, r) ∷ [])
      extension_in_register (Value 64 a ∷ Number (pos 32) ∷ []) made refl refl refl (ap (λ v. v ∷ []) (extended_sum a)) is;
}

-- ══ Copies ══

copy_sound : (x : ℕ) (w : World) (old : Opcode) (flags : Flags) (m n : ℕ) (gives : ℕ → ℕ → ℕ → Given) → meaning_of flags old ≡ Generic (unary gives)
    → ((a : ℕ) → a < 2 ^ m → gives m n a ≡ copied m n a) → IsSound x w (by_copy old flags m n)
copy_sound x w old flags m n gives means same = record {
  by = λ outside a a_fits facts made makes.
      let env : Environment = (m, a) ∷ [] in
      same_made x w outside (m ∷ []) [] old flags (At 0 ∷ []) (on_one op.Copy n 0 ∷ []) 1 n env (copied m n a) made
      (λ answer may. acts x w outside old flags (At 0 ∷ []) n env (unary gives) (Value m a ∷ []) answer means refl (subst (λ g. Answers g outside answer) (sym (same a a_fits)) may))
      (same_given (copied m n a) outside n env env makes.0 made makes.1 makes.2);
}

low_at : (s t : Bool) (g : Given) (a b : ℕ) → s ≡ false → (t ≡ true → a ≡ b) → one b ≡ cond s g (cond t (one a) (one b))
low_at true t g a b is same = cc
low_at false true g a b is same = ap one (sym (same refl))
low_at false false g a b is same = refl

-- a copy to fewer bits, or as many, gives the low bits
copied_low : (m n a : ℕ) → n ≤ m → a < 2 ^ m → one (wrapped n a) ≡ copied m n a
copied_low m n a within fits =
    low_at (nat_lt m n) (m == n) (LowBits m n a) a (wrapped n a) (le-ltb m n within) (λ same. sym (mod-eq_of_lt (subst (λ k. a < 2 ^ k) (eqb-true m n same) fits)))

any_at : (s t : Bool) (g h k : Given) → (t ≡ false → s ≡ true) → cond s h (cond t g Undefined) ≡ cond s h (cond t g k)
any_at true t g h k other = refl
any_at false true g h k other = refl
any_at false false g h k other = absurd (false≢true (other refl))

not_equal_below : (m n : ℕ) → m ≤ n → (m == n) ≡ false → nat_lt m n ≡ true
not_equal_below m n within other = grind (arith, nat_tests, within, other)

-- a copy to more bits, or as many, leaves the bits above free
copied_free : (m n a : ℕ) → m ≤ n → in_low_bits m n a ≡ copied m n a
copied_free m n a within = any_at (nat_lt m n) (m == n) (one a) (LowBits m n a) (one (wrapped n a)) (not_equal_below m n within)

-- and to as many it is the value
copied_whole : (n a : ℕ) → a < 2 ^ n → one a ≡ copied n n a
copied_whole n a fits = ap one (sym (mod-eq_of_lt fits)) ∙ copied_low n n a (omega arith) fits

pub truncate_sound : (x : ℕ) (w : World) (flags : Flags) (m n : ℕ) → n ≤ m → IsSound x w (truncate flags m n)
truncate_sound x w flags m n within = copy_sound x w op.GenericTruncate flags m n (λ m n a. one (wrapped n a)) refl (λ a fits. copied_low m n a within fits)

pub any_extend_sound : (x : ℕ) (w : World) (flags : Flags) (m n : ℕ) → m ≤ n → IsSound x w (any_extend flags m n)
any_extend_sound x w flags m n within = copy_sound x w op.GenericAnyExtend flags m n (λ m n a. in_low_bits m n a) refl (λ a fits. copied_free m n a within)

pub pointer_to_integer_sound : (x : ℕ) (w : World) (flags : Flags) (m n : ℕ) → n ≤ m → IsSound x w (pointer_to_integer flags m n)
pointer_to_integer_sound x w flags m n within = copy_sound x w op.GenericPointerToInteger flags m n (λ m n a. one (wrapped n a)) refl (λ a fits. copied_low m n a within fits)

pub integer_to_pointer_sound : (x : ℕ) (w : World) (flags : Flags) (m n : ℕ) → n ≤ m → IsSound x w (integer_to_pointer flags m n)
integer_to_pointer_sound x w flags m n within = copy_sound x w op.GenericIntegerToPointer flags m n (λ m n a. one (wrapped n a)) refl (λ a fits. copied_low m n a within fits)

pub freeze_sound : (x : ℕ) (w : World) (flags : Flags) (n : ℕ) → IsSound x w (freeze flags n)
freeze_sound x w flags n = copy_sound x w op.GenericFreeze flags n n (λ m n a. one a) refl (λ a fits. copied_whole n a fits)

-- ══ A value that is free, and the address of a stack object ══

pub leave_free_sound : (x : ℕ) (w : World) (n : ℕ) (flags : Flags) → IsSound x w (leave_free n flags)
leave_free_sound x w n flags = record {
  by = λ outside facts made makes.
      same_made x w outside [] [] op.GenericImplicitDef flags [] (no_operands op.ImplicitDef no_flags n ∷ []) 0 n [] (free n) made (λ answer may. may)
      (same_given (free n) outside n [] [] makes.0 made makes.1 makes.2);
}

with_zero_added : (x a : ℕ) → a < 2 ^ x → wrapped x (a + unsigned x (pos 0)) ≡ a
with_zero_added x a fits = let z : 0 % 2 ^ x ≡ 0 = mod-eq_of_lt (pow_pos x) in ap (wrapped x) (omega (arith, z)) ∙ mod-eq_of_lt fits

pub stack_address_sound : (x : ℕ) (w : World) (flags : Flags) (address : ℕ) → address < 2 ^ x → IsSound x w (stack_address x flags address)
stack_address_sound x w flags address fits = record {
  by = λ outside facts made makes.
      let r : ℕ = wrapped x (address + unsigned x (pos 0)) in
      may_make x w outside [] [] op.GenericFrameIndex flags (Fixed (Value x address) ∷ []) (address_and_zero x address ∷ []) 0 0 x r [] ((x, r) ∷ [])
      (unary (λ m n a. one a)) (Value x address ∷ []) made refl refl refl (ap (λ v. v ∷ []) (with_zero_added x address fits))
      (number_step x w outside (meaning_of no_flags op.AddImmediate) add_immediate (λ u. sum_word x u (unsigned x (pos 0))) address (pos 0) [] (Makes x w outside []) made makes.0 refl (λ width word. refl) makes.1 makes.2);
}
