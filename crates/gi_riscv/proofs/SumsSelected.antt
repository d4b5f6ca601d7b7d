-- Sums and differences are selected.
use Rattle.std.proofs.Common.{lit≤, ◌≡◌, ℕ, suc, zero, ◌-◌, ◌+◌, ◌*◌, ◌^◌, ◌%◌, ◌<◌, ◌≤◌, ◌⊎◌, inl, inr, true, refl, sym, ap, ◌∙◌, subst, arith, ℤ, pos, negsuc, ◌-ℤ◌, neg_ℤ}
use Rattle.std.proofs.lemmas.Nat.{pow_pos, mod_below}
use Rattle.std.proofs.lemmas.Bool.{cases_lt}
use Rattle.std.proofs.lemmas.Int.{ints}
use Rattle.std.proofs.Math.Nat.{mod-eq_of_lt, add-mul-mod_self_left}
use Rattle.gi_llt.specs.Bits.{wrapped, unsigned}
use Rattle.gi_mir.specs.declared.opcode.Opcode.TheVariants as op
use Rattle.gi_mir.specs.declared.operand.Flags.{Flags}
use Rattle.gi_meaning.specs.Given.{one}
use Rattle.gi_meaning.specs.Generic.{sum, difference, difference_of}
use Rattle.gi_meaning.specs.Machine.{sum_word, is_immediate, on_low_half, add_immediate, on_rv64, on_immediate}
use Rattle.gi_meaning.specs.State.{World}
use Rattle.gi_meaning.proofs.Numbers.{unsigned_below, mod-step}
use Rattle.gi_refine.specs.Values.{IsSound}
use Rattle.gi_riscv.specs.SelectionRules.{add, add_pointer, subtract, add_half, subtract_half, add_number, add_first_number, add_number_to_pointer, add_number_half, add_first_number_half, subtract_number, subtract_number_half}
use Rattle.gi_riscv.proofs.LowBits.{unsigned_low}
use Rattle.gi_riscv.proofs.MachineSteps.{MayGive, may_unless}
use Rattle.gi_riscv.proofs.OneInstruction.{NumbersLaw, NumbersFit, registers_sound, number_sound, first_number_sound, whole_law, half_law, whole_number_law, half_number_law, whole_may, half_may, if_true}

-- ══ Numbers ══

sum_fits : (n : ℕ) → NumbersFit n sum_word
sum_fits n a b a_fits b_fits = mod_below (a + b) (2 ^ n) (pow_pos n)

sum_law : (flags : Flags) (n : ℕ) → NumbersLaw n (sum flags) sum_word
sum_law flags n a b a_fits b_fits = may_unless _ n (wrapped n (a + b)) (sum_fits n a b a_fits b_fits)

swapped_sum : (a b : ℕ) → a + b ≡ b + a
swapped_sum a b = omega arith

-- with the summands swapped
sum_law_swapped : (flags : Flags) (n : ℕ) → NumbersLaw n (λ n a b. sum flags n b a) sum_word
sum_law_swapped flags n a b a_fits b_fits =
    subst (λ s. MayGive (sum flags n b a) (wrapped n s)) (swapped_sum b a) (sum_law flags n b a b_fits a_fits)

pointer_law : (n : ℕ) → NumbersLaw n (λ n a b. one (wrapped n (a + b))) sum_word
pointer_law n a b a_fits b_fits = refl

difference_fits : (n : ℕ) → NumbersFit n difference_of
difference_fits n a b a_fits b_fits = unsigned_below n (pos a -ℤ pos b)

difference_law : (flags : Flags) (n : ℕ) → NumbersLaw n (difference flags) difference_of
difference_law flags n a b a_fits b_fits = may_unless _ n (difference_of n a b) (difference_fits n a b a_fits b_fits)

-- ══ Opposites ══

-- two words of which the one negates the other
abbrev Opposite : (n r c : ℕ) → Type 0
Opposite n r c = (r + c ≡ 2 ^ n) ⊎ ((r ≡ 0) × (c ≡ 0))

opposite : (n : ℕ) (i : ℤ) → Opposite n (unsigned n i) (unsigned n (neg_ℤ i))
opposite n (pos zero) = inr (mod-eq_of_lt (pow_pos n), mod-eq_of_lt (pow_pos n))
opposite n (pos (suc k)) = elim (mod-step k (2 ^ n) (pow_pos n)) [
  | inl a ↦ inr (a.0, omega (arith, a))
  | inr a ↦ inl (omega (arith, a))
]
opposite n (negsuc k) = elim (mod-step k (2 ^ n) (pow_pos n)) [
  | inl a ↦ inr (omega (arith, a), a.0)
  | inr a ↦ inl (omega (arith, a))
]

difference_low : (n a c : ℕ) → a < 2 ^ n → c ≤ a → difference_of n a c ≡ a - c
difference_low n a c fits h =
    let z : pos a -ℤ pos c ≡ pos (a - c) = omega (arith, ints) in ap (unsigned n) z ∙ mod-eq_of_lt (omega arith)

difference_high : (n a c : ℕ) → a < c → c ≤ 2 ^ n → difference_of n a c ≡ 2 ^ n - (c - a)
difference_high n a c h fits =
    let z : pos a -ℤ pos c ≡ negsuc (c - a - 1) = omega (arith, ints) in
    let m : (c - a - 1) % 2 ^ n ≡ c - a - 1 = mod-eq_of_lt (omega arith) in
    ap (unsigned n) z ∙ omega (arith, m)

sum_over : (n a r : ℕ) → a < 2 ^ n → r ≤ 2 ^ n → 2 ^ n ≤ a + r → wrapped n (a + r) ≡ a + r - 2 ^ n
sum_over n a r fits small h =
    let s : a + r ≡ a + r - 2 ^ n + 2 ^ n * 1 = omega arith in
    ap (λ m. m % 2 ^ n) s ∙ (add-mul-mod_self_left (a + r - 2 ^ n) (2 ^ n) 1 ∙ mod-eq_of_lt (omega arith))

-- a difference is the sum with the opposite
sum_with_opposite : (n a r c : ℕ) → a < 2 ^ n → Opposite n r c → wrapped n (a + r) ≡ difference_of n a c
sum_with_opposite n a r c fits (inl whole) = elim (cases_lt a c) [
  | inl h ↦ (let s : wrapped n (a + r) ≡ a + r = mod-eq_of_lt (omega arith) in let d : difference_of n a c ≡ 2 ^ n - (c - a) = difference_high n a c h (omega arith) in s ∙ (omega arith ∙ sym d))
  | inr h ↦ (let s : wrapped n (a + r) ≡ a + r - 2 ^ n = sum_over n a r fits (omega arith) (omega arith) in let d : difference_of n a c ≡ a - c = difference_low n a c fits h in s ∙ (omega arith ∙ sym d))
]
sum_with_opposite n a r c fits (inr zeros) =
    let s : wrapped n (a + r) ≡ a = ap (wrapped n) (omega (arith, zeros)) ∙ mod-eq_of_lt fits in
    let d : difference_of n a c ≡ a - c = difference_low n a c fits (omega (arith, zeros)) in s ∙ (omega (arith, zeros) ∙ sym d)

-- a difference with a constant is the sum with the opposite number
difference_number_law : (flags : Flags) (n : ℕ) (i : ℤ) (a : ℕ) → a < 2 ^ n → MayGive (difference flags n a (unsigned n (neg_ℤ i))) (sum_word n a (unsigned n i))
difference_number_law flags n i a a_fits =
    subst (MayGive (difference flags n a (unsigned n (neg_ℤ i)))) (sym (sum_with_opposite n a (unsigned n i) (unsigned n (neg_ℤ i)) a_fits (opposite n i)))
    (difference_law flags n a (unsigned n (neg_ℤ i)) a_fits (unsigned_below n (neg_ℤ i)))

-- ══ Rules ══

pub add_sound : (x : ℕ) (w : World) (flags : Flags) → IsSound x w (add x flags)
add_sound x w flags = registers_sound x w op.GenericAdd flags x op.Add (sum flags) sum_word refl (λ answer outside arguments act. act) (whole_law x (sum flags) sum_word (sum_law flags x))

pub add_pointer_sound : (x : ℕ) (w : World) (flags : Flags) → IsSound x w (add_pointer x flags)
add_pointer_sound x w flags =
    registers_sound x w op.GenericPointerAdd flags x op.Add (λ n a b. one (wrapped n (a + b))) sum_word refl (λ answer outside arguments act. act)
    (whole_law x (λ n a b. one (wrapped n (a + b))) sum_word (pointer_law x))

pub subtract_sound : (x : ℕ) (w : World) (flags : Flags) → IsSound x w (subtract x flags)
subtract_sound x w flags =
    registers_sound x w op.GenericSubtract flags x op.Subtract (difference flags) difference_of refl (λ answer outside arguments act. act)
    (whole_law x (difference flags) difference_of (difference_law flags x))

pub add_half_sound : (w : World) (flags : Flags) → IsSound 64 w (add_half flags)
add_half_sound w flags =
    registers_sound 64 w op.GenericAdd flags 32 op.AddWord (sum flags) (on_low_half sum_word) refl (λ answer outside arguments act. act)
    (half_law (sum flags) sum_word (sum_law flags 32) (sum_fits 32))

pub subtract_half_sound : (w : World) (flags : Flags) → IsSound 64 w (subtract_half flags)
subtract_half_sound w flags =
    registers_sound 64 w op.GenericSubtract flags 32 op.SubtractWord (difference flags) (on_low_half difference_of) refl (λ answer outside arguments act. act)
    (half_law (difference flags) difference_of (difference_law flags 32) (difference_fits 32))

pub add_number_sound : (x : ℕ) (w : World) (flags : Flags) (i : ℤ) → is_immediate i ≡ true → IsSound x w (add_number x flags i)
add_number_sound x w flags i short =
    number_sound x w op.GenericAdd flags x (unsigned x i) op.AddImmediate i (sum flags) add_immediate (λ u. sum_word x u (unsigned x i)) refl refl
    (λ width word. if_true (is_immediate i) (one (sum_word x word (unsigned x i))) short) (whole_number_law x (unsigned x i) (sum flags) sum_word (sum_law flags x) (unsigned_below x i))

pub add_first_number_sound : (x : ℕ) (w : World) (flags : Flags) (i : ℤ) → is_immediate i ≡ true → IsSound x w (add_first_number x flags i)
add_first_number_sound x w flags i short =
    first_number_sound x w op.GenericAdd flags x (unsigned x i) op.AddImmediate i (sum flags) add_immediate (λ u. sum_word x u (unsigned x i)) refl refl
    (λ width word. if_true (is_immediate i) (one (sum_word x word (unsigned x i))) short)
    (whole_number_law x (unsigned x i) (λ n a b. sum flags n b a) sum_word (sum_law_swapped flags x) (unsigned_below x i))

pub add_number_to_pointer_sound : (x : ℕ) (w : World) (flags : Flags) (i : ℤ) → is_immediate i ≡ true → IsSound x w (add_number_to_pointer x flags i)
add_number_to_pointer_sound x w flags i short =
    number_sound x w op.GenericPointerAdd flags x (unsigned x i) op.AddImmediate i (λ n a b. one (wrapped n (a + b))) add_immediate (λ u. sum_word x u (unsigned x i)) refl refl
    (λ width word. if_true (is_immediate i) (one (sum_word x word (unsigned x i))) short)
    (whole_number_law x (unsigned x i) (λ n a b. one (wrapped n (a + b))) sum_word (pointer_law x) (unsigned_below x i))

pub add_number_half_sound : (w : World) (flags : Flags) (i : ℤ) → is_immediate i ≡ true → IsSound 64 w (add_number_half flags i)
add_number_half_sound w flags i short =
    number_sound 64 w op.GenericAdd flags 32 (unsigned 32 i) op.AddImmediateWord i (sum flags) (on_rv64 (on_immediate (on_low_half sum_word))) (λ u. on_low_half sum_word 64 u (unsigned 64 i)) refl refl
    (λ width word. if_true (is_immediate i) (one (on_low_half sum_word 64 word (unsigned 64 i))) short)
    (half_number_law (unsigned 32 i) (unsigned 64 i) (sum flags) sum_word (sum_law flags 32) (sum_fits 32) (unsigned_low 64 32 i (lit≤ tt)))

pub add_first_number_half_sound : (w : World) (flags : Flags) (i : ℤ) → is_immediate i ≡ true → IsSound 64 w (add_first_number_half flags i)
add_first_number_half_sound w flags i short =
    first_number_sound 64 w op.GenericAdd flags 32 (unsigned 32 i) op.AddImmediateWord i (sum flags) (on_rv64 (on_immediate (on_low_half sum_word))) (λ u. on_low_half sum_word 64 u (unsigned 64 i)) refl refl
    (λ width word. if_true (is_immediate i) (one (on_low_half sum_word 64 word (unsigned 64 i))) short)
    (half_number_law (unsigned 32 i) (unsigned 64 i) (λ n a b. sum flags n b a) sum_word (sum_law_swapped flags 32) (sum_fits 32) (unsigned_low 64 32 i (lit≤ tt)))

pub subtract_number_sound : (x : ℕ) (w : World) (flags : Flags) (i : ℤ) → is_immediate i ≡ true → IsSound x w (subtract_number x flags i)
subtract_number_sound x w flags i short =
    number_sound x w op.GenericSubtract flags x (unsigned x (neg_ℤ i)) op.AddImmediate i (difference flags) add_immediate (λ u. sum_word x u (unsigned x i)) refl refl
    (λ width word. if_true (is_immediate i) (one (sum_word x word (unsigned x i))) short)
    (λ a u a_fits left. whole_may (difference flags x a (unsigned x (neg_ℤ i))) x a u (λ v. sum_word x v (unsigned x i)) left (difference_number_law flags x i a a_fits))

pub subtract_number_half_sound : (w : World) (flags : Flags) (i : ℤ) → is_immediate i ≡ true → IsSound 64 w (subtract_number_half flags i)
subtract_number_half_sound w flags i short =
    number_sound 64 w op.GenericSubtract flags 32 (unsigned 32 (neg_ℤ i)) op.AddImmediateWord i (difference flags) (on_rv64 (on_immediate (on_low_half sum_word))) (λ u. on_low_half sum_word 64 u (unsigned 64 i)) refl refl
    (λ width word. if_true (is_immediate i) (one (on_low_half sum_word 64 word (unsigned 64 i))) short)
    (λ a u a_fits left. half_may (difference flags 32 a (unsigned 32 (neg_ℤ i))) a u (unsigned 32 i) (unsigned 64 i) sum_word left (unsigned_low 64 32 i (lit≤ tt)) (sum_fits 32) (difference_number_law flags 32 i a a_fits))
