-- Shifts are selected.
use Rattle.std.proofs.Common.{◌≡◌, ℕ, zero, suc, ◌+◌, ◌*◌, ◌/◌, ◌%◌, ◌^◌, ◌<◌, Bool, true, false, cond, refl, ap, ◌∙◌, subst, arith, lit<, pos, nat_lt, nat_le}
use Rattle.std.proofs.lemmas.Nat.{pow_pos, mod_below, shr_le}
use Rattle.std.proofs.lemmas.Bool.{leb-false, lt-ltb}
use Rattle.std.proofs.Math.Nat.{mod-eq_of_lt, pow-suc}
use Rattle.std.proofs.Math.Pow.{mod-mod-pow}
use Rattle.gi_llt.specs.Bits.{wrapped, unsigned, sign_extended}
use Rattle.gi_mir.specs.Data.{no_flags}
use Rattle.gi_mir.specs.declared.opcode.Opcode.{Opcode}
use Rattle.gi_mir.specs.declared.opcode.Opcode.TheVariants as op
use Rattle.gi_mir.specs.declared.operand.Flags.{Flags}
use Rattle.gi_meaning.specs.Given.{Given, one, free, unless_broken}
use Rattle.gi_meaning.specs.Generic.{binary, shifted_left, shifted_right, arithmetically_shifted_right, arithmetic_shift_of}
use Rattle.gi_meaning.specs.Machine.{left_word, right_word, arithmetic_right_word, on_low_half, by_amount, on_rv64}
use Rattle.gi_meaning.specs.Meaning.{Generic, Machine, meaning_of}
use Rattle.gi_meaning.specs.State.{World}
use Rattle.gi_refine.specs.Values.{IsSound}
use Rattle.gi_refine.proofs.RuleSteps.{unless_given}
use Rattle.gi_riscv.specs.SelectionRules.{by_number, shift_left, shift_right, shift_right_signed, shift_left_half, shift_right_half, shift_right_signed_half, shift_left_by, shift_right_by, shift_right_signed_by, shift_left_half_by, shift_right_half_by, shift_right_signed_half_by}
use Rattle.gi_riscv.proofs.MachineSteps.{MayGive, may_unless}
use Rattle.gi_riscv.proofs.OneInstruction.{NumbersLaw, NumbersFit, registers_sound, number_sound, whole_law, half_law, whole_number_law, half_number_law, if_true}

-- ══ Numbers ══

-- any value that fits where the amount is too great, and else this one unless a promise is broken
may_shift : (t : Bool) (b : Bool) (n v u : ℕ) → v < 2 ^ n → (t ≡ false → v ≡ u) → MayGive (cond t (free n) (unless_broken b n u)) v
may_shift true b n v u fits same = unless_given true n v v fits refl
may_shift false b n v u fits same = subst (λ r. MayGive (unless_broken b n r) v) (same refl) (may_unless b n v fits)

-- an amount below the width is taken whole
amount : (n k : ℕ) → nat_le n k ≡ false → k % n ≡ k
amount n k within = mod-eq_of_lt (leb-false n k within)

left_fits : (n : ℕ) → NumbersFit n left_word
left_fits n a b a_fits b_fits = mod_below (a * 2 ^ (b % n)) (2 ^ n) (pow_pos n)

left_law : (flags : Flags) (n : ℕ) → NumbersLaw n (shifted_left flags) left_word
left_law flags n a b a_fits b_fits =
    may_shift (nat_le n b) _ n (left_word n a b) (wrapped n (a * 2 ^ b)) (left_fits n a b a_fits b_fits) (λ within. ap (λ k. wrapped n (a * 2 ^ k)) (amount n b within))

right_fits : (n : ℕ) → NumbersFit n right_word
right_fits n a b a_fits b_fits = omega (arith, shr_le a (b % n), a_fits)

right_law : (flags : Flags) (n : ℕ) → NumbersLaw n (shifted_right flags) right_word
right_law flags n a b a_fits b_fits =
    may_shift (nat_le n b) _ n (right_word n a b) (a / 2 ^ b) (right_fits n a b a_fits b_fits) (λ within. ap (λ k. a / 2 ^ k) (amount n b within))

signed_fits : (n : ℕ) → NumbersFit n arithmetic_right_word
signed_fits n a b a_fits b_fits = mod_below (sign_extended n (n + b % n) a / 2 ^ (b % n)) (2 ^ n) (pow_pos n)

signed_law : (flags : Flags) (n : ℕ) → NumbersLaw n (arithmetically_shifted_right flags) arithmetic_right_word
signed_law flags n a b a_fits b_fits =
    may_shift (nat_le n b) _ n (arithmetic_right_word n a b) (arithmetic_shift_of n a b) (signed_fits n a b a_fits b_fits) (λ within. ap (arithmetic_shift_of n a) (amount n b within))

below_power : (x : ℕ) → x < 2 ^ x
below_power zero = lit< tt
below_power (suc x) = omega (arith, below_power x, pow-suc 2 x)

amount_fits : (x k : ℕ) → k < x → k < 2 ^ x
amount_fits x k within = omega (arith, within, below_power x)

amount_low : (k : ℕ) → k < 32 → wrapped 32 (unsigned 64 (pos k)) ≡ k
amount_low k within = mod-mod-pow k 32 32 ∙ mod-eq_of_lt (omega (arith, within))

-- ══ By a constant ══

by_sound : (x : ℕ) (w : World) (old : Opcode) (flags : Flags) (new : Opcode) (k : ℕ) (gives : ℕ → ℕ → ℕ → Given) (f : ℕ → ℕ → ℕ → ℕ) → meaning_of flags old ≡ Generic (binary gives)
    → meaning_of no_flags new ≡ Machine (by_amount (λ x. x) f) → NumbersLaw x gives f → k < x → IsSound x w (by_number old flags x k new (pos k))
by_sound x w old flags new k gives f means means' law within =
    number_sound x w old flags x k new (pos k) gives (by_amount (λ x. x) f) (λ u. f x u k) means means'
    (λ width word. if_true (nat_lt k x) (one (f x word (unsigned x (pos k)))) (lt-ltb k x within) ∙ ap (λ m. one (f x word m)) (mod-eq_of_lt (amount_fits x k within)))
    (whole_number_law x k gives f law (amount_fits x k within))

half_by_sound : (w : World) (old : Opcode) (flags : Flags) (new : Opcode) (k : ℕ) (gives : ℕ → ℕ → ℕ → Given) (f : ℕ → ℕ → ℕ → ℕ) → meaning_of flags old ≡ Generic (binary gives)
    → meaning_of no_flags new ≡ Machine (on_rv64 (by_amount (λ x. 32) (on_low_half f))) → NumbersLaw 32 gives f → NumbersFit 32 f → k < 32 → IsSound 64 w (by_number old flags 32 k new (pos k))
half_by_sound w old flags new k gives f means means' law fit within =
    number_sound 64 w old flags 32 k new (pos k) gives (on_rv64 (by_amount (λ x. 32) (on_low_half f))) (λ u. on_low_half f 64 u (unsigned 64 (pos k))) means means'
    (λ width word. if_true (nat_lt k 32) (one (on_low_half f 64 word (unsigned 64 (pos k)))) (lt-ltb k 32 within))
    (half_number_law k (unsigned 64 (pos k)) gives f law fit (amount_low k within))

-- ══ Rules ══

pub shift_left_sound : (x : ℕ) (w : World) (flags : Flags) → IsSound x w (shift_left x flags)
shift_left_sound x w flags =
    registers_sound x w op.GenericShiftLeft flags x op.ShiftLeftLogical (shifted_left flags) left_word refl (λ answer outside arguments act. act) (whole_law x (shifted_left flags) left_word (left_law flags x))

pub shift_left_half_sound : (w : World) (flags : Flags) → IsSound 64 w (shift_left_half flags)
shift_left_half_sound w flags =
    registers_sound 64 w op.GenericShiftLeft flags 32 op.ShiftLeftLogicalWord (shifted_left flags) (on_low_half left_word) refl (λ answer outside arguments act. act)
    (half_law (shifted_left flags) left_word (left_law flags 32) (left_fits 32))

pub shift_left_by_sound : (x : ℕ) (w : World) (flags : Flags) (k : ℕ) → k < x → IsSound x w (shift_left_by x flags k)
shift_left_by_sound x w flags k within = by_sound x w op.GenericShiftLeft flags op.ShiftLeftLogicalImmediate k (shifted_left flags) left_word refl refl (left_law flags x) within

pub shift_left_half_by_sound : (w : World) (flags : Flags) (k : ℕ) → k < 32 → IsSound 64 w (shift_left_half_by flags k)
shift_left_half_by_sound w flags k within = half_by_sound w op.GenericShiftLeft flags op.ShiftLeftLogicalImmediateWord k (shifted_left flags) left_word refl refl (left_law flags 32) (left_fits 32) within

pub shift_right_sound : (x : ℕ) (w : World) (flags : Flags) → IsSound x w (shift_right x flags)
shift_right_sound x w flags =
    registers_sound x w op.GenericLogicalShiftRight flags x op.ShiftRightLogical (shifted_right flags) right_word refl (λ answer outside arguments act. act) (whole_law x (shifted_right flags) right_word (right_law flags x))

pub shift_right_half_sound : (w : World) (flags : Flags) → IsSound 64 w (shift_right_half flags)
shift_right_half_sound w flags =
    registers_sound 64 w op.GenericLogicalShiftRight flags 32 op.ShiftRightLogicalWord (shifted_right flags) (on_low_half right_word) refl (λ answer outside arguments act. act)
    (half_law (shifted_right flags) right_word (right_law flags 32) (right_fits 32))

pub shift_right_by_sound : (x : ℕ) (w : World) (flags : Flags) (k : ℕ) → k < x → IsSound x w (shift_right_by x flags k)
shift_right_by_sound x w flags k within = by_sound x w op.GenericLogicalShiftRight flags op.ShiftRightLogicalImmediate k (shifted_right flags) right_word refl refl (right_law flags x) within

pub shift_right_half_by_sound : (w : World) (flags : Flags) (k : ℕ) → k < 32 → IsSound 64 w (shift_right_half_by flags k)
shift_right_half_by_sound w flags k within = half_by_sound w op.GenericLogicalShiftRight flags op.ShiftRightLogicalImmediateWord k (shifted_right flags) right_word refl refl (right_law flags 32) (right_fits 32) within

pub shift_right_signed_sound : (x : ℕ) (w : World) (flags : Flags) → IsSound x w (shift_right_signed x flags)
shift_right_signed_sound x w flags =
    registers_sound x w op.GenericArithmeticShiftRight flags x op.ShiftRightArithmetic (arithmetically_shifted_right flags) arithmetic_right_word refl (λ answer outside arguments act. act) (whole_law x (arithmetically_shifted_right flags) arithmetic_right_word (signed_law flags x))

pub shift_right_signed_half_sound : (w : World) (flags : Flags) → IsSound 64 w (shift_right_signed_half flags)
shift_right_signed_half_sound w flags =
    registers_sound 64 w op.GenericArithmeticShiftRight flags 32 op.ShiftRightArithmeticWord (arithmetically_shifted_right flags) (on_low_half arithmetic_right_word) refl (λ answer outside arguments act. act)
    (half_law (arithmetically_shifted_right flags) arithmetic_right_word (signed_law flags 32) (signed_fits 32))

pub shift_right_signed_by_sound : (x : ℕ) (w : World) (flags : Flags) (k : ℕ) → k < x → IsSound x w (shift_right_signed_by x flags k)
shift_right_signed_by_sound x w flags k within = by_sound x w op.GenericArithmeticShiftRight flags op.ShiftRightArithmeticImmediate k (arithmetically_shifted_right flags) arithmetic_right_word refl refl (signed_law flags x) within

pub shift_right_signed_half_by_sound : (w : World) (flags : Flags) (k : ℕ) → k < 32 → IsSound 64 w (shift_right_signed_half_by flags k)
shift_right_signed_half_by_sound w flags k within = half_by_sound w op.GenericArithmeticShiftRight flags op.ShiftRightArithmeticImmediateWord k (arithmetically_shifted_right flags) arithmetic_right_word refl refl (signed_law flags 32) (signed_fits 32) within
