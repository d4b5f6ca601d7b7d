-- Quotients and remainders are selected.
use Rattle.std.proofs.Common.{ℕ, ◌-◌, ◌/◌, ◌%◌, ◌^◌, ◌<◌, ◌==◌, Bool, true, false, cond, ◌||◌, refl, arith}
use Rattle.std.specs.Prelude.{int_div, int_rem}
use Rattle.std.proofs.lemmas.Nat.{pow_pos}
use Rattle.std.proofs.Math.Nat.{mod-le, div-le_self}
use Rattle.gi_llt.specs.Bits.{unsigned, signed}
use Rattle.gi_mir.specs.declared.opcode.Opcode.TheVariants as op
use Rattle.gi_mir.specs.declared.operand.Flags.{Flags}
use Rattle.gi_meaning.specs.Given.{Undefined, unless_broken}
use Rattle.gi_meaning.specs.Generic.{unsigned_quotient, signed_quotient, unsigned_remainder, signed_remainder, overflows_division}
use Rattle.gi_meaning.specs.Machine.{quotient_word, quotient_unsigned_word, remainder_word, remainder_unsigned_word, on_low_half}
use Rattle.gi_meaning.specs.State.{World}
use Rattle.gi_meaning.proofs.Numbers.{unsigned_below}
use Rattle.gi_refine.specs.Values.{IsSound}
use Rattle.gi_riscv.specs.SelectionRules.{divide_unsigned, divide, remainder_unsigned, remainder, divide_unsigned_half, divide_half, remainder_unsigned_half, remainder_half}
use Rattle.gi_riscv.proofs.MachineSteps.{MayGive, may_unless}
use Rattle.gi_riscv.proofs.OneInstruction.{NumbersLaw, NumbersFit, registers_sound, whole_law, half_law}

-- ══ Numbers ══

-- undefined where the instruction gives another number, and also elsewhere
may_divide : (t s broken : Bool) (n other v : ℕ) → v < 2 ^ n → MayGive (cond (t || s) Undefined (unless_broken broken n v)) (cond t other v)
may_divide true s broken n other v fits = tt
may_divide false true broken n other v fits = tt
may_divide false false broken n other v fits = may_unless broken n v fits

-- undefined there alone
may_divide_unsigned : (t broken : Bool) (n other v : ℕ) → v < 2 ^ n → MayGive (cond t Undefined (unless_broken broken n v)) (cond t other v)
may_divide_unsigned true broken n other v fits = tt
may_divide_unsigned false broken n other v fits = may_unless broken n v fits

choice_below : (t : Bool) (p other v : ℕ) → other < p → v < p → cond t other v < p
choice_below true p other v h l = h
choice_below false p other v h l = l

all_ones : (n : ℕ) → 2 ^ n - 1 < 2 ^ n
all_ones n = omega (arith, pow_pos n)

unsigned_quotient_law : (flags : Flags) (n : ℕ) → NumbersLaw n (unsigned_quotient flags) quotient_unsigned_word
unsigned_quotient_law flags n a b a_fits b_fits = may_divide_unsigned (b == 0) _ n (2 ^ n - 1) (a / b) (omega (arith, div-le_self a b, a_fits))

unsigned_quotient_fits : (n : ℕ) → NumbersFit n quotient_unsigned_word
unsigned_quotient_fits n a b a_fits b_fits = choice_below (b == 0) (2 ^ n) (2 ^ n - 1) (a / b) (all_ones n) (omega (arith, div-le_self a b, a_fits))

signed_quotient_law : (flags : Flags) (n : ℕ) → NumbersLaw n (signed_quotient flags) quotient_word
signed_quotient_law flags n a b a_fits b_fits =
    may_divide (b == 0) (overflows_division n a b) _ n (2 ^ n - 1) (unsigned n (int_div (signed n a) (signed n b))) (unsigned_below n (int_div (signed n a) (signed n b)))

signed_quotient_fits : (n : ℕ) → NumbersFit n quotient_word
signed_quotient_fits n a b a_fits b_fits =
    choice_below (b == 0) (2 ^ n) (2 ^ n - 1) (unsigned n (int_div (signed n a) (signed n b))) (all_ones n) (unsigned_below n (int_div (signed n a) (signed n b)))

unsigned_remainder_law : (flags : Flags) (n : ℕ) → NumbersLaw n unsigned_remainder remainder_unsigned_word
unsigned_remainder_law flags n a b a_fits b_fits = may_divide_unsigned (b == 0) false n a (a % b) (omega (arith, mod-le a b, a_fits))

unsigned_remainder_fits : (n : ℕ) → NumbersFit n remainder_unsigned_word
unsigned_remainder_fits n a b a_fits b_fits = choice_below (b == 0) (2 ^ n) a (a % b) a_fits (omega (arith, mod-le a b, a_fits))

signed_remainder_law : (flags : Flags) (n : ℕ) → NumbersLaw n signed_remainder remainder_word
signed_remainder_law flags n a b a_fits b_fits =
    may_divide (b == 0) (overflows_division n a b) false n a (unsigned n (int_rem (signed n a) (signed n b))) (unsigned_below n (int_rem (signed n a) (signed n b)))

signed_remainder_fits : (n : ℕ) → NumbersFit n remainder_word
signed_remainder_fits n a b a_fits b_fits =
    choice_below (b == 0) (2 ^ n) a (unsigned n (int_rem (signed n a) (signed n b))) a_fits (unsigned_below n (int_rem (signed n a) (signed n b)))

-- ══ Rules ══

pub divide_unsigned_sound : (x : ℕ) (w : World) (flags : Flags) → IsSound x w (divide_unsigned x flags)
divide_unsigned_sound x w flags =
    registers_sound x w op.GenericUnsignedDivide flags x op.DivideUnsigned (unsigned_quotient flags) quotient_unsigned_word refl (λ answer outside arguments act. act) (whole_law x (unsigned_quotient flags) quotient_unsigned_word (unsigned_quotient_law flags x))

pub divide_unsigned_half_sound : (w : World) (flags : Flags) → IsSound 64 w (divide_unsigned_half flags)
divide_unsigned_half_sound w flags =
    registers_sound 64 w op.GenericUnsignedDivide flags 32 op.DivideUnsignedWord (unsigned_quotient flags) (on_low_half quotient_unsigned_word) refl (λ answer outside arguments act. act)
    (half_law (unsigned_quotient flags) quotient_unsigned_word (unsigned_quotient_law flags 32) (unsigned_quotient_fits 32))

pub divide_sound : (x : ℕ) (w : World) (flags : Flags) → IsSound x w (divide x flags)
divide_sound x w flags =
    registers_sound x w op.GenericSignedDivide flags x op.Divide (signed_quotient flags) quotient_word refl (λ answer outside arguments act. act) (whole_law x (signed_quotient flags) quotient_word (signed_quotient_law flags x))

pub divide_half_sound : (w : World) (flags : Flags) → IsSound 64 w (divide_half flags)
divide_half_sound w flags =
    registers_sound 64 w op.GenericSignedDivide flags 32 op.DivideWord (signed_quotient flags) (on_low_half quotient_word) refl (λ answer outside arguments act. act)
    (half_law (signed_quotient flags) quotient_word (signed_quotient_law flags 32) (signed_quotient_fits 32))

pub remainder_unsigned_sound : (x : ℕ) (w : World) (flags : Flags) → IsSound x w (remainder_unsigned x flags)
remainder_unsigned_sound x w flags =
    registers_sound x w op.GenericUnsignedRemainder flags x op.RemainderUnsigned unsigned_remainder remainder_unsigned_word refl (λ answer outside arguments act. act) (whole_law x unsigned_remainder remainder_unsigned_word (unsigned_remainder_law flags x))

pub remainder_unsigned_half_sound : (w : World) (flags : Flags) → IsSound 64 w (remainder_unsigned_half flags)
remainder_unsigned_half_sound w flags =
    registers_sound 64 w op.GenericUnsignedRemainder flags 32 op.RemainderUnsignedWord unsigned_remainder (on_low_half remainder_unsigned_word) refl (λ answer outside arguments act. act)
    (half_law unsigned_remainder remainder_unsigned_word (unsigned_remainder_law flags 32) (unsigned_remainder_fits 32))

pub remainder_sound : (x : ℕ) (w : World) (flags : Flags) → IsSound x w (remainder x flags)
remainder_sound x w flags =
    registers_sound x w op.GenericSignedRemainder flags x op.Remainder signed_remainder remainder_word refl (λ answer outside arguments act. act) (whole_law x signed_remainder remainder_word (signed_remainder_law flags x))

pub remainder_half_sound : (w : World) (flags : Flags) → IsSound 64 w (remainder_half flags)
remainder_half_sound w flags =
    registers_sound 64 w op.GenericSignedRemainder flags 32 op.RemainderWord signed_remainder (on_low_half remainder_word) refl (λ answer outside arguments act. act)
    (half_law signed_remainder remainder_word (signed_remainder_law flags 32) (signed_remainder_fits 32))
