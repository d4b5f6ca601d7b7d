-- Products are selected.
use Rattle.std.proofs.Common.{ℕ, ◌*◌, ◌^◌, refl}
use Rattle.std.proofs.lemmas.Nat.{pow_pos, mod_below}
use Rattle.gi_llt.specs.Bits.{wrapped, unsigned_high_product, signed_high_product}
use Rattle.gi_mir.specs.declared.opcode.Opcode.TheVariants as op
use Rattle.gi_mir.specs.declared.operand.Flags.{Flags}
use Rattle.gi_meaning.specs.Given.{one}
use Rattle.gi_meaning.specs.Generic.{product}
use Rattle.gi_meaning.specs.Machine.{product_word, on_low_half}
use Rattle.gi_meaning.specs.State.{World}
use Rattle.gi_refine.specs.Values.{IsSound}
use Rattle.gi_riscv.specs.SelectionRules.{multiply, multiply_half, multiply_high_unsigned, multiply_high}
use Rattle.gi_riscv.proofs.MachineSteps.{may_unless}
use Rattle.gi_riscv.proofs.OneInstruction.{NumbersLaw, NumbersFit, registers_sound, whole_law, half_law}

product_fits : (n : ℕ) → NumbersFit n product_word
product_fits n a b a_fits b_fits = mod_below (a * b) (2 ^ n) (pow_pos n)

product_law : (flags : Flags) (n : ℕ) → NumbersLaw n (product flags) product_word
product_law flags n a b a_fits b_fits = may_unless _ n (wrapped n (a * b)) (product_fits n a b a_fits b_fits)

-- what gives exactly a function's value
exact_law : (n : ℕ) (f : ℕ → ℕ → ℕ → ℕ) → NumbersLaw n (λ n a b. one (f n a b)) f
exact_law n f a b a_fits b_fits = refl

pub multiply_sound : (x : ℕ) (w : World) (flags : Flags) → IsSound x w (multiply x flags)
multiply_sound x w flags =
    registers_sound x w op.GenericMultiply flags x op.Multiply (product flags) product_word refl (λ answer outside arguments act. act) (whole_law x (product flags) product_word (product_law flags x))

pub multiply_half_sound : (w : World) (flags : Flags) → IsSound 64 w (multiply_half flags)
multiply_half_sound w flags =
    registers_sound 64 w op.GenericMultiply flags 32 op.MultiplyWord (product flags) (on_low_half product_word) refl (λ answer outside arguments act. act)
    (half_law (product flags) product_word (product_law flags 32) (product_fits 32))

pub multiply_high_unsigned_sound : (x : ℕ) (w : World) (flags : Flags) → IsSound x w (multiply_high_unsigned x flags)
multiply_high_unsigned_sound x w flags =
    registers_sound x w op.GenericUnsignedMultiplyHigh flags x op.MultiplyHighUnsigned (λ n a b. one (unsigned_high_product n a b)) unsigned_high_product refl (λ answer outside arguments act. act)
    (whole_law x (λ n a b. one (unsigned_high_product n a b)) unsigned_high_product (exact_law x unsigned_high_product))

pub multiply_high_sound : (x : ℕ) (w : World) (flags : Flags) → IsSound x w (multiply_high x flags)
multiply_high_sound x w flags =
    registers_sound x w op.GenericSignedMultiplyHigh flags x op.MultiplyHigh (λ n a b. one (signed_high_product n a b)) signed_high_product refl (λ answer outside arguments act. act)
    (whole_law x (λ n a b. one (signed_high_product n a b)) signed_high_product (exact_law x signed_high_product))
