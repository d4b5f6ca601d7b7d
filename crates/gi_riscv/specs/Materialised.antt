-- The instructions that make a constant from zero.
-- (RISC-V unprivileged ISA, "Integer Register-Immediate Instructions": LUI and ADDI make any constant of 32 bits. The
-- way for 64 bits takes the low 12 bits and the zeros above them off again and again.)
use Rattle.std.specs.Prelude.{ℕ, zero, suc, ◌-◌, ◌/◌, ◌^◌, ◌==◌, Bool, ◌&&◌, if◌then◌else◌, List, [], ◌∷◌, ◌++◌, ℤ, pos, negsuc, ◌-ℤ◌, ◌+ℤ◌, int_le}
use Rattle.std.specs.Int.{int_shr, trailing_zeros, w64}
use Rattle.std.specs.Ordering.{int_eq}
use Rattle.gi_llt.specs.Bits.{signed, unsigned}
use Rattle.gi_meaning.specs.Machine.{is_immediate}
use Rattle.gi_riscv.specs.declared.constants.Step.{Step}
use Rattle.gi_riscv.specs.declared.constants.Step.TheVariants.{Lui, Addi, Addiw, Slli}

-- the low 12 bits, read with a sign
abbrev pub low_part : ℤ → ℤ
low_part v = signed 12 (unsigned 12 v)

-- the 20 bits above them, one more where the low part is below 0
abbrev pub high_part : ℤ → ℕ
high_part v = unsigned 32 (v +ℤ pos 2048) / 4096

-- a number of 32 bits with a sign, from -2 ^ 31 on
abbrev pub fits_32 : ℤ → Bool
fits_32 v = int_le (negsuc (2 ^ 31 - 1)) v && int_le v (pos (2 ^ 31 - 1))

-- nothing where there is nothing to add
abbrev pub unless_zero : ℤ → Step → List Step
unless_zero low step = if int_eq low (pos 0) then [] else step ∷ []

-- adds the low part to what LUI gives; on RV64 in the low halves of words, since LUI extends its sign
abbrev pub lower : (x : ℕ) → ℤ → Step
lower x low = if x == 32 then Addi low else Addiw low

-- from the upper 20 bits and the lower 12
abbrev pub upper_and_lower : (x : ℕ) → ℤ → List Step
upper_and_lower x v = Lui (high_part v) ∷ unless_zero (low_part v) (lower x (low_part v))

-- the number without its low part, as one of 64 bits
abbrev pub without_low : ℤ → ℕ
without_low v = unsigned 64 (v -ℤ low_part v)

-- how many zeros that ends with
abbrev pub zeros_of : ℤ → ℕ
zeros_of v = trailing_zeros w64 (without_low v)

-- and what is above them, with the sign
abbrev pub next_of : ℤ → ℤ
next_of v = int_shr (signed 64 (without_low v)) (zeros_of v)

-- The steps for a number with a sign. One of more than 32 bits is what is above the zeros, shifted left again, and
-- the low part. Each round takes 12 bits or more off, so three do for 64 bits.
abbrev pub steps_in : (rounds x : ℕ) → ℤ → List Step
steps_in zero x v = if is_immediate v then Addi v ∷ [] else upper_and_lower x v
steps_in (suc rounds) x v =
    if is_immediate v then Addi v ∷ [] else
    if fits_32 v then upper_and_lower x v else
    steps_in rounds x (next_of v) ++ Slli (zeros_of v) ∷ unless_zero (low_part v) (Addi (low_part v))

-- the steps for a word
abbrev pub materialised : (x word : ℕ) → List Step
materialised x word = steps_in 3 x (signed x word)
