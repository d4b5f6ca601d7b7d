-- The bits of a type.
use Rattle.std.specs.Prelude.{ℕ}
use Rattle.gi_llt.specs.declared.Llt.{Llt}
use Rattle.gi_llt.specs.declared.Llt.TheVariants.{Scalar, Pointer}

-- a scalar has its own width, and a pointer that of a register
abbrev pub width_of : ℕ → Llt → ℕ
width_of xlen (Scalar bits) = bits
width_of xlen Pointer = xlen
