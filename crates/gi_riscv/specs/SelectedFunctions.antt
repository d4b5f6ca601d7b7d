-- Small functions of RV64, and what selection makes of an instruction of theirs.
use Rattle.std.specs.Prelude.{ℕ, List, [], ◌∷◌, ◌++◌, None, pos}
use Rattle.gi_llt.specs.declared.Llt.TheVariants.{Scalar}
use Rattle.gi_mir.specs.Data.{InstrData, FunctionData, reg_of}
use Rattle.gi_mir.specs.declared.opcode.Opcode.TheVariants as op
use Rattle.gi_mir.specs.declared.operand.Kind.{Kind}
use Rattle.gi_mir.specs.declared.operand.Kind.TheVariants.{Generic}
use Rattle.gi_mir.specs.declared.operand.Operand.TheVariants.{Def, Int}
use Rattle.gi_refine.specs.Examples.{made, one_block, of_one, of_two, constant_in, s32, use_of, copy_in, copy_out, return_of}
use Rattle.gi_refine.specs.Lifting.{Placing}

abbrev s64 : Kind
s64 = Generic (Scalar 64)

-- `%0 = COPY $x10`, `%1 = G_TRUNC %0`, `%2 = G_CONSTANT i32 3`
abbrev pub half_and_three : List (ℕ × InstrData)
half_and_three = copy_in 0 10 s64 ∷ of_one op.GenericTruncate 1 s32 0 ∷ constant_in 2 32 3 s32 ∷ []

-- `%4 = G_ANYEXT %3`, `$x10 = COPY %4`
abbrev pub half_returned : List (ℕ × InstrData)
half_returned = of_one op.GenericAnyExtend 4 s64 3 ∷ copy_out 10 4 ∷ return_of 10 ∷ []

-- `%3 = G_SHL %1, %2`
abbrev pub generic_shift : List (ℕ × InstrData)
generic_shift = of_two op.GenericShiftLeft 3 s32 1 2 ∷ []

-- `%3 = SLLIW %1, 3`
abbrev pub word_shift : List (ℕ × InstrData)
word_shift = made op.ShiftLeftLogicalImmediateWord (Def (reg_of 3) s32 ∷ use_of 1 ∷ Int (pos 3) ∷ []) None ∷ []

abbrev pub on_half : List (ℕ × InstrData) → FunctionData
on_half is = one_block (half_and_three ++ (is ++ half_returned))

abbrev pub shift_placed : Placing
shift_placed = record { inputs = 1 ∷ 2 ∷ []; old = (3 ∷ []) ∷ []; new = (3 ∷ []) ∷ [] }
