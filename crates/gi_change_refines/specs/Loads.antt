-- Functions that load with zeros above.
use Rattle.std.specs.Prelude.{ℕ, true, [], ◌∷◌, Some}
use Rattle.gi_llt.specs.declared.Llt.{Llt}
use Rattle.gi_llt.specs.declared.Llt.TheVariants.{Pointer, Scalar}
use Rattle.gi_mir.specs.Data.{FunctionData, no_flags, reg_of}
use Rattle.gi_mir.specs.declared.opcode.Opcode.TheVariants as op
use Rattle.gi_mir.specs.declared.operand.Kind.TheVariants.{Generic}
use Rattle.gi_mir.specs.declared.operand.Operand.TheVariants.{Def, Phys}
use Rattle.gi_valid.specs.Examples.{copy_out, def_of, on, one_block, return_of, use_of}

-- what x10 points to, with zeros above
abbrev pub loads_zeros : (width : ℕ) → (memory : Llt) → FunctionData
loads_zeros width memory = one_block (10 ∷ [])
    (on 7 op.Copy (Def (reg_of 0) (Generic Pointer) ∷ Phys 10 ∷ [])
    ∷ (8, record { op = op.GenericZeroExtendLoad; flags = no_flags; operands = def_of 1 width ∷ use_of 0 ∷ []; mem = Some (record { load = true; ty = memory; align = 1 }); line = 8 })
    ∷ copy_out 9 10 1
    ∷ return_of 10 10
    ∷ [])

-- a byte into 32 bits, and two bytes into 8 bits
abbrev pub loads_byte : FunctionData
loads_byte = loads_zeros 32 (Scalar 8)

abbrev pub loads_too_much : FunctionData
loads_too_much = loads_zeros 8 (Scalar 16)
