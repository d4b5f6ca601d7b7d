-- Trial rules: a phi of 16 bits becomes one of 32, with an extension before the first terminator of each predecessor and a
-- truncation behind the last phi; and registers of 32 bits that become words on RV64.
use Rattle.std.specs.Prelude.{ℕ, List, [], ◌∷◌, None}
use Rattle.gi_mir.specs.Data.{InstrData, FunctionData, reg_of}
use Rattle.gi_mir.specs.declared.opcode.Opcode.TheVariants as op
use Rattle.gi_mir.specs.declared.operand.Kind.{Kind}
use Rattle.gi_mir.specs.declared.operand.Operand.TheVariants as operand
use Rattle.gi_refine.specs.Examples.{made, of_one, block_of, function_of, s32, use_of, copy_in, copy_out, return_of, s16}

-- `%d:s32 = G_ZEXT %r`, `%d:s16 = G_TRUNC %r`
abbrev pub extension : (d r : ℕ) → ℕ × InstrData
extension d r = of_one op.GenericZeroExtend d s32 r

abbrev pub truncation : (d r : ℕ) → ℕ × InstrData
truncation d r = of_one op.GenericTruncate d s16 r

-- `%d = G_PHI %a, bb.0, %b, bb.1`
abbrev pub phi_of : (d a b : ℕ) → Kind → ℕ × InstrData
phi_of d a b kind = made op.GenericPhi (operand.Def (reg_of d) kind ∷ use_of a ∷ operand.Block 0 ∷ use_of b ∷ operand.Block 1 ∷ []) None

-- `BEQ $x12, $x0, bb.2` and `PseudoBR bb.2`
abbrev pub choice : ℕ × InstrData
choice = made op.BranchEqual (operand.Phys 12 ∷ operand.Phys 0 ∷ operand.Block 2 ∷ []) None

abbrev pub on_to_2 : ℕ × InstrData
on_to_2 = made op.PseudoBranch (operand.Block 2 ∷ []) None

-- three blocks: the first two, and what stands in the third
abbrev pub meeting : (first second third : List (ℕ × InstrData)) → FunctionData
meeting first second third = function_of (block_of (2 ∷ 1 ∷ []) first ∷ block_of (2 ∷ []) second ∷ block_of [] third ∷ [])

-- the low 16 bits of x10 or of x11, by x12
abbrev pub narrow_phi : FunctionData
narrow_phi = meeting (copy_in 0 10 s16 ∷ choice ∷ []) (copy_in 1 11 s16 ∷ on_to_2 ∷ [])
    (phi_of 2 0 1 s16 ∷ extension 3 2 ∷ copy_out 10 3 ∷ return_of 10 ∷ [])

-- with the extensions; with the wide phi beside the narrow one; with the truncation; without the narrow phi
abbrev pub with_extensions : FunctionData
with_extensions = meeting (copy_in 0 10 s16 ∷ extension 5 0 ∷ choice ∷ []) (copy_in 1 11 s16 ∷ extension 6 1 ∷ on_to_2 ∷ [])
    (phi_of 2 0 1 s16 ∷ extension 3 2 ∷ copy_out 10 3 ∷ return_of 10 ∷ [])

abbrev pub with_wide_phi : FunctionData
with_wide_phi = meeting (copy_in 0 10 s16 ∷ extension 5 0 ∷ choice ∷ []) (copy_in 1 11 s16 ∷ extension 6 1 ∷ on_to_2 ∷ [])
    (phi_of 7 5 6 s32 ∷ phi_of 2 0 1 s16 ∷ extension 3 2 ∷ copy_out 10 3 ∷ return_of 10 ∷ [])

abbrev pub with_truncation : FunctionData
with_truncation = meeting (copy_in 0 10 s16 ∷ extension 5 0 ∷ choice ∷ []) (copy_in 1 11 s16 ∷ extension 6 1 ∷ on_to_2 ∷ [])
    (phi_of 7 5 6 s32 ∷ phi_of 2 0 1 s16 ∷ truncation 8 7 ∷ extension 3 2 ∷ copy_out 10 3 ∷ return_of 10 ∷ [])

abbrev pub wide_phi : FunctionData
wide_phi = meeting (copy_in 0 10 s16 ∷ extension 5 0 ∷ choice ∷ []) (copy_in 1 11 s16 ∷ extension 6 1 ∷ on_to_2 ∷ [])
    (phi_of 7 5 6 s32 ∷ truncation 8 7 ∷ extension 3 8 ∷ copy_out 10 3 ∷ return_of 10 ∷ [])

-- the low 32 bits of a sum, on RV64: registers of 32 bits become words
abbrev pub sums_low : FunctionData
sums_low = function_of (block_of []
    (copy_in 0 10 s32
    ∷ made op.AddWord (operand.Def (reg_of 1) s32 ∷ use_of 0 ∷ use_of 0 ∷ []) None
    ∷ copy_out 10 1
    ∷ return_of 10
    ∷ []) ∷ [])
