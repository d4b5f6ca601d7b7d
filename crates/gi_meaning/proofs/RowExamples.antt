-- Instructions that stand in their rows, and some that don't.
use Rattle.std.proofs.Common.{◌≡◌, ℕ, zero, suc, true, false, List, [], ◌∷◌, Some, None, pos, refl}
use Rattle.gi_llt.specs.declared.Llt.{Llt}
use Rattle.gi_llt.specs.declared.Llt.TheVariants.{Scalar, Pointer}
use Rattle.gi_mir.specs.Data.{InstrData, no_flags, reg_of}
use Rattle.gi_mir.specs.declared.opcode.Opcode.{Opcode}
use Rattle.gi_mir.specs.declared.opcode.Opcode.TheVariants as op
use Rattle.gi_mir.specs.declared.operand.Kind.TheVariants.{Class}
use Rattle.gi_mir.specs.declared.operand.Operand.{Operand}
use Rattle.gi_mir.specs.declared.operand.Operand.TheVariants.{Def, Use, Phys, Int, Constant, ImplicitUse}
use Rattle.gi_meaning.specs.InRow.{is_in_row}

-- the registers 0, 1 and 2 have these types
abbrev typed : (a b c : Llt) → ℕ → Llt
typed a b c zero = a
typed a b c (suc zero) = b
typed a b c _ = c

abbrev instr : Opcode → List Operand → InstrData
instr o os = record { op = o; flags = no_flags; operands = os; mem = None; line = 0 }

abbrev loading : Opcode → Llt → List Operand → InstrData
loading o ty os = record (instr o os) { mem = Some (record { load = true; ty = ty; align = 1 }) }

abbrev def : ℕ → Operand
def r = Def (reg_of r) Class

abbrev read : ℕ → Operand
read r = Use (reg_of r)

abbrev s8 : Llt
s8 = Scalar 8

abbrev s16 : Llt
s16 = Scalar 16

abbrev s32 : Llt
s32 = Scalar 32

abbrev s64 : Llt
s64 = Scalar 64

-- ══ Types ══

addition : is_in_row 32 (typed s32 s32 s32) (instr op.GenericAdd (def 0 ∷ read 1 ∷ read 2 ∷ [])) ≡ true
addition = refl

mixed_addition : is_in_row 32 (typed s32 s8 s64) (instr op.GenericAdd (def 0 ∷ read 1 ∷ read 2 ∷ [])) ≡ false
mixed_addition = refl

addition_of_a_pointer : is_in_row 32 (typed s32 Pointer s32) (instr op.GenericAdd (def 0 ∷ read 1 ∷ read 2 ∷ [])) ≡ false
addition_of_a_pointer = refl

extension : is_in_row 32 (typed s16 s8 s8) (instr op.GenericAnyExtend (def 0 ∷ read 1 ∷ [])) ≡ true
extension = refl

extension_to_fewer_bits : is_in_row 32 (typed s8 s16 s8) (instr op.GenericAnyExtend (def 0 ∷ read 1 ∷ [])) ≡ false
extension_to_fewer_bits = refl

zero_extension_to_fewer_bits : is_in_row 32 (typed s8 s16 s8) (instr op.GenericZeroExtend (def 0 ∷ read 1 ∷ [])) ≡ false
zero_extension_to_fewer_bits = refl

copy : is_in_row 32 (typed s8 s8 s8) (instr op.Copy (def 0 ∷ read 1 ∷ [])) ≡ true
copy = refl

copy_of_two_types : is_in_row 32 (typed s32 s8 s8) (instr op.Copy (def 0 ∷ read 1 ∷ [])) ≡ false
copy_of_two_types = refl

copy_of_a_register : is_in_row 32 (typed Pointer s8 s8) (instr op.Copy (def 0 ∷ Phys 10 ∷ [])) ≡ true
copy_of_a_register = refl

narrow_copy_of_a_register : is_in_row 32 (typed s8 s8 s8) (instr op.Copy (def 0 ∷ Phys 10 ∷ [])) ≡ false
narrow_copy_of_a_register = refl

-- ══ Instructions of the machine ══

machine_addition : is_in_row 32 (typed s32 s8 Pointer) (instr op.Add (def 0 ∷ read 1 ∷ read 2 ∷ [])) ≡ true
machine_addition = refl

machine_addition_of_a_wide_value : is_in_row 32 (typed s32 s64 s32) (instr op.Add (def 0 ∷ read 1 ∷ read 2 ∷ [])) ≡ false
machine_addition_of_a_wide_value = refl

machine_addition_of_zero : is_in_row 32 (typed s32 s32 s32) (instr op.Add (def 0 ∷ read 1 ∷ Phys 0 ∷ [])) ≡ true
machine_addition_of_zero = refl

machine_addition_of_a_register : is_in_row 32 (typed s32 s32 s32) (instr op.Add (def 0 ∷ read 1 ∷ Phys 10 ∷ [])) ≡ false
machine_addition_of_a_register = refl

-- ══ Numbers ══

constant : is_in_row 32 (typed s8 s8 s8) (instr op.GenericConstant (def 0 ∷ Constant 8 255 ∷ [])) ≡ true
constant = refl

constant_of_other_bits : is_in_row 32 (typed s8 s8 s8) (instr op.GenericConstant (def 0 ∷ Constant 16 255 ∷ [])) ≡ false
constant_of_other_bits = refl

sign_within : is_in_row 32 (typed s8 s8 s8) (instr op.GenericSignExtendInRegister (def 0 ∷ read 1 ∷ Int (pos 7) ∷ [])) ≡ true
sign_within = refl

sign_at_the_width : is_in_row 32 (typed s8 s8 s8) (instr op.GenericSignExtendInRegister (def 0 ∷ read 1 ∷ Int (pos 8) ∷ [])) ≡ false
sign_at_the_width = refl

sign_beyond : is_in_row 32 (typed s8 s8 s8) (instr op.GenericSignExtendInRegister (def 0 ∷ read 1 ∷ Int (pos 9) ∷ [])) ≡ false
sign_beyond = refl

-- ══ Memory ══

load : is_in_row 32 (typed s32 Pointer s8) (loading op.GenericLoad s8 (def 0 ∷ read 1 ∷ [])) ≡ true
load = refl

load_without_room : is_in_row 32 (typed s8 Pointer s8) (loading op.GenericLoad s16 (def 0 ∷ read 1 ∷ [])) ≡ false
load_without_room = refl

extending_load_of_as_many_bits : is_in_row 32 (typed s8 Pointer s8) (loading op.GenericZeroExtendLoad s8 (def 0 ∷ read 1 ∷ [])) ≡ false
extending_load_of_as_many_bits = refl

machine_load_of_other_bits : is_in_row 32 (typed s32 s32 s8) (loading op.LoadWord s8 (def 0 ∷ read 1 ∷ Int (pos 0) ∷ [])) ≡ false
machine_load_of_other_bits = refl

-- ══ Beside ══

returned : is_in_row 32 (typed s8 s8 s8) (instr op.PseudoReturn (ImplicitUse 10 ∷ [])) ≡ true
returned = refl

addition_beside : is_in_row 32 (typed s32 s32 s32) (instr op.GenericAdd (def 0 ∷ read 1 ∷ read 2 ∷ ImplicitUse 10 ∷ [])) ≡ false
addition_beside = refl
