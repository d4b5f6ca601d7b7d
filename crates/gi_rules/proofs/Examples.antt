-- Instructions that are legal, and ones that just aren't.
use Rattle.std.proofs.Common.{◌≡◌, ℕ, suc, Bool, true, false, List, [], ◌∷◌, Option, Some, None, pos, refl}
use Rattle.gi_llt.specs.declared.Llt.{Llt}
use Rattle.gi_llt.specs.declared.Llt.TheVariants.{Scalar, Pointer}
use Rattle.gi_mir.specs.Data.{InstrData, FunctionData, no_flags, reg_of}
use Rattle.gi_mir.specs.declared.opcode.Opcode.{Opcode}
use Rattle.gi_mir.specs.declared.opcode.Opcode.TheVariants as op
use Rattle.gi_mir.specs.declared.operand.Kind.TheVariants.{Generic, Class}
use Rattle.gi_mir.specs.declared.operand.MemOp.{MemOp}
use Rattle.gi_mir.specs.declared.operand.Operand.{Operand}
use Rattle.gi_mir.specs.declared.operand.Operand.TheVariants.{Def, Use, Phys, PhysDef, ImplicitUse, Int, Constant, Block}
use Rattle.gi_rules.specs.Legal.{is_legal, legal_generics}

-- ══ An instruction of a function whose registers 0, 1, 2, .. have these types ══

abbrev definitions : (first : ℕ) → List Llt → List Operand
definitions r [] = []
definitions r (ty ∷ types) = Def (reg_of r) (Generic ty) ∷ definitions (suc r) types

abbrev instr : Opcode → List Operand → Option MemOp → InstrData
instr o os mem = record { op = o; flags = no_flags; operands = os; mem = mem; line = 0 }

abbrev function_of : List InstrData → FunctionData
function_of is = record {
  name = 0;
  legalized = true;
  banked = false;
  selected = false;
  stack = [];
  blocks = record { successors = []; liveins = []; instrs = numbered is } ∷ [];
  next_reg = 9;
  next_id = 9;
}
  where
    numbered : List InstrData → List (ℕ × InstrData)
    numbered [] = []
    numbered (i ∷ is) = (0, i) ∷ numbered is

abbrev legal : (x : ℕ) → List Llt → Opcode → List Operand → Bool
legal x types o os = is_legal x (function_of (instr op.GenericUnmergeValues (definitions 0 types) None ∷ [])) (instr o os None)

abbrev legal_in_memory : (x : ℕ) → List Llt → Opcode → List Operand → Llt → (align : ℕ) → Bool
legal_in_memory x types o os ty align =
    is_legal x (function_of (instr op.GenericUnmergeValues (definitions 0 types) None ∷ [])) (instr o os (Some (record { load = true; ty = ty; align = align })))

abbrev def : ℕ → Operand
def r = Def (reg_of r) Class

abbrev read : ℕ → Operand
read r = Use (reg_of r)

-- `%0 = OP %1, %2`, `%0 = OP %1` and `%0 = OP %1, K`
abbrev binary : List Operand
binary = def 0 ∷ read 1 ∷ read 2 ∷ []

abbrev unary : List Operand
unary = def 0 ∷ read 1 ∷ []

abbrev s8 : Llt
s8 = Scalar 8

abbrev s32 : Llt
s32 = Scalar 32

abbrev s64 : Llt
s64 = Scalar 64

-- ══ Arithmetic ══

add_32 : legal 32 (s32 ∷ s32 ∷ s32 ∷ []) op.GenericAdd binary ≡ true
add_32 = refl

add_64 : legal 64 (s64 ∷ s64 ∷ s64 ∷ []) op.GenericAdd binary ≡ true
add_64 = refl

add_half : legal 64 (s32 ∷ s32 ∷ s32 ∷ []) op.GenericAdd binary ≡ true
add_half = refl

add_s8 : legal 32 (s8 ∷ s8 ∷ s8 ∷ []) op.GenericAdd binary ≡ false
add_s8 = refl

add_s64_on_32 : legal 32 (s64 ∷ s64 ∷ s64 ∷ []) op.GenericAdd binary ≡ false
add_s64_on_32 = refl

add_of_two_types : legal 64 (s64 ∷ s64 ∷ s32 ∷ []) op.GenericAdd binary ≡ false
add_of_two_types = refl

and_half : legal 64 (s32 ∷ s32 ∷ s32 ∷ []) op.GenericAnd binary ≡ false
and_half = refl

and_64 : legal 64 (s64 ∷ s64 ∷ s64 ∷ []) op.GenericAnd binary ≡ true
and_64 = refl

high_product_half : legal 64 (s32 ∷ s32 ∷ s32 ∷ []) op.GenericUnsignedMultiplyHigh binary ≡ false
high_product_half = refl

-- ══ Values ══

undefined_s8 : legal 32 (s8 ∷ []) op.GenericImplicitDef (def 0 ∷ []) ≡ false
undefined_s8 = refl

undefined_pointer : legal 32 (Pointer ∷ []) op.GenericImplicitDef (def 0 ∷ []) ≡ true
undefined_pointer = refl

constant_half : legal 64 (s32 ∷ []) op.GenericConstant (def 0 ∷ Constant 32 1 ∷ []) ≡ true
constant_half = refl

copy_half : legal 64 (s32 ∷ s32 ∷ []) op.Copy unary ≡ true
copy_half = refl

copy_of_a_physical_register : legal 64 (s64 ∷ []) op.Copy (def 0 ∷ Phys 10 ∷ []) ≡ true
copy_of_a_physical_register = refl

copy_of_a_physical_register_half : legal 64 (s32 ∷ []) op.Copy (def 0 ∷ Phys 10 ∷ []) ≡ false
copy_of_a_physical_register_half = refl

copy_to_a_physical_register_half : legal 64 (s32 ∷ []) op.Copy (PhysDef 10 ∷ read 0 ∷ []) ≡ false
copy_to_a_physical_register_half = refl

-- ══ Comparisons, choices and phis ══

compare_pointers : legal 32 (s32 ∷ Pointer ∷ Pointer ∷ []) op.GenericCompare binary ≡ true
compare_pointers = refl

compare_half : legal 64 (s64 ∷ s32 ∷ s32 ∷ []) op.GenericCompare binary ≡ false
compare_half = refl

select_pointers : legal 32 (Pointer ∷ s32 ∷ Pointer ∷ Pointer ∷ []) op.GenericSelect (def 0 ∷ read 1 ∷ read 2 ∷ read 3 ∷ []) ≡ true
select_pointers = refl

phi_of_pointers : legal 32 (Pointer ∷ Pointer ∷ []) op.GenericPhi (def 0 ∷ read 1 ∷ Block 0 ∷ read 1 ∷ Block 1 ∷ []) ≡ true
phi_of_pointers = refl

phi_half : legal 64 (s32 ∷ s32 ∷ []) op.GenericPhi (def 0 ∷ read 1 ∷ Block 0 ∷ []) ≡ false
phi_half = refl

-- ══ Extensions ══

truncate : legal 64 (s32 ∷ s64 ∷ []) op.GenericTruncate unary ≡ true
truncate = refl

truncate_on_32 : legal 32 (s8 ∷ s32 ∷ []) op.GenericTruncate unary ≡ false
truncate_on_32 = refl

extend_within : legal 64 (s64 ∷ s64 ∷ []) op.GenericSignExtendInRegister (def 0 ∷ read 1 ∷ Int (pos 32) ∷ []) ≡ true
extend_within = refl

extend_from_8_bits : legal 64 (s64 ∷ s64 ∷ []) op.GenericSignExtendInRegister (def 0 ∷ read 1 ∷ Int (pos 8) ∷ []) ≡ false
extend_from_8_bits = refl

extend_within_on_32 : legal 32 (s32 ∷ s32 ∷ []) op.GenericSignExtendInRegister (def 0 ∷ read 1 ∷ Int (pos 16) ∷ []) ≡ false
extend_within_on_32 = refl

-- ══ Memory ══

load_byte : legal_in_memory 32 (s32 ∷ Pointer ∷ []) op.GenericLoad unary s8 1 ≡ true
load_byte = refl

load_word : legal_in_memory 32 (s32 ∷ Pointer ∷ []) op.GenericLoad unary s32 4 ≡ true
load_word = refl

load_word_under_aligned : legal_in_memory 32 (s32 ∷ Pointer ∷ []) op.GenericLoad unary s32 2 ≡ false
load_word_under_aligned = refl

load_pointer : legal_in_memory 32 (Pointer ∷ Pointer ∷ []) op.GenericLoad unary Pointer 0 ≡ true
load_pointer = refl

load_pointer_under_aligned : legal_in_memory 64 (Pointer ∷ Pointer ∷ []) op.GenericLoad unary Pointer 4 ≡ false
load_pointer_under_aligned = refl

load_half : legal_in_memory 64 (s32 ∷ Pointer ∷ []) op.GenericLoad unary s32 4 ≡ false
load_half = refl

load_to_register_extended : legal_in_memory 32 (s32 ∷ Pointer ∷ []) op.GenericZeroExtendLoad unary s32 4 ≡ false
load_to_register_extended = refl

-- ══ Functions: a return and machine instructions aren't looked at, and each generic one is legal ══

generics : legal_generics 32 (function_of (instr op.GenericConstant (Def (reg_of 0) (Generic s32) ∷ Constant 32 1 ∷ []) None ∷ instr op.PseudoReturn (ImplicitUse 10 ∷ []) None ∷ [])) ≡ true
generics = refl

one_not_legal : legal_generics 32 (function_of (instr op.GenericImplicitDef (Def (reg_of 0) (Generic s8) ∷ []) None ∷ [])) ≡ false
one_not_legal = refl
