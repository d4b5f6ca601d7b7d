-- Rows of the selector as rewrites, where x is the width of a machine register in bits.
use Rattle.std.specs.Prelude.{ℕ, ℤ, pos, ◌+◌, List, [], ◌∷◌}
use Rattle.gi_llt.specs.Bits.{unsigned}
use Rattle.gi_llt.specs.declared.Llt.{Llt}
use Rattle.gi_mir.specs.declared.opcode.Opcode.TheVariants as op
use Rattle.gi_mir.specs.declared.opcode.Opcode.{Opcode}
use Rattle.gi_mir.specs.declared.operand.Flags.{Flags}
use Rattle.gi_mir.specs.declared.operand.Operand.TheVariants as operand
use Rattle.gi_mir.specs.declared.operand.Pred.TheVariants.{Eq, Ne, Ule}
use Rattle.gi_mir.specs.declared.operand.Pred.{Pred}
use Rattle.gi_llt.specs.declared.Llt.TheVariants.{Pointer}
use Rattle.gi_rule_values.specs.Data.{OperationData, RewriteData}
use Rattle.gi_rule_values.specs.Forms.{constant, flagged, holds, on_one, on_two, plain, rewrite, s}
use Rattle.gi_riscv.specs.Materialised.{materialised}
use Rattle.gi_riscv.specs.declared.constants.Step.{Step}
use Rattle.gi_riscv.specs.declared.constants.Step.TheVariants.{Addi, Addiw, Lui, Slli}
use Rattle.gi_rule_values.specs.declared.rewrite.Slot.{Slot}
use Rattle.gi_rule_values.specs.declared.rewrite.Slot.TheVariants.{At, Stands}

-- on a register and a number, and on `$x0` and a register
abbrev pub with_number : Opcode → (a : ℕ) → ℤ → Llt → OperationData
with_number opcode a i type = plain opcode (At a ∷ Stands (operand.Int i) ∷ []) type

abbrev pub with_zero : Opcode → (a : ℕ) → Llt → OperationData
with_zero opcode a type = plain opcode (Stands (operand.Phys 0) ∷ At a ∷ []) type

-- a sum with a constant that is a number i of an immediate
abbrev pub select_addi : Flags → Flags → (x : ℕ) → ℤ → RewriteData
select_addi flags more x i =
    rewrite (s x ∷ s x ∷ []) (holds 1 (constant more x (unsigned x i)) ∷ []) (flagged flags op.GenericAdd (At 0 ∷ At 1 ∷ []) (s x ∷ []))
    (with_number op.AddImmediate 0 i (s x) ∷ []) 2

-- at most: not above
abbrev pub select_icmp_ule : Flags → (x : ℕ) → RewriteData
select_icmp_ule flags x =
    rewrite (s x ∷ s x ∷ []) [] (flagged flags op.GenericCompare (Stands (operand.Predicate Ule) ∷ At 0 ∷ At 1 ∷ []) (s x ∷ []))
    (on_two op.SetLessUnsigned 1 0 (s x) ∷ with_number op.XorImmediate 2 (pos 1) (s x) ∷ []) 3

-- a mask of all bits or none, by which the values differ from the second
abbrev pub select_select : Flags → (x : ℕ) → Llt → RewriteData
select_select flags x type =
    rewrite (s x ∷ type ∷ type ∷ []) [] (flagged flags op.GenericSelect (At 0 ∷ At 1 ∷ At 2 ∷ []) (type ∷ []))
    (with_zero op.SetLessUnsigned 0 type
    ∷ with_zero op.Subtract 3 type
    ∷ on_two op.Xor 1 2 type
    ∷ on_two op.And 5 4 type
    ∷ on_two op.Xor 2 6 type
    ∷ []) 7

-- the low 32 bits of a word: the others are shifted out
abbrev pub select_zext : Flags → RewriteData
select_zext flags =
    rewrite (s 32 ∷ []) [] (flagged flags op.GenericZeroExtend (At 0 ∷ []) (s 64 ∷ []))
    (with_number op.ShiftLeftLogicalImmediate 0 (pos 32) (s 64) ∷ with_number op.ShiftRightLogicalImmediate 1 (pos 32) (s 64) ∷ []) 2

-- ══ One instruction for one operation ══

-- on two registers of x bits, or of 32 on RV64
abbrev pub select_two : (root instruction : Opcode) → Flags → (n : ℕ) → RewriteData
select_two root instruction flags n =
    rewrite (s n ∷ s n ∷ []) [] (flagged flags root (At 0 ∷ At 1 ∷ []) (s n ∷ [])) (on_two instruction 0 1 (s n) ∷ []) 2

abbrev pub select_ptr_add : Flags → (x : ℕ) → RewriteData
select_ptr_add flags x =
    rewrite (Pointer ∷ s x ∷ []) [] (flagged flags op.GenericPointerAdd (At 0 ∷ At 1 ∷ []) (Pointer ∷ [])) (on_two op.Add 0 1 Pointer ∷ []) 2

-- on a register, and a constant that is a number of an immediate
abbrev pub select_number : (root instruction : Opcode) → Flags → Flags → (n : ℕ) → ℤ → RewriteData
select_number root instruction flags more n i =
    rewrite (s n ∷ s n ∷ []) (holds 1 (constant more n (unsigned n i)) ∷ []) (flagged flags root (At 0 ∷ At 1 ∷ []) (s n ∷ []))
    (with_number instruction 0 i (s n) ∷ []) 2

-- by a constant below the width
abbrev pub select_shift : (root instruction : Opcode) → Flags → Flags → (n k : ℕ) → RewriteData
select_shift root instruction flags more n k =
    rewrite (s n ∷ s n ∷ []) (holds 1 (constant more n k) ∷ []) (flagged flags root (At 0 ∷ At 1 ∷ []) (s n ∷ []))
    (with_number instruction 0 (pos k) (s n) ∷ []) 2

-- ══ Comparisons ══

abbrev pub select_compare : Pred → Flags → (x : ℕ) → List OperationData → (result : ℕ) → RewriteData
select_compare pred flags x made result =
    rewrite (s x ∷ s x ∷ []) [] (flagged flags op.GenericCompare (Stands (operand.Predicate pred) ∷ At 0 ∷ At 1 ∷ []) (s x ∷ [])) made result

-- below and above: the operands in their order, and turned
abbrev pub select_below : Pred → (instruction : Opcode) → Flags → (x : ℕ) → RewriteData
select_below pred instruction flags x = select_compare pred flags x (on_two instruction 0 1 (s x) ∷ []) 2

abbrev pub select_above : Pred → (instruction : Opcode) → Flags → (x : ℕ) → RewriteData
select_above pred instruction flags x = select_compare pred flags x (on_two instruction 1 0 (s x) ∷ []) 2

-- at least and at most: what isn't below, and what isn't above
abbrev pub select_not_below : Pred → (instruction : Opcode) → Flags → (x : ℕ) → RewriteData
select_not_below pred instruction flags x = select_compare pred flags x (on_two instruction 0 1 (s x) ∷ with_number op.XorImmediate 2 (pos 1) (s x) ∷ []) 3

abbrev pub select_not_above : Pred → (instruction : Opcode) → Flags → (x : ℕ) → RewriteData
select_not_above pred instruction flags x = select_compare pred flags x (on_two instruction 1 0 (s x) ∷ with_number op.XorImmediate 2 (pos 1) (s x) ∷ []) 3

-- equal: no bit differs
abbrev pub select_icmp_eq : Flags → (x : ℕ) → RewriteData
select_icmp_eq flags x = select_compare Eq flags x (on_two op.Xor 0 1 (s x) ∷ with_number op.SetLessImmediateUnsigned 2 (pos 1) (s x) ∷ []) 3

abbrev pub select_icmp_ne : Flags → (x : ℕ) → RewriteData
select_icmp_ne flags x = select_compare Ne flags x (on_two op.Xor 0 1 (s x) ∷ with_zero op.SetLessUnsigned 2 (s x) ∷ []) 3

-- with a constant
abbrev pub select_compare_with : Pred → Flags → Flags → (x value : ℕ) → OperationData → RewriteData
select_compare_with pred flags more x value made =
    rewrite (s x ∷ s x ∷ []) (holds 1 (constant more x value) ∷ []) (flagged flags op.GenericCompare (Stands (operand.Predicate pred) ∷ At 0 ∷ At 1 ∷ []) (s x ∷ [])) (made ∷ []) 2

abbrev pub select_eq_zero : Flags → Flags → (x : ℕ) → RewriteData
select_eq_zero flags more x = select_compare_with Eq flags more x 0 (with_number op.SetLessImmediateUnsigned 0 (pos 1) (s x))

abbrev pub select_ne_zero : Flags → Flags → (x : ℕ) → RewriteData
select_ne_zero flags more x = select_compare_with Ne flags more x 0 (with_zero op.SetLessUnsigned 0 (s x))

abbrev pub select_below_number : Pred → (instruction : Opcode) → Flags → Flags → (x : ℕ) → ℤ → RewriteData
select_below_number pred instruction flags more x i = select_compare_with pred flags more x (unsigned x i) (with_number instruction 0 i (s x))

-- ══ Casts ══

-- by a copy, which cuts what is wider and leaves the bits above free where it is narrower
abbrev pub select_copy : Opcode → Flags → (from to : Llt) → RewriteData
select_copy cast flags from to = rewrite (from ∷ []) [] (flagged flags cast (At 0 ∷ []) (to ∷ [])) (on_one op.Copy 0 to ∷ []) 1

-- the low 32 bits with their sign
abbrev pub select_sext : Flags → RewriteData
select_sext flags = rewrite (s 32 ∷ []) [] (flagged flags op.GenericSignExtend (At 0 ∷ []) (s 64 ∷ [])) (with_number op.AddImmediateWord 0 (pos 0) (s 64) ∷ []) 1

abbrev pub select_sext_inreg : Flags → RewriteData
select_sext_inreg flags =
    rewrite (s 64 ∷ []) [] (flagged flags op.GenericSignExtendInRegister (At 0 ∷ Stands (operand.Int (pos 32)) ∷ []) (s 64 ∷ []))
    (with_number op.AddImmediateWord 0 (pos 0) (s 64) ∷ []) 1

-- ══ Values from nothing ══

abbrev pub select_implicit_def : Flags → Llt → RewriteData
select_implicit_def flags type = rewrite [] [] (flagged flags op.GenericImplicitDef [] (type ∷ [])) (plain op.ImplicitDef [] type ∷ []) 0

-- ══ A constant by its sequence ══

-- the instruction of a step, on the word that a slot gives
abbrev pub step_on : Slot → Llt → Step → OperationData
step_on slot type (Lui number) = plain op.LoadUpperImmediate (Stands (operand.Int (pos number)) ∷ []) type
step_on slot type (Addi number) = plain op.AddImmediate (slot ∷ Stands (operand.Int number) ∷ []) type
step_on slot type (Addiw number) = plain op.AddImmediateWord (slot ∷ Stands (operand.Int number) ∷ []) type
step_on slot type (Slli amount) = plain op.ShiftLeftLogicalImmediate (slot ∷ Stands (operand.Int (pos amount)) ∷ []) type

-- each step on the one before it, where the first gives its word at a place
abbrev pub chain : Slot → (place : ℕ) → Llt → List Step → List OperationData
chain slot place type [] = []
chain slot place type (step ∷ steps) = step_on slot type step ∷ chain (At place) (place + 1) type steps

-- where the last word is
abbrev pub chain_place : (at place : ℕ) → List Step → ℕ
chain_place at place [] = at
chain_place at place (step ∷ steps) = chain_place place (place + 1) steps

abbrev pub materialize_constant : Flags → (x : ℕ) → Llt → (value : ℕ) → RewriteData
materialize_constant flags x type value =
    rewrite [] [] (flagged flags op.GenericConstant (Stands (operand.Constant x value) ∷ []) (type ∷ []))
    (chain (Stands (operand.Phys 0)) 0 type (materialised x value)) (chain_place 0 0 (materialised x value))
