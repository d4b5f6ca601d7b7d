-- Rows of the selector are good.
use Rattle.std.proofs.Common.{◌≡◌, ◌⊎◌, ℕ, ℤ, ◌*◌, ◌≤◌, ◌<◌, true, refl, arith, le-leb}
use Rattle.std.proofs.lemmas.Bool.{ne_eqb}
use Rattle.gi_llt.specs.Llt.{width_of}
use Rattle.gi_llt.specs.declared.Llt.{Llt}
use Rattle.gi_llt.specs.declared.Llt.TheVariants.{Pointer}
use Rattle.gi_meaning.specs.Machine.{is_immediate}
use Rattle.gi_mir.specs.Types.{is_any}
use Rattle.gi_mir.specs.declared.opcode.Opcode.TheVariants as op
use Rattle.gi_mir.specs.declared.operand.Flags.{Flags}
use Rattle.gi_mir.specs.declared.operand.Pred.TheVariants.{Sge, Sgt, Sle, Slt, Uge, Ugt, Ult}
use Rattle.gi_rule_refines.specs.Stages.{IsGoodRewriteAt}
use Rattle.gi_rule_refines.specs.declared.stages.RuleStage.TheVariants as at
use Rattle.gi_rule_values.specs.Forms.{s}
use Rattle.gi_rule_values.specs.Selecting.{select_above, select_addi, select_below, select_below_number, select_copy, select_eq_zero, select_icmp_eq, select_icmp_ne, select_icmp_ule, select_implicit_def, select_ne_zero, select_not_above, select_not_below, select_number, select_ptr_add, select_select, select_sext, select_sext_inreg, select_shift, select_two, select_zext}
use Rattle.gi_rule_values.proofs.Numbers.{same}
use Rattle.gi_rule_values.proofs.Selecting.{select_addi_sound, select_icmp_ule_sound, select_select_sound, select_zext_sound}
use Rattle.gi_rule_values.proofs.SelectingMore.{select_add_half_sound, select_add_sound, select_addiw_sound, select_and_sound, select_andi_sound, select_anyext_sound, select_ashr_by_sound, select_ashr_half_by_sound, select_ashr_half_sound, select_ashr_sound, select_eq_zero_sound, select_icmp_eq_sound, select_icmp_ne_sound, select_icmp_sge_sound, select_icmp_sgt_sound, select_icmp_sle_sound, select_icmp_slt_sound, select_icmp_uge_sound, select_icmp_ugt_sound, select_icmp_ult_sound, select_implicit_def_sound, select_inttoptr_sound, select_lshr_by_sound, select_lshr_half_by_sound, select_lshr_half_sound, select_lshr_sound, select_mul_half_sound, select_mul_sound, select_ne_zero_sound, select_or_sound, select_ori_sound, select_ptr_add_sound, select_ptrtoint_sound, select_sdiv_half_sound, select_sdiv_sound, select_sext_inreg_sound, select_sext_sound, select_shl_by_sound, select_shl_half_by_sound, select_shl_half_sound, select_shl_sound, select_slti_sound, select_sltiu_sound, select_smulh_sound, select_srem_half_sound, select_srem_sound, select_sub_half_sound, select_sub_sound, select_trunc_sound, select_udiv_half_sound, select_udiv_sound, select_umulh_sound, select_urem_half_sound, select_urem_sound, select_xor_sound, select_xori_sound}
use Rattle.gi_rule_refines.proofs.Passing.{at_words, good_by, same_type_itself, word_some}

pub select_icmp_ule_good : (x : ℕ) (flags : Flags) → (x ≡ 32) ⊎ (x ≡ 64) → IsGoodRewriteAt x at.Selecting (select_icmp_ule flags x)
select_icmp_ule_good x flags word = at_words at.Selecting (λ x. select_icmp_ule flags x) refl refl x word (select_icmp_ule_sound x flags (word_some x word))

pub select_zext_good : (flags : Flags) → IsGoodRewriteAt 64 at.Selecting (select_zext flags)
select_zext_good flags = good_by 64 at.Selecting (select_zext flags) refl (select_zext_sound flags)

pub select_addi_good : (x : ℕ) (flags more : Flags) (i : ℤ) → (x ≡ 32) ⊎ (x ≡ 64) → is_immediate i ≡ true → IsGoodRewriteAt x at.Selecting (select_addi flags more x i)
select_addi_good x flags more i word immediate = at_words at.Selecting (λ x. select_addi flags more x i) refl refl x word (select_addi_sound x flags more i immediate)

pub select_select_good : (x : ℕ) (flags : Flags) (type : Llt) → width_of x type ≡ x → IsGoodRewriteAt x at.Selecting (select_select flags x type)
select_select_good x flags type wide =
    good_by x at.Selecting (select_select flags x type) (rw (wide, le-leb x x (omega arith), same_type_itself type) refl) (select_select_sound x flags type wide)

pub select_add_good : (x : ℕ) (flags : Flags) → (x ≡ 32) ⊎ (x ≡ 64) → IsGoodRewriteAt x at.Selecting (select_two op.GenericAdd op.Add flags x)
select_add_good x flags word = at_words at.Selecting (λ x. select_two op.GenericAdd op.Add flags x) refl refl x word (select_add_sound x flags)

pub select_sub_good : (x : ℕ) (flags : Flags) → (x ≡ 32) ⊎ (x ≡ 64) → IsGoodRewriteAt x at.Selecting (select_two op.GenericSubtract op.Subtract flags x)
select_sub_good x flags word = at_words at.Selecting (λ x. select_two op.GenericSubtract op.Subtract flags x) refl refl x word (select_sub_sound x flags)

pub select_mul_good : (x : ℕ) (flags : Flags) → (x ≡ 32) ⊎ (x ≡ 64) → IsGoodRewriteAt x at.Selecting (select_two op.GenericMultiply op.Multiply flags x)
select_mul_good x flags word = at_words at.Selecting (λ x. select_two op.GenericMultiply op.Multiply flags x) refl refl x word (select_mul_sound x flags)

pub select_shl_good : (x : ℕ) (flags : Flags) → (x ≡ 32) ⊎ (x ≡ 64) → IsGoodRewriteAt x at.Selecting (select_two op.GenericShiftLeft op.ShiftLeftLogical flags x)
select_shl_good x flags word = at_words at.Selecting (λ x. select_two op.GenericShiftLeft op.ShiftLeftLogical flags x) refl refl x word (select_shl_sound x flags)

pub select_lshr_good : (x : ℕ) (flags : Flags) → (x ≡ 32) ⊎ (x ≡ 64) → IsGoodRewriteAt x at.Selecting (select_two op.GenericLogicalShiftRight op.ShiftRightLogical flags x)
select_lshr_good x flags word = at_words at.Selecting (λ x. select_two op.GenericLogicalShiftRight op.ShiftRightLogical flags x) refl refl x word (select_lshr_sound x flags)

pub select_ashr_good : (x : ℕ) (flags : Flags) → (x ≡ 32) ⊎ (x ≡ 64) → IsGoodRewriteAt x at.Selecting (select_two op.GenericArithmeticShiftRight op.ShiftRightArithmetic flags x)
select_ashr_good x flags word =
    at_words at.Selecting (λ x. select_two op.GenericArithmeticShiftRight op.ShiftRightArithmetic flags x) refl refl x word (select_ashr_sound x flags)

pub select_udiv_good : (x : ℕ) (flags : Flags) → (x ≡ 32) ⊎ (x ≡ 64) → IsGoodRewriteAt x at.Selecting (select_two op.GenericUnsignedDivide op.DivideUnsigned flags x)
select_udiv_good x flags word = at_words at.Selecting (λ x. select_two op.GenericUnsignedDivide op.DivideUnsigned flags x) refl refl x word (select_udiv_sound x flags)

pub select_sdiv_good : (x : ℕ) (flags : Flags) → (x ≡ 32) ⊎ (x ≡ 64) → IsGoodRewriteAt x at.Selecting (select_two op.GenericSignedDivide op.Divide flags x)
select_sdiv_good x flags word = at_words at.Selecting (λ x. select_two op.GenericSignedDivide op.Divide flags x) refl refl x word (select_sdiv_sound x flags)

pub select_urem_good : (x : ℕ) (flags : Flags) → (x ≡ 32) ⊎ (x ≡ 64) → IsGoodRewriteAt x at.Selecting (select_two op.GenericUnsignedRemainder op.RemainderUnsigned flags x)
select_urem_good x flags word = at_words at.Selecting (λ x. select_two op.GenericUnsignedRemainder op.RemainderUnsigned flags x) refl refl x word (select_urem_sound x flags)

pub select_srem_good : (x : ℕ) (flags : Flags) → (x ≡ 32) ⊎ (x ≡ 64) → IsGoodRewriteAt x at.Selecting (select_two op.GenericSignedRemainder op.Remainder flags x)
select_srem_good x flags word = at_words at.Selecting (λ x. select_two op.GenericSignedRemainder op.Remainder flags x) refl refl x word (select_srem_sound x flags)

pub select_and_good : (x : ℕ) (flags : Flags) → (x ≡ 32) ⊎ (x ≡ 64) → IsGoodRewriteAt x at.Selecting (select_two op.GenericAnd op.And flags x)
select_and_good x flags word = at_words at.Selecting (λ x. select_two op.GenericAnd op.And flags x) refl refl x word (select_and_sound x flags)

pub select_or_good : (x : ℕ) (flags : Flags) → (x ≡ 32) ⊎ (x ≡ 64) → IsGoodRewriteAt x at.Selecting (select_two op.GenericOr op.Or flags x)
select_or_good x flags word = at_words at.Selecting (λ x. select_two op.GenericOr op.Or flags x) refl refl x word (select_or_sound x flags)

pub select_xor_good : (x : ℕ) (flags : Flags) → (x ≡ 32) ⊎ (x ≡ 64) → IsGoodRewriteAt x at.Selecting (select_two op.GenericXor op.Xor flags x)
select_xor_good x flags word = at_words at.Selecting (λ x. select_two op.GenericXor op.Xor flags x) refl refl x word (select_xor_sound x flags)

pub select_umulh_good : (x : ℕ) (flags : Flags) → (x ≡ 32) ⊎ (x ≡ 64) → IsGoodRewriteAt x at.Selecting (select_two op.GenericUnsignedMultiplyHigh op.MultiplyHighUnsigned flags x)
select_umulh_good x flags word =
    at_words at.Selecting (λ x. select_two op.GenericUnsignedMultiplyHigh op.MultiplyHighUnsigned flags x) refl refl x word (select_umulh_sound x flags)

pub select_smulh_good : (x : ℕ) (flags : Flags) → (x ≡ 32) ⊎ (x ≡ 64) → IsGoodRewriteAt x at.Selecting (select_two op.GenericSignedMultiplyHigh op.MultiplyHigh flags x)
select_smulh_good x flags word = at_words at.Selecting (λ x. select_two op.GenericSignedMultiplyHigh op.MultiplyHigh flags x) refl refl x word (select_smulh_sound x flags)

pub select_ptr_add_good : (x : ℕ) (flags : Flags) → (x ≡ 32) ⊎ (x ≡ 64) → IsGoodRewriteAt x at.Selecting (select_ptr_add flags x)
select_ptr_add_good x flags word = at_words at.Selecting (λ x. select_ptr_add flags x) refl refl x word (select_ptr_add_sound x flags)

pub select_andi_good : (x : ℕ) (flags more : Flags) (i : ℤ) → (x ≡ 32) ⊎ (x ≡ 64) → is_immediate i ≡ true → IsGoodRewriteAt x at.Selecting (select_number op.GenericAnd op.AndImmediate flags more x i)
select_andi_good x flags more i word immediate =
    at_words at.Selecting (λ x. select_number op.GenericAnd op.AndImmediate flags more x i) refl refl x word (select_andi_sound x flags more i immediate)

pub select_xori_good : (x : ℕ) (flags more : Flags) (i : ℤ) → (x ≡ 32) ⊎ (x ≡ 64) → is_immediate i ≡ true → IsGoodRewriteAt x at.Selecting (select_number op.GenericXor op.XorImmediate flags more x i)
select_xori_good x flags more i word immediate =
    at_words at.Selecting (λ x. select_number op.GenericXor op.XorImmediate flags more x i) refl refl x word (select_xori_sound x flags more i immediate)

pub select_ori_good : (x : ℕ) (flags more : Flags) (i : ℤ) → (x ≡ 32) ⊎ (x ≡ 64) → is_immediate i ≡ true → IsGoodRewriteAt x at.Selecting (select_number op.GenericOr op.OrImmediate flags more x i)
select_ori_good x flags more i word immediate =
    at_words at.Selecting (λ x. select_number op.GenericOr op.OrImmediate flags more x i) refl refl x word (select_ori_sound x flags more i immediate)

pub select_shl_by_good : (x : ℕ) (flags more : Flags) (k : ℕ) → (x ≡ 32) ⊎ (x ≡ 64) → k < x → IsGoodRewriteAt x at.Selecting (select_shift op.GenericShiftLeft op.ShiftLeftLogicalImmediate flags more x k)
select_shl_by_good x flags more k word less =
    at_words at.Selecting (λ x. select_shift op.GenericShiftLeft op.ShiftLeftLogicalImmediate flags more x k) refl refl x word (select_shl_by_sound x flags more k less)

pub select_lshr_by_good : (x : ℕ) (flags more : Flags) (k : ℕ) → (x ≡ 32) ⊎ (x ≡ 64) → k < x → IsGoodRewriteAt x at.Selecting (select_shift op.GenericLogicalShiftRight op.ShiftRightLogicalImmediate flags more x k)
select_lshr_by_good x flags more k word less =
    at_words at.Selecting (λ x. select_shift op.GenericLogicalShiftRight op.ShiftRightLogicalImmediate flags more x k) refl refl x word (select_lshr_by_sound x flags more k less)

pub select_ashr_by_good : (x : ℕ) (flags more : Flags) (k : ℕ) → (x ≡ 32) ⊎ (x ≡ 64) → k < x → IsGoodRewriteAt x at.Selecting (select_shift op.GenericArithmeticShiftRight op.ShiftRightArithmeticImmediate flags more x k)
select_ashr_by_good x flags more k word less =
    at_words at.Selecting (λ x. select_shift op.GenericArithmeticShiftRight op.ShiftRightArithmeticImmediate flags more x k) refl refl x word (select_ashr_by_sound x flags more k less)

pub select_icmp_ult_good : (x : ℕ) (flags : Flags) → (x ≡ 32) ⊎ (x ≡ 64) → IsGoodRewriteAt x at.Selecting (select_below Ult op.SetLessUnsigned flags x)
select_icmp_ult_good x flags word = at_words at.Selecting (λ x. select_below Ult op.SetLessUnsigned flags x) refl refl x word (select_icmp_ult_sound x flags)

pub select_icmp_slt_good : (x : ℕ) (flags : Flags) → (x ≡ 32) ⊎ (x ≡ 64) → IsGoodRewriteAt x at.Selecting (select_below Slt op.SetLess flags x)
select_icmp_slt_good x flags word = at_words at.Selecting (λ x. select_below Slt op.SetLess flags x) refl refl x word (select_icmp_slt_sound x flags)

pub select_icmp_ugt_good : (x : ℕ) (flags : Flags) → (x ≡ 32) ⊎ (x ≡ 64) → IsGoodRewriteAt x at.Selecting (select_above Ugt op.SetLessUnsigned flags x)
select_icmp_ugt_good x flags word = at_words at.Selecting (λ x. select_above Ugt op.SetLessUnsigned flags x) refl refl x word (select_icmp_ugt_sound x flags)

pub select_icmp_sgt_good : (x : ℕ) (flags : Flags) → (x ≡ 32) ⊎ (x ≡ 64) → IsGoodRewriteAt x at.Selecting (select_above Sgt op.SetLess flags x)
select_icmp_sgt_good x flags word = at_words at.Selecting (λ x. select_above Sgt op.SetLess flags x) refl refl x word (select_icmp_sgt_sound x flags)

pub select_icmp_uge_good : (x : ℕ) (flags : Flags) → (x ≡ 32) ⊎ (x ≡ 64) → IsGoodRewriteAt x at.Selecting (select_not_below Uge op.SetLessUnsigned flags x)
select_icmp_uge_good x flags word =
    at_words at.Selecting (λ x. select_not_below Uge op.SetLessUnsigned flags x) refl refl x word (select_icmp_uge_sound x flags (word_some x word))

pub select_icmp_sge_good : (x : ℕ) (flags : Flags) → (x ≡ 32) ⊎ (x ≡ 64) → IsGoodRewriteAt x at.Selecting (select_not_below Sge op.SetLess flags x)
select_icmp_sge_good x flags word = at_words at.Selecting (λ x. select_not_below Sge op.SetLess flags x) refl refl x word (select_icmp_sge_sound x flags (word_some x word))

pub select_icmp_sle_good : (x : ℕ) (flags : Flags) → (x ≡ 32) ⊎ (x ≡ 64) → IsGoodRewriteAt x at.Selecting (select_not_above Sle op.SetLess flags x)
select_icmp_sle_good x flags word = at_words at.Selecting (λ x. select_not_above Sle op.SetLess flags x) refl refl x word (select_icmp_sle_sound x flags (word_some x word))

pub select_icmp_eq_good : (x : ℕ) (flags : Flags) → (x ≡ 32) ⊎ (x ≡ 64) → IsGoodRewriteAt x at.Selecting (select_icmp_eq flags x)
select_icmp_eq_good x flags word = at_words at.Selecting (λ x. select_icmp_eq flags x) refl refl x word (select_icmp_eq_sound x flags (word_some x word))

pub select_icmp_ne_good : (x : ℕ) (flags : Flags) → (x ≡ 32) ⊎ (x ≡ 64) → IsGoodRewriteAt x at.Selecting (select_icmp_ne flags x)
select_icmp_ne_good x flags word = at_words at.Selecting (λ x. select_icmp_ne flags x) refl refl x word (select_icmp_ne_sound x flags)

pub select_eq_zero_good : (x : ℕ) (flags more : Flags) → (x ≡ 32) ⊎ (x ≡ 64) → IsGoodRewriteAt x at.Selecting (select_eq_zero flags more x)
select_eq_zero_good x flags more word = at_words at.Selecting (λ x. select_eq_zero flags more x) refl refl x word (select_eq_zero_sound x flags more (word_some x word))

pub select_ne_zero_good : (x : ℕ) (flags more : Flags) → (x ≡ 32) ⊎ (x ≡ 64) → IsGoodRewriteAt x at.Selecting (select_ne_zero flags more x)
select_ne_zero_good x flags more word = at_words at.Selecting (λ x. select_ne_zero flags more x) refl refl x word (select_ne_zero_sound x flags more)

pub select_sltiu_good : (x : ℕ) (flags more : Flags) (i : ℤ) → (x ≡ 32) ⊎ (x ≡ 64) → is_immediate i ≡ true → IsGoodRewriteAt x at.Selecting (select_below_number Ult op.SetLessImmediateUnsigned flags more x i)
select_sltiu_good x flags more i word immediate =
    at_words at.Selecting (λ x. select_below_number Ult op.SetLessImmediateUnsigned flags more x i) refl refl x word (select_sltiu_sound x flags more i immediate)

pub select_slti_good : (x : ℕ) (flags more : Flags) (i : ℤ) → (x ≡ 32) ⊎ (x ≡ 64) → is_immediate i ≡ true → IsGoodRewriteAt x at.Selecting (select_below_number Slt op.SetLessImmediate flags more x i)
select_slti_good x flags more i word immediate =
    at_words at.Selecting (λ x. select_below_number Slt op.SetLessImmediate flags more x i) refl refl x word (select_slti_sound x flags more i immediate)

pub select_sext_good : (flags : Flags) → IsGoodRewriteAt 64 at.Selecting (select_sext flags)
select_sext_good flags = good_by 64 at.Selecting (select_sext flags) refl (select_sext_sound flags)

pub select_sext_inreg_good : (flags : Flags) → IsGoodRewriteAt 64 at.Selecting (select_sext_inreg flags)
select_sext_inreg_good flags = good_by 64 at.Selecting (select_sext_inreg flags) refl (select_sext_inreg_sound flags)

pub select_implicit_def_good : (x : ℕ) (flags : Flags) (type : Llt) → is_any x type ≡ true → IsGoodRewriteAt x at.Selecting (select_implicit_def flags type)
select_implicit_def_good x flags type kind =
    good_by x at.Selecting (select_implicit_def flags type) (rw (kind, same_type_itself type) refl) (select_implicit_def_sound x flags type)

pub select_add_half_good : (flags : Flags) → IsGoodRewriteAt 64 at.Selecting (select_two op.GenericAdd op.AddWord flags 32)
select_add_half_good flags = good_by 64 at.Selecting (select_two op.GenericAdd op.AddWord flags 32) refl (select_add_half_sound flags)

pub select_sub_half_good : (flags : Flags) → IsGoodRewriteAt 64 at.Selecting (select_two op.GenericSubtract op.SubtractWord flags 32)
select_sub_half_good flags = good_by 64 at.Selecting (select_two op.GenericSubtract op.SubtractWord flags 32) refl (select_sub_half_sound flags)

pub select_mul_half_good : (flags : Flags) → IsGoodRewriteAt 64 at.Selecting (select_two op.GenericMultiply op.MultiplyWord flags 32)
select_mul_half_good flags = good_by 64 at.Selecting (select_two op.GenericMultiply op.MultiplyWord flags 32) refl (select_mul_half_sound flags)

pub select_shl_half_good : (flags : Flags) → IsGoodRewriteAt 64 at.Selecting (select_two op.GenericShiftLeft op.ShiftLeftLogicalWord flags 32)
select_shl_half_good flags = good_by 64 at.Selecting (select_two op.GenericShiftLeft op.ShiftLeftLogicalWord flags 32) refl (select_shl_half_sound flags)

pub select_lshr_half_good : (flags : Flags) → IsGoodRewriteAt 64 at.Selecting (select_two op.GenericLogicalShiftRight op.ShiftRightLogicalWord flags 32)
select_lshr_half_good flags = good_by 64 at.Selecting (select_two op.GenericLogicalShiftRight op.ShiftRightLogicalWord flags 32) refl (select_lshr_half_sound flags)

pub select_ashr_half_good : (flags : Flags) → IsGoodRewriteAt 64 at.Selecting (select_two op.GenericArithmeticShiftRight op.ShiftRightArithmeticWord flags 32)
select_ashr_half_good flags = good_by 64 at.Selecting (select_two op.GenericArithmeticShiftRight op.ShiftRightArithmeticWord flags 32) refl (select_ashr_half_sound flags)

pub select_udiv_half_good : (flags : Flags) → IsGoodRewriteAt 64 at.Selecting (select_two op.GenericUnsignedDivide op.DivideUnsignedWord flags 32)
select_udiv_half_good flags = good_by 64 at.Selecting (select_two op.GenericUnsignedDivide op.DivideUnsignedWord flags 32) refl (select_udiv_half_sound flags)

pub select_sdiv_half_good : (flags : Flags) → IsGoodRewriteAt 64 at.Selecting (select_two op.GenericSignedDivide op.DivideWord flags 32)
select_sdiv_half_good flags = good_by 64 at.Selecting (select_two op.GenericSignedDivide op.DivideWord flags 32) refl (select_sdiv_half_sound flags)

pub select_urem_half_good : (flags : Flags) → IsGoodRewriteAt 64 at.Selecting (select_two op.GenericUnsignedRemainder op.RemainderUnsignedWord flags 32)
select_urem_half_good flags = good_by 64 at.Selecting (select_two op.GenericUnsignedRemainder op.RemainderUnsignedWord flags 32) refl (select_urem_half_sound flags)

pub select_srem_half_good : (flags : Flags) → IsGoodRewriteAt 64 at.Selecting (select_two op.GenericSignedRemainder op.RemainderWord flags 32)
select_srem_half_good flags = good_by 64 at.Selecting (select_two op.GenericSignedRemainder op.RemainderWord flags 32) refl (select_srem_half_sound flags)

pub select_addiw_good : (flags more : Flags) (i : ℤ) → is_immediate i ≡ true → IsGoodRewriteAt 64 at.Selecting (select_number op.GenericAdd op.AddImmediateWord flags more 32 i)
select_addiw_good flags more i immediate = good_by 64 at.Selecting (select_number op.GenericAdd op.AddImmediateWord flags more 32 i) refl (select_addiw_sound flags more i immediate)

pub select_shl_half_by_good : (flags more : Flags) (k : ℕ) → k < 32 → IsGoodRewriteAt 64 at.Selecting (select_shift op.GenericShiftLeft op.ShiftLeftLogicalImmediateWord flags more 32 k)
select_shl_half_by_good flags more k less = good_by 64 at.Selecting (select_shift op.GenericShiftLeft op.ShiftLeftLogicalImmediateWord flags more 32 k) refl (select_shl_half_by_sound flags more k less)

pub select_lshr_half_by_good : (flags more : Flags) (k : ℕ) → k < 32 → IsGoodRewriteAt 64 at.Selecting (select_shift op.GenericLogicalShiftRight op.ShiftRightLogicalImmediateWord flags more 32 k)
select_lshr_half_by_good flags more k less = good_by 64 at.Selecting (select_shift op.GenericLogicalShiftRight op.ShiftRightLogicalImmediateWord flags more 32 k) refl (select_lshr_half_by_sound flags more k less)

pub select_ashr_half_by_good : (flags more : Flags) (k : ℕ) → k < 32 → IsGoodRewriteAt 64 at.Selecting (select_shift op.GenericArithmeticShiftRight op.ShiftRightArithmeticImmediateWord flags more 32 k)
select_ashr_half_by_good flags more k less = good_by 64 at.Selecting (select_shift op.GenericArithmeticShiftRight op.ShiftRightArithmeticImmediateWord flags more 32 k) refl (select_ashr_half_by_sound flags more k less)

pub select_trunc_good : (x : ℕ) (flags : Flags) (m n : ℕ) → 1 ≤ n → n < m → m ≤ 2 * x → IsGoodRewriteAt x at.Selecting (select_copy op.GenericTruncate flags (s m) (s n))
select_trunc_good x flags m n some less few =
    good_by x at.Selecting (select_copy op.GenericTruncate flags (s m) (s n)) (rw (same n, ne_eqb n m (λ e. omega (arith, less, e)), le-leb 1 n some, le-leb n (2 * x) (omega (arith, less, few)), le-leb 1 m (omega (arith, some, less)), le-leb m (2 * x) few) refl) (select_trunc_sound x flags m n less)

pub select_anyext_good : (x : ℕ) (flags : Flags) (m n : ℕ) → 1 ≤ m → m < n → n ≤ 2 * x → IsGoodRewriteAt x at.Selecting (select_copy op.GenericAnyExtend flags (s m) (s n))
select_anyext_good x flags m n some less few =
    good_by x at.Selecting (select_copy op.GenericAnyExtend flags (s m) (s n)) (rw (same n, ne_eqb n m (λ e. omega (arith, less, e)), le-leb 1 n (omega (arith, some, less)), le-leb n (2 * x) few, le-leb 1 m some, le-leb m (2 * x) (omega (arith, less, few))) refl) (select_anyext_sound x flags m n less)

pub select_ptrtoint_good : (x : ℕ) (flags : Flags) → 1 ≤ x → IsGoodRewriteAt x at.Selecting (select_copy op.GenericPointerToInteger flags Pointer (s x))
select_ptrtoint_good x flags some = good_by x at.Selecting (select_copy op.GenericPointerToInteger flags Pointer (s x)) (rw (same x, le-leb 1 x some, le-leb x (2 * x) (omega arith)) refl) (select_ptrtoint_sound x flags)

pub select_inttoptr_good : (x : ℕ) (flags : Flags) → 1 ≤ x → IsGoodRewriteAt x at.Selecting (select_copy op.GenericIntegerToPointer flags (s x) Pointer)
select_inttoptr_good x flags some = good_by x at.Selecting (select_copy op.GenericIntegerToPointer flags (s x) Pointer) (rw (le-leb 1 x some, le-leb x (2 * x) (omega arith)) refl) (select_inttoptr_sound x flags)
