use Rattle.gi_rule_refines.proofs.ConstantRow.{materialize_constant_good}
use Rattle.gi_rule_refines.proofs.SelectingRows.{select_add_good, select_add_half_good, select_addi_good, select_addiw_good, select_and_good, select_andi_good, select_anyext_good, select_ashr_by_good, select_ashr_good, select_ashr_half_by_good, select_ashr_half_good, select_eq_zero_good, select_icmp_eq_good, select_icmp_ne_good, select_icmp_sge_good, select_icmp_sgt_good, select_icmp_sle_good, select_icmp_slt_good, select_icmp_uge_good, select_icmp_ugt_good, select_icmp_ule_good, select_icmp_ult_good, select_implicit_def_good, select_inttoptr_good, select_lshr_by_good, select_lshr_good, select_lshr_half_by_good, select_lshr_half_good, select_mul_good, select_mul_half_good, select_ne_zero_good, select_or_good, select_ori_good, select_ptr_add_good, select_ptrtoint_good, select_sdiv_good, select_sdiv_half_good, select_select_good, select_sext_good, select_sext_inreg_good, select_shl_by_good, select_shl_good, select_shl_half_by_good, select_shl_half_good, select_slti_good, select_sltiu_good, select_smulh_good, select_srem_good, select_srem_half_good, select_sub_good, select_sub_half_good, select_trunc_good, select_udiv_good, select_udiv_half_good, select_umulh_good, select_urem_good, select_urem_half_good, select_xor_good, select_xori_good, select_zext_good}
use Rattle.gi_rule_refines.proofs.rows.selecting_are_good.Goals as goal

pub returns : goal.returns
returns c = record {
  select_icmp_ule = select_icmp_ule_good;
  select_zext = select_zext_good;
  select_addi = select_addi_good;
  select_select = select_select_good;
  materialize_constant = materialize_constant_good;
  select_add = select_add_good;
  select_sub = select_sub_good;
  select_mul = select_mul_good;
  select_shl = select_shl_good;
  select_lshr = select_lshr_good;
  select_ashr = select_ashr_good;
  select_udiv = select_udiv_good;
  select_sdiv = select_sdiv_good;
  select_urem = select_urem_good;
  select_srem = select_srem_good;
  select_and = select_and_good;
  select_or = select_or_good;
  select_xor = select_xor_good;
  select_umulh = select_umulh_good;
  select_smulh = select_smulh_good;
  select_ptr_add = select_ptr_add_good;
  select_andi = select_andi_good;
  select_xori = select_xori_good;
  select_ori = select_ori_good;
  select_shl_by = select_shl_by_good;
  select_lshr_by = select_lshr_by_good;
  select_ashr_by = select_ashr_by_good;
  select_icmp_ult = select_icmp_ult_good;
  select_icmp_slt = select_icmp_slt_good;
  select_icmp_ugt = select_icmp_ugt_good;
  select_icmp_sgt = select_icmp_sgt_good;
  select_icmp_uge = select_icmp_uge_good;
  select_icmp_sge = select_icmp_sge_good;
  select_icmp_sle = select_icmp_sle_good;
  select_icmp_eq = select_icmp_eq_good;
  select_icmp_ne = select_icmp_ne_good;
  select_eq_zero = select_eq_zero_good;
  select_ne_zero = select_ne_zero_good;
  select_sltiu = select_sltiu_good;
  select_slti = select_slti_good;
  select_sext = select_sext_good;
  select_sext_inreg = select_sext_inreg_good;
  select_implicit_def = select_implicit_def_good;
  select_add_half = select_add_half_good;
  select_sub_half = select_sub_half_good;
  select_mul_half = select_mul_half_good;
  select_shl_half = select_shl_half_good;
  select_lshr_half = select_lshr_half_good;
  select_ashr_half = select_ashr_half_good;
  select_udiv_half = select_udiv_half_good;
  select_sdiv_half = select_sdiv_half_good;
  select_urem_half = select_urem_half_good;
  select_srem_half = select_srem_half_good;
  select_addiw = select_addiw_good;
  select_shl_half_by = select_shl_half_by_good;
  select_lshr_half_by = select_lshr_half_by_good;
  select_ashr_half_by = select_ashr_half_by_good;
  select_trunc = select_trunc_good;
  select_anyext = select_anyext_good;
  select_ptrtoint = select_ptrtoint_good;
  select_inttoptr = select_inttoptr_good;
}
