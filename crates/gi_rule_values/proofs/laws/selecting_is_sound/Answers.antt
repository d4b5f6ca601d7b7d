use Rattle.gi_rule_values.proofs.Materialised.{materialize_constant_sound}
use Rattle.gi_rule_values.proofs.Selecting.{select_addi_sound, select_icmp_ule_sound, select_select_sound, select_zext_sound}
use Rattle.gi_rule_values.proofs.SelectingMore.{select_add_half_sound, select_add_sound, select_addiw_sound, select_and_sound, select_andi_sound, select_anyext_sound, select_ashr_by_sound, select_ashr_half_by_sound, select_ashr_half_sound, select_ashr_sound, select_eq_zero_sound, select_icmp_eq_sound, select_icmp_ne_sound, select_icmp_sge_sound, select_icmp_sgt_sound, select_icmp_sle_sound, select_icmp_slt_sound, select_icmp_uge_sound, select_icmp_ugt_sound, select_icmp_ult_sound, select_implicit_def_sound, select_inttoptr_sound, select_lshr_by_sound, select_lshr_half_by_sound, select_lshr_half_sound, select_lshr_sound, select_mul_half_sound, select_mul_sound, select_ne_zero_sound, select_or_sound, select_ori_sound, select_ptr_add_sound, select_ptrtoint_sound, select_sdiv_half_sound, select_sdiv_sound, select_sext_inreg_sound, select_sext_sound, select_shl_by_sound, select_shl_half_by_sound, select_shl_half_sound, select_shl_sound, select_slti_sound, select_sltiu_sound, select_smulh_sound, select_srem_half_sound, select_srem_sound, select_sub_half_sound, select_sub_sound, select_trunc_sound, select_udiv_half_sound, select_udiv_sound, select_umulh_sound, select_urem_half_sound, select_urem_sound, select_xor_sound, select_xori_sound}
use Rattle.gi_rule_values.proofs.laws.selecting_is_sound.Goals as goal

pub returns : goal.returns
returns c = record {
  select_icmp_ule = select_icmp_ule_sound;
  select_zext = select_zext_sound;
  select_addi = select_addi_sound;
  select_select = select_select_sound;
  materialize_constant = materialize_constant_sound;
  select_add = select_add_sound;
  select_add_half = select_add_half_sound;
  select_sub = select_sub_sound;
  select_sub_half = select_sub_half_sound;
  select_mul = select_mul_sound;
  select_mul_half = select_mul_half_sound;
  select_shl = select_shl_sound;
  select_shl_half = select_shl_half_sound;
  select_lshr = select_lshr_sound;
  select_lshr_half = select_lshr_half_sound;
  select_ashr = select_ashr_sound;
  select_ashr_half = select_ashr_half_sound;
  select_udiv = select_udiv_sound;
  select_udiv_half = select_udiv_half_sound;
  select_sdiv = select_sdiv_sound;
  select_sdiv_half = select_sdiv_half_sound;
  select_urem = select_urem_sound;
  select_urem_half = select_urem_half_sound;
  select_srem = select_srem_sound;
  select_srem_half = select_srem_half_sound;
  select_and = select_and_sound;
  select_or = select_or_sound;
  select_xor = select_xor_sound;
  select_umulh = select_umulh_sound;
  select_smulh = select_smulh_sound;
  select_ptr_add = select_ptr_add_sound;
  select_andi = select_andi_sound;
  select_xori = select_xori_sound;
  select_ori = select_ori_sound;
  select_addiw = select_addiw_sound;
  select_shl_by = select_shl_by_sound;
  select_shl_half_by = select_shl_half_by_sound;
  select_lshr_by = select_lshr_by_sound;
  select_lshr_half_by = select_lshr_half_by_sound;
  select_ashr_by = select_ashr_by_sound;
  select_ashr_half_by = select_ashr_half_by_sound;
  select_icmp_ult = select_icmp_ult_sound;
  select_icmp_slt = select_icmp_slt_sound;
  select_icmp_ugt = select_icmp_ugt_sound;
  select_icmp_sgt = select_icmp_sgt_sound;
  select_icmp_uge = select_icmp_uge_sound;
  select_icmp_sge = select_icmp_sge_sound;
  select_icmp_sle = select_icmp_sle_sound;
  select_icmp_eq = select_icmp_eq_sound;
  select_icmp_ne = select_icmp_ne_sound;
  select_eq_zero = select_eq_zero_sound;
  select_ne_zero = select_ne_zero_sound;
  select_sltiu = select_sltiu_sound;
  select_slti = select_slti_sound;
  select_trunc = select_trunc_sound;
  select_anyext = select_anyext_sound;
  select_ptrtoint = select_ptrtoint_sound;
  select_inttoptr = select_inttoptr_sound;
  select_sext = select_sext_sound;
  select_sext_inreg = select_sext_inreg_sound;
  select_implicit_def = select_implicit_def_sound;
}
