use Rattle.gi_rule_refines.proofs.WideningRows.{widen_add_good, widen_and_good, widen_anyext_good, widen_ashr_good, widen_condition_good, widen_constant_good, widen_ctpop_good, widen_icmp_good, widen_icmp_result_good, widen_implicit_def_good, widen_lshr_good, widen_mul_good, widen_or_good, widen_sdiv_good, widen_select_good, widen_sext_good, widen_sext_inreg_good, widen_shl_good, widen_srem_good, widen_sub_good, widen_udiv_good, widen_urem_good, widen_xor_good, widen_zext_good}
use Rattle.gi_rule_refines.proofs.rows.widening_are_good.Goals as goal

pub returns : goal.returns
returns c = record {
  widen_add = widen_add_good;
  widen_lshr = widen_lshr_good;
  widen_constant = widen_constant_good;
  widen_sub = widen_sub_good;
  widen_mul = widen_mul_good;
  widen_and = widen_and_good;
  widen_or = widen_or_good;
  widen_xor = widen_xor_good;
  widen_shl = widen_shl_good;
  widen_ashr = widen_ashr_good;
  widen_ctpop = widen_ctpop_good;
  widen_sext_inreg = widen_sext_inreg_good;
  widen_select = widen_select_good;
  widen_condition = widen_condition_good;
  widen_icmp_result = widen_icmp_result_good;
  widen_icmp = widen_icmp_good;
  widen_anyext = widen_anyext_good;
  widen_zext = widen_zext_good;
  widen_sext = widen_sext_good;
  widen_implicit_def = widen_implicit_def_good;
  widen_sdiv = widen_sdiv_good;
  widen_udiv = widen_udiv_good;
  widen_urem = widen_urem_good;
  widen_srem = widen_srem_good;
}
