use Rattle.gi_rule_values.proofs.Widening.{widen_add_sound, widen_constant_sound, widen_lshr_sound, widen_sdiv_sound}
use Rattle.gi_rule_values.proofs.WideningMore.{widen_and_sound, widen_anyext_sound, widen_ashr_sound, widen_condition_sound, widen_ctpop_sound, widen_icmp_result_sound, widen_icmp_sound, widen_implicit_def_sound, widen_mul_sound, widen_or_sound, widen_select_sound, widen_sext_inreg_sound, widen_sext_sound, widen_shl_sound, widen_srem_sound, widen_sub_sound, widen_udiv_sound, widen_urem_sound, widen_xor_sound, widen_zext_sound}
use Rattle.gi_rule_values.proofs.laws.widening_is_sound.Goals as goal

pub returns : goal.returns
returns c = record {
  widen_add = widen_add_sound;
  widen_lshr = widen_lshr_sound;
  widen_sdiv = widen_sdiv_sound;
  widen_constant = widen_constant_sound;
  widen_sub = widen_sub_sound;
  widen_mul = widen_mul_sound;
  widen_and = widen_and_sound;
  widen_or = widen_or_sound;
  widen_xor = widen_xor_sound;
  widen_shl = widen_shl_sound;
  widen_ashr = widen_ashr_sound;
  widen_udiv = widen_udiv_sound;
  widen_urem = widen_urem_sound;
  widen_srem = widen_srem_sound;
  widen_ctpop = widen_ctpop_sound;
  widen_sext_inreg = widen_sext_inreg_sound;
  widen_select = widen_select_sound;
  widen_condition = widen_condition_sound;
  widen_icmp_result = widen_icmp_result_sound;
  widen_icmp = widen_icmp_sound;
  widen_anyext = widen_anyext_sound;
  widen_zext = widen_zext_sound;
  widen_sext = widen_sext_sound;
  widen_implicit_def = widen_implicit_def_sound;
}
