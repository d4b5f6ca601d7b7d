use Rattle.gi_rule_values.proofs.Halves.{narrow_add_sound, narrow_anyext_sound, narrow_bswap_sound, narrow_constant_sound, narrow_implicit_def_sound, narrow_select_sound, narrow_sub_sound, narrow_zext_sound}
use Rattle.gi_rule_values.proofs.Lowering.{lower_abs_sound, lower_bswap_32_sound, lower_bswap_64_sound, lower_ctpop_32_sound, lower_ctpop_64_sound, lower_uadde_sound, narrow_and_sound, narrow_or_sound, narrow_xor_sound}
use Rattle.gi_rule_values.proofs.LoweringMore.{lower_ctlz_zero_undef_sound, lower_cttz_zero_undef_sound, lower_rotl_sound, lower_rotr_sound, lower_sext_inreg_sound, lower_smax_sound, lower_smin_sound, lower_uaddo_sound, lower_umax_sound, lower_umin_sound, lower_usube_sound, lower_usubo_sound}
use Rattle.gi_rule_values.proofs.Parts.{lower_merge_sound, lower_unmerge_sound}
use Rattle.gi_rule_values.proofs.laws.lowering_is_sound.Goals as goal

pub returns : goal.returns
returns c = record {
  lower_uadde = lower_uadde_sound;
  lower_abs = lower_abs_sound;
  narrow_and = narrow_and_sound;
  narrow_or = narrow_or_sound;
  narrow_xor = narrow_xor_sound;
  lower_bswap_32 = lower_bswap_32_sound;
  lower_bswap_64 = lower_bswap_64_sound;
  lower_ctpop_32 = lower_ctpop_32_sound;
  lower_ctpop_64 = lower_ctpop_64_sound;
  lower_merge = lower_merge_sound;
  lower_uaddo = lower_uaddo_sound;
  lower_usubo = lower_usubo_sound;
  lower_usube = lower_usube_sound;
  lower_smin = lower_smin_sound;
  lower_smax = lower_smax_sound;
  lower_umin = lower_umin_sound;
  lower_umax = lower_umax_sound;
  lower_rotl = lower_rotl_sound;
  lower_rotr = lower_rotr_sound;
  lower_ctlz_zero_undef = lower_ctlz_zero_undef_sound;
  lower_cttz_zero_undef = lower_cttz_zero_undef_sound;
  lower_sext_inreg = lower_sext_inreg_sound;
  lower_unmerge = lower_unmerge_sound;
  narrow_add = narrow_add_sound;
  narrow_sub = narrow_sub_sound;
  narrow_select = narrow_select_sound;
  narrow_zext = narrow_zext_sound;
  narrow_anyext = narrow_anyext_sound;
  narrow_implicit_def = narrow_implicit_def_sound;
  narrow_constant = narrow_constant_sound;
  narrow_bswap = narrow_bswap_sound;
}
