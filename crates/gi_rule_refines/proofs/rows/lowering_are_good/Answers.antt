use Rattle.gi_rule_refines.proofs.LoweringRows.{lower_abs_good, lower_bswap_32_good, lower_bswap_64_good, lower_ctlz_zero_undef_good, lower_ctpop_32_good, lower_ctpop_64_good, lower_cttz_zero_undef_good, lower_rotl_good, lower_rotr_good, lower_sext_inreg_good, lower_smax_good, lower_smin_good, lower_uadde_good, lower_uaddo_good, lower_umax_good, lower_umin_good, lower_usube_good, lower_usubo_good, narrow_add_good, narrow_and_good, narrow_anyext_good, narrow_bswap_good, narrow_constant_good, narrow_implicit_def_good, narrow_or_good, narrow_select_good, narrow_sub_good, narrow_xor_good, narrow_zext_good}
use Rattle.gi_rule_refines.proofs.PartRows.{lower_merge_good, lower_unmerge_good}
use Rattle.gi_rule_refines.proofs.rows.lowering_are_good.Goals as goal

pub returns : goal.returns
returns c = record {
  lower_uadde = lower_uadde_good;
  lower_abs = lower_abs_good;
  narrow_and = narrow_and_good;
  narrow_or = narrow_or_good;
  narrow_xor = narrow_xor_good;
  lower_bswap_32 = lower_bswap_32_good;
  lower_bswap_64 = lower_bswap_64_good;
  lower_ctpop_32 = lower_ctpop_32_good;
  lower_ctpop_64 = lower_ctpop_64_good;
  lower_merge = lower_merge_good;
  lower_uaddo = lower_uaddo_good;
  lower_usubo = lower_usubo_good;
  lower_usube = lower_usube_good;
  lower_smin = lower_smin_good;
  lower_smax = lower_smax_good;
  lower_umin = lower_umin_good;
  lower_umax = lower_umax_good;
  lower_rotl = lower_rotl_good;
  lower_rotr = lower_rotr_good;
  lower_ctlz_zero_undef = lower_ctlz_zero_undef_good;
  lower_cttz_zero_undef = lower_cttz_zero_undef_good;
  lower_sext_inreg = lower_sext_inreg_good;
  lower_unmerge = lower_unmerge_good;
  narrow_add = narrow_add_good;
  narrow_sub = narrow_sub_good;
  narrow_select = narrow_select_good;
  narrow_zext = narrow_zext_good;
  narrow_anyext = narrow_anyext_good;
  narrow_implicit_def = narrow_implicit_def_good;
  narrow_constant = narrow_constant_good;
  narrow_bswap = narrow_bswap_good;
}
