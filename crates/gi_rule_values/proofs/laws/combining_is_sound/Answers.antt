use Rattle.gi_rule_values.proofs.Combining.{add_zero_sound, ashr_zero_sound, cut_anyext_sound, cut_sext_sound, cut_zext_sound, lshr_zero_sound, mul_one_sound, mul_to_shl_sound, or_zero_sound, pointer_identity_sound, sdiv_one_sound, shl_zero_sound, sub_same_sound, sub_to_add_sound, sub_zero_sound, udiv_one_sound, udiv_to_lshr_sound, urem_to_mask_sound, xor_same_sound, xor_zero_sound}
use Rattle.gi_rule_values.proofs.CombiningMore.{and_same_sound, and_zero_sound, constant_fold_sound, fold_anyext_sound, fold_sext_sound, fold_trunc_sound, fold_zext_sound, icmp_and_one_sound, mul_zero_sound, or_same_sound, select_constant_sound, select_same_sound}
use Rattle.gi_rule_values.proofs.laws.combining_is_sound.Goals as goal

pub returns : goal.returns
returns c = record {
  mul_to_shl = mul_to_shl_sound;
  sub_to_add = sub_to_add_sound;
  udiv_to_lshr = udiv_to_lshr_sound;
  urem_to_mask = urem_to_mask_sound;
  add_zero = add_zero_sound;
  sub_zero = sub_zero_sound;
  or_zero = or_zero_sound;
  xor_zero = xor_zero_sound;
  shl_zero = shl_zero_sound;
  lshr_zero = lshr_zero_sound;
  ashr_zero = ashr_zero_sound;
  mul_one = mul_one_sound;
  udiv_one = udiv_one_sound;
  sdiv_one = sdiv_one_sound;
  pointer_identity = pointer_identity_sound;
  sub_same = sub_same_sound;
  xor_same = xor_same_sound;
  cut_anyext = cut_anyext_sound;
  cut_zext = cut_zext_sound;
  cut_sext = cut_sext_sound;
  mul_zero = mul_zero_sound;
  and_zero = and_zero_sound;
  and_same = and_same_sound;
  or_same = or_same_sound;
  select_same = select_same_sound;
  select_constant = select_constant_sound;
  icmp_and_one = icmp_and_one_sound;
  fold_trunc = fold_trunc_sound;
  fold_zext = fold_zext_sound;
  fold_sext = fold_sext_sound;
  fold_anyext = fold_anyext_sound;
  constant_fold = constant_fold_sound;
}
