use Rattle.gi_rule_refines.proofs.CombiningRows.{add_zero_good, and_same_good, and_zero_good, ashr_zero_good, constant_fold_good, cut_anyext_good, cut_sext_good, cut_zext_good, fold_anyext_good, fold_sext_good, fold_trunc_good, fold_zext_good, icmp_and_one_good, lshr_zero_good, mul_one_good, mul_to_shl_good, mul_zero_good, or_same_good, or_zero_good, pointer_identity_good, sdiv_one_good, select_constant_good, select_same_good, shl_zero_good, sub_same_good, sub_to_add_good, sub_zero_good, udiv_one_good, udiv_to_lshr_good, urem_to_mask_good, xor_same_good, xor_zero_good}
use Rattle.gi_rule_refines.proofs.rows.combining_are_good.Goals as goal

pub returns : goal.returns
returns c = record {
  mul_to_shl = mul_to_shl_good;
  sub_to_add = sub_to_add_good;
  udiv_to_lshr = udiv_to_lshr_good;
  urem_to_mask = urem_to_mask_good;
  add_zero = add_zero_good;
  sub_zero = sub_zero_good;
  or_zero = or_zero_good;
  xor_zero = xor_zero_good;
  shl_zero = shl_zero_good;
  lshr_zero = lshr_zero_good;
  ashr_zero = ashr_zero_good;
  mul_one = mul_one_good;
  udiv_one = udiv_one_good;
  sdiv_one = sdiv_one_good;
  pointer_identity = pointer_identity_good;
  sub_same = sub_same_good;
  xor_same = xor_same_good;
  cut_anyext = cut_anyext_good;
  cut_zext = cut_zext_good;
  cut_sext = cut_sext_good;
  mul_zero = mul_zero_good;
  and_zero = and_zero_good;
  and_same = and_same_good;
  or_same = or_same_good;
  select_same = select_same_good;
  select_constant = select_constant_good;
  icmp_and_one = icmp_and_one_good;
  fold_trunc = fold_trunc_good;
  fold_zext = fold_zext_good;
  fold_sext = fold_sext_good;
  fold_anyext = fold_anyext_good;
  constant_fold = constant_fold_good;
}
