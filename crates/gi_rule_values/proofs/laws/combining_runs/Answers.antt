use Rattle.std.proofs.Common.{refl}
use Rattle.gi_rule_values.proofs.laws.combining_runs.Goals as goal

pub returns : goal.returns
returns c = record {
  mul_to_shl = refl;
  sub_to_add = refl;
  udiv_to_lshr = refl;
  urem_to_mask = refl;
  add_zero = refl;
  sub_zero = refl;
  or_zero = refl;
  xor_zero = refl;
  shl_zero = refl;
  lshr_zero = refl;
  ashr_zero = refl;
  mul_one = refl;
  udiv_one = refl;
  sdiv_one = refl;
  pointer_identity = refl;
  sub_same = refl;
  xor_same = refl;
  cut_anyext = refl;
  cut_zext = refl;
  cut_sext = refl;
  mul_zero = refl;
  and_zero = refl;
  and_same = refl;
  or_same = refl;
  select_same = refl;
  select_constant = refl;
  select_constant_other = refl;
  icmp_and_one = refl;
  fold_trunc = refl;
  fold_zext = refl;
  fold_sext = refl;
  fold_anyext = refl;
  constant_fold = refl;
}
