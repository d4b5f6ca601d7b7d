use Rattle.std.proofs.Common.{refl}
use Rattle.gi_rule_values.proofs.laws.lowering_runs.Goals as goal

pub returns : goal.returns
returns c = record {
  lower_uadde = refl;
  lower_abs = refl;
  lower_abs_least = refl;
  narrow_and = refl;
  narrow_or = refl;
  narrow_xor = refl;
  lower_bswap_32 = refl;
  lower_bswap_64 = refl;
  lower_ctpop_32 = refl;
  lower_ctpop_32_all = refl;
  lower_ctpop_64 = refl;
  lower_ctpop_64_all = refl;
  lower_merge = refl;
  lower_uaddo = refl;
  lower_usubo = refl;
  lower_usube = refl;
  lower_smin = refl;
  lower_smax = refl;
  lower_umin = refl;
  lower_umax = refl;
  lower_rotl = refl;
  lower_rotr = refl;
  lower_ctlz_zero_undef = refl;
  lower_cttz_zero_undef = refl;
  lower_sext_inreg = refl;
  lower_unmerge = refl;
  narrow_add = refl;
  narrow_sub = refl;
  narrow_select = refl;
  narrow_zext = refl;
  narrow_anyext = refl;
  narrow_implicit_def = refl;
  narrow_constant = refl;
  narrow_bswap = refl;
}
