use Rattle.std.proofs.Common.{refl}
use Rattle.gi_rule_values.proofs.laws.widening_runs.Goals as goal

pub returns : goal.returns
returns c = record {
  widen_add = refl;
  widen_lshr = refl;
  widen_sdiv = refl;
  widen_constant = refl;
  widen_sub = refl;
  widen_mul = refl;
  widen_and = refl;
  widen_or = refl;
  widen_xor = refl;
  widen_shl = refl;
  widen_ashr = refl;
  widen_udiv = refl;
  widen_urem = refl;
  widen_srem = refl;
  widen_ctpop = refl;
  widen_sext_inreg = refl;
  widen_select = refl;
  widen_condition = refl;
  widen_icmp_result = refl;
  widen_icmp = refl;
  widen_icmp_unsigned = refl;
  widen_anyext = refl;
  widen_zext = refl;
  widen_sext = refl;
  widen_implicit_def = refl;
}
