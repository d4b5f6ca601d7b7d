use Rattle.std.proofs.Common.{refl}
use Rattle.gi_rule_values.proofs.Numbers.{same}
use Rattle.gi_rule_valid.proofs.laws.rewrites_keep.Goals as goal

pub returns : goal.returns
returns c = record {
  mul_to_shl = λ x flags more n k some few. rw (same n, some, few) refl;
  sub_to_add = λ x flags more n k some few. rw (same n, some, few) refl;
  widen_add = λ x flags n w some below few more some' few' less. rw (same n, same w, some, below, few, more, some', few', less) refl;
  lower_uadde = λ x flags n more some few one. rw (same n, more, some, few, one) refl;
  select_icmp_ule_32 = λ flags. refl;
  select_icmp_ule_64 = λ flags. refl;
  division = λ flags. refl;
  copy = λ flags. refl;
}
