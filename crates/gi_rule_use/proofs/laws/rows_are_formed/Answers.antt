use Rattle.std.proofs.Common.{refl}
use Rattle.gi_mir.specs.Formed.{is_formed}
use Rattle.gi_rule_use.proofs.laws.rows_are_formed.Goals as goal

pub returns : goal.returns
unfolding is_formed
returns c = record {
  freeze_to_copy = λ flags type. refl;
  trunc_of_trunc = λ flags more m w k. refl;
  mul_to_shl = λ flags more n k within. rw within refl;
  widen_add = λ flags n w. refl;
  lower_uadde = λ flags n. refl;
  select_icmp_ule = λ flags x. refl;
  select_zext = λ flags. refl;
}
