use Rattle.std.proofs.Common.{refl}
use Rattle.gi_rule_values.proofs.laws.artifacts_runs.Goals as goal

pub returns : goal.returns
returns c = record {
  freeze_to_copy = refl;
  trunc_of_trunc = refl;
  anyext_of_trunc_same = refl;
  anyext_of_trunc_narrower = refl;
  anyext_of_trunc_wider = refl;
  zext_of_trunc_same = refl;
  zext_of_trunc_narrower = refl;
  zext_of_trunc_wider = refl;
  sext_of_trunc_same = refl;
  sext_of_trunc_narrower = refl;
  sext_of_trunc_wider = refl;
  unmerge_of_merge = refl;
  trunc_of_merge_same = refl;
  trunc_of_merge_narrower = refl;
}
