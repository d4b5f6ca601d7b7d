use Rattle.gi_rule_refines.proofs.ArtifactRows.{anyext_of_trunc_narrower_good, anyext_of_trunc_same_good, anyext_of_trunc_wider_good, freeze_to_copy_good, sext_of_trunc_narrower_good, sext_of_trunc_same_good, sext_of_trunc_wider_good, trunc_of_merge_narrower_good, trunc_of_merge_same_good, trunc_of_trunc_good, zext_of_trunc_narrower_good, zext_of_trunc_same_good, zext_of_trunc_wider_good}
use Rattle.gi_rule_refines.proofs.PartRows.{unmerge_of_merge_good}
use Rattle.gi_rule_refines.proofs.rows.artifacts_are_good.Goals as goal

pub returns : goal.returns
returns c = record {
  freeze_to_copy = freeze_to_copy_good;
  trunc_of_trunc = trunc_of_trunc_good;
  anyext_of_trunc_same = anyext_of_trunc_same_good;
  anyext_of_trunc_narrower = anyext_of_trunc_narrower_good;
  anyext_of_trunc_wider = anyext_of_trunc_wider_good;
  zext_of_trunc_same = zext_of_trunc_same_good;
  zext_of_trunc_narrower = zext_of_trunc_narrower_good;
  zext_of_trunc_wider = zext_of_trunc_wider_good;
  sext_of_trunc_same = sext_of_trunc_same_good;
  sext_of_trunc_narrower = sext_of_trunc_narrower_good;
  sext_of_trunc_wider = sext_of_trunc_wider_good;
  unmerge_of_merge = unmerge_of_merge_good;
  trunc_of_merge_same = trunc_of_merge_same_good;
  trunc_of_merge_narrower = trunc_of_merge_narrower_good;
}
