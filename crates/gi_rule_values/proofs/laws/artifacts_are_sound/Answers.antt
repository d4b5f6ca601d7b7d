use Rattle.gi_rule_values.proofs.Artifacts.{anyext_of_trunc_narrower_sound, anyext_of_trunc_same_sound, anyext_of_trunc_wider_sound, freeze_to_copy_sound, sext_of_trunc_narrower_sound, sext_of_trunc_same_sound, sext_of_trunc_wider_sound, trunc_of_trunc_sound, zext_of_trunc_narrower_sound, zext_of_trunc_same_sound, zext_of_trunc_wider_sound}
use Rattle.gi_rule_values.proofs.Halves.{trunc_of_merge_narrower_sound, trunc_of_merge_same_sound}
use Rattle.gi_rule_values.proofs.Parts.{unmerge_of_merge_sound}
use Rattle.gi_rule_values.proofs.laws.artifacts_are_sound.Goals as goal

pub returns : goal.returns
returns c = record {
  freeze_to_copy = freeze_to_copy_sound;
  trunc_of_trunc = trunc_of_trunc_sound;
  anyext_of_trunc_same = anyext_of_trunc_same_sound;
  anyext_of_trunc_narrower = anyext_of_trunc_narrower_sound;
  anyext_of_trunc_wider = anyext_of_trunc_wider_sound;
  zext_of_trunc_same = zext_of_trunc_same_sound;
  zext_of_trunc_narrower = zext_of_trunc_narrower_sound;
  zext_of_trunc_wider = zext_of_trunc_wider_sound;
  sext_of_trunc_same = sext_of_trunc_same_sound;
  sext_of_trunc_narrower = sext_of_trunc_narrower_sound;
  sext_of_trunc_wider = sext_of_trunc_wider_sound;
  unmerge_of_merge = unmerge_of_merge_sound;
  trunc_of_merge_same = trunc_of_merge_same_sound;
  trunc_of_merge_narrower = trunc_of_merge_narrower_sound;
}
