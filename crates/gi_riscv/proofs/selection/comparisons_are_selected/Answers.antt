use Rattle.gi_riscv.proofs.ComparisonsSelected.{compare_ult_sound, compare_ugt_sound, compare_slt_sound, compare_sgt_sound, compare_uge_sound, compare_ule_sound, compare_sge_sound, compare_sle_sound, compare_eq_sound, compare_ne_sound, compare_eq_zero_sound, compare_ne_zero_sound, compare_ult_number_sound, compare_slt_number_sound}
use Rattle.gi_riscv.proofs.selection.comparisons_are_selected.Goals as goal

pub returns : goal.returns
returns c = record {
  compare_ult = compare_ult_sound;
  compare_ugt = compare_ugt_sound;
  compare_slt = compare_slt_sound;
  compare_sgt = compare_sgt_sound;
  compare_uge = compare_uge_sound;
  compare_ule = compare_ule_sound;
  compare_sge = compare_sge_sound;
  compare_sle = compare_sle_sound;
  compare_eq = compare_eq_sound;
  compare_ne = compare_ne_sound;
  compare_eq_zero = compare_eq_zero_sound;
  compare_ne_zero = compare_ne_zero_sound;
  compare_ult_number = compare_ult_number_sound;
  compare_slt_number = compare_slt_number_sound;
}
