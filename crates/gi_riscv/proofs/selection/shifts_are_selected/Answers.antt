use Rattle.gi_riscv.proofs.ShiftsSelected.{shift_left_sound, shift_right_sound, shift_right_signed_sound, shift_left_half_sound, shift_right_half_sound, shift_right_signed_half_sound, shift_left_by_sound, shift_right_by_sound, shift_right_signed_by_sound, shift_left_half_by_sound, shift_right_half_by_sound, shift_right_signed_half_by_sound}
use Rattle.gi_riscv.proofs.selection.shifts_are_selected.Goals as goal

pub returns : goal.returns
returns c = record {
  shift_left = shift_left_sound;
  shift_right = shift_right_sound;
  shift_right_signed = shift_right_signed_sound;
  shift_left_half = shift_left_half_sound;
  shift_right_half = shift_right_half_sound;
  shift_right_signed_half = shift_right_signed_half_sound;
  shift_left_by = shift_left_by_sound;
  shift_right_by = shift_right_by_sound;
  shift_right_signed_by = shift_right_signed_by_sound;
  shift_left_half_by = shift_left_half_by_sound;
  shift_right_half_by = shift_right_half_by_sound;
  shift_right_signed_half_by = shift_right_signed_half_by_sound;
}
