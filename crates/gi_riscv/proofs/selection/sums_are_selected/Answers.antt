use Rattle.gi_riscv.proofs.SumsSelected.{add_sound, add_pointer_sound, subtract_sound, add_half_sound, subtract_half_sound, add_number_sound, add_first_number_sound, add_number_to_pointer_sound, add_number_half_sound, add_first_number_half_sound, subtract_number_sound, subtract_number_half_sound}
use Rattle.gi_riscv.proofs.selection.sums_are_selected.Goals as goal

pub returns : goal.returns
returns c = record {
  add = add_sound;
  add_pointer = add_pointer_sound;
  subtract = subtract_sound;
  add_half = add_half_sound;
  subtract_half = subtract_half_sound;
  add_number = add_number_sound;
  add_first_number = add_first_number_sound;
  add_number_to_pointer = add_number_to_pointer_sound;
  add_number_half = add_number_half_sound;
  add_first_number_half = add_first_number_half_sound;
  subtract_number = subtract_number_sound;
  subtract_number_half = subtract_number_half_sound;
}
