use Rattle.gi_riscv.proofs.CastsSelected.{zero_extend_sound, sign_extend_sound, sign_extend_in_register_sound, truncate_sound, any_extend_sound, pointer_to_integer_sound, integer_to_pointer_sound, freeze_sound}
use Rattle.gi_riscv.proofs.selection.casts_are_selected.Goals as goal

pub returns : goal.returns
returns c = record {
  zero_extend = zero_extend_sound;
  sign_extend = sign_extend_sound;
  sign_extend_in_register = sign_extend_in_register_sound;
  truncate = truncate_sound;
  any_extend = any_extend_sound;
  pointer_to_integer = pointer_to_integer_sound;
  integer_to_pointer = integer_to_pointer_sound;
  freeze = freeze_sound;
}
