use Rattle.gi_riscv.proofs.QuotientsSelected.{divide_unsigned_sound, divide_sound, remainder_unsigned_sound, remainder_sound, divide_unsigned_half_sound, divide_half_sound, remainder_unsigned_half_sound, remainder_half_sound}
use Rattle.gi_riscv.proofs.selection.quotients_are_selected.Goals as goal

pub returns : goal.returns
returns c = record {
  divide_unsigned = divide_unsigned_sound;
  divide = divide_sound;
  remainder_unsigned = remainder_unsigned_sound;
  remainder = remainder_sound;
  divide_unsigned_half = divide_unsigned_half_sound;
  divide_half = divide_half_sound;
  remainder_unsigned_half = remainder_unsigned_half_sound;
  remainder_half = remainder_half_sound;
}
