use Rattle.gi_riscv.proofs.LogicSelected.{logical_and_sound, logical_or_sound, logical_xor_sound, and_number_sound, and_first_number_sound, or_number_sound, or_first_number_sound, xor_number_sound, xor_first_number_sound}
use Rattle.gi_riscv.proofs.selection.logic_is_selected.Goals as goal

pub returns : goal.returns
returns c = record {
  logical_and = logical_and_sound;
  logical_or = logical_or_sound;
  logical_xor = logical_xor_sound;
  and_number = and_number_sound;
  and_first_number = and_first_number_sound;
  or_number = or_number_sound;
  or_first_number = or_first_number_sound;
  xor_number = xor_number_sound;
  xor_first_number = xor_first_number_sound;
}
