use Rattle.gi_riscv.proofs.AddressesSelected.{global_address_sound}
use Rattle.gi_riscv.proofs.CastsSelected.{leave_free_sound, stack_address_sound}
use Rattle.gi_riscv.proofs.selection.places_are_selected.Goals as goal

pub returns : goal.returns
returns c = record {
  leave_free = leave_free_sound;
  stack_address = stack_address_sound;
  global_address = global_address_sound;
}
