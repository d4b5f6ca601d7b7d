use Rattle.gi_riscv.proofs.ChoicesSelected.{choose_sound}
use Rattle.gi_riscv.proofs.selection.choices_are_selected.Goals as goal

pub returns : goal.returns
returns c = record { choose = choose_sound }
