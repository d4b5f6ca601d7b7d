use Rattle.gi_riscv.proofs.ZeroSelected.{use_zero_sound}
use Rattle.gi_riscv.proofs.selection.zero_is_selected.Goals as goal

pub returns : goal.returns
returns c = record { use_zero = use_zero_sound }
