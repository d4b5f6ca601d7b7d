use Rattle.gi_riscv.proofs.FunctionsSelected.{shift_refines}
use Rattle.gi_riscv.proofs.selection.selection_in_functions_refines.Goals as goal

pub returns : goal.returns
returns c = record { shift = shift_refines }
