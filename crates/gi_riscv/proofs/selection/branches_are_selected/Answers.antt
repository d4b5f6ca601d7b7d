use Rattle.gi_riscv.proofs.BranchesSelected.{on_comparison, on_word, always}
use Rattle.gi_riscv.proofs.selection.branches_are_selected.Goals as goal

pub returns : goal.returns
returns c = record {
  on_comparison = on_comparison;
  on_word = on_word;
  always = always;
}
