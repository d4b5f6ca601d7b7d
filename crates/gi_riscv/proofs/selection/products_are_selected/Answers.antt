use Rattle.gi_riscv.proofs.ProductsSelected.{multiply_sound, multiply_half_sound, multiply_high_unsigned_sound, multiply_high_sound}
use Rattle.gi_riscv.proofs.selection.products_are_selected.Goals as goal

pub returns : goal.returns
returns c = record {
  multiply = multiply_sound;
  multiply_half = multiply_half_sound;
  multiply_high_unsigned = multiply_high_unsigned_sound;
  multiply_high = multiply_high_sound;
}
