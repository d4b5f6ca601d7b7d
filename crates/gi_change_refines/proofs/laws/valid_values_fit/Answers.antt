use Rattle.gi_change_refines.proofs.WidthsValid.{widths_valid}
use Rattle.gi_change_refines.proofs.laws.valid_values_fit.Goals as goal

pub returns : goal.returns
returns c = widths_valid
