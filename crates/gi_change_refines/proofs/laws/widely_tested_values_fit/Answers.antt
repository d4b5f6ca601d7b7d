use Rattle.gi_change_refines.proofs.WidthsKept.{widths_kept}
use Rattle.gi_change_refines.proofs.laws.widely_tested_values_fit.Goals as goal

pub returns : goal.returns
returns c = widths_kept
