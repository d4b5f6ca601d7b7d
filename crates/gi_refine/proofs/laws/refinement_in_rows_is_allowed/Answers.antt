use Rattle.gi_refine.proofs.RowsHeld.{allowed_in_rows}
use Rattle.gi_refine.proofs.laws.refinement_in_rows_is_allowed.Goals as goal

pub returns : goal.returns
returns c = allowed_in_rows
