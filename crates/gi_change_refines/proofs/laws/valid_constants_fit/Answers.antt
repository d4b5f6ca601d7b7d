use Rattle.gi_change_refines.proofs.Sized.{constants_fit}
use Rattle.gi_change_refines.proofs.laws.valid_constants_fit.Goals as goal

pub returns : goal.returns
returns c = constants_fit
