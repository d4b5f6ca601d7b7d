use Rattle.gi_refine.proofs.Refining.{refines_itself}
use Rattle.gi_refine.proofs.laws.refinement_is_reflexive.Goals as goal

pub returns : goal.returns
returns c = refines_itself
