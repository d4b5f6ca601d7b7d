use Rattle.gi_refine.proofs.Refining.{refines_through}
use Rattle.gi_refine.proofs.laws.refinement_is_transitive.Goals as goal

pub returns : goal.returns
returns c = refines_through
