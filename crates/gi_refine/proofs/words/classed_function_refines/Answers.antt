use Rattle.gi_refine.proofs.Classed.{classed_refines}
use Rattle.gi_refine.proofs.words.classed_function_refines.Goals as goal

pub returns : goal.returns
returns c = λ x names f wide worded. classed_refines x wide names f worded
