use Rattle.gi_refine_cases.proofs.TrialBytes.{bytes_refine}
use Rattle.gi_refine_cases.proofs.TrialDoubles.{narrowing_refines}
use Rattle.gi_refine_cases.proofs.TrialParts.{widening_refines}
use Rattle.gi_refine_cases.proofs.TrialReplaced.{sum_refines}
use Rattle.gi_refine_cases.proofs.TrialTested.{product_refines}
use Rattle.gi_refine_cases.proofs.TrialUses.{subtraction_refines}
use Rattle.gi_refine_cases.proofs.trials.trial_uses_refine.Goals as goal

pub returns : goal.returns
returns c = record {
  folded = subtraction_refines;
  replaced = sum_refines;
  widened = widening_refines;
  narrowed = narrowing_refines;
  split = bytes_refine;
  shifted = product_refines;
}
