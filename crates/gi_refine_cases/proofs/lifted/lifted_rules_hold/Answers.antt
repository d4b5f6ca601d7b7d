use Rattle.std.proofs.Common.{[], ◌∷◌, refl}
use Rattle.gi_meaning.specs.State.{Returned}
use Rattle.gi_refine_cases.specs.CallTrial.{multiplies}
use Rattle.gi_refine.specs.Examples.{counting, names, world_of}
use Rattle.gi_refine_cases.specs.Trials.{narrow_phi}
use Rattle.gi_refine_cases.proofs.CallRule.{product_called}
use Rattle.gi_refine.proofs.Evaluating.{outcome_so}
use Rattle.gi_refine_cases.proofs.PhiRule.{phi_widened}
use Rattle.gi_refine_cases.proofs.WordsExample.{sum_classed}
use Rattle.gi_refine_cases.proofs.lifted.lifted_rules_hold.Goals as goal

pub returns-clause-phi : goal.returns-clause-phi
returns-clause-phi c = phi_widened

pub returns-clause-phi_returns : goal.returns-clause-phi_returns
returns-clause-phi_returns c = outcome_so 32 names narrow_phi (world_of 65537 131074 0 []) 3 (Returned (1 ∷ []) counting 0) refl

pub returns-clause-call : goal.returns-clause-call
returns-clause-call c = product_called

pub returns-clause-call_returns : goal.returns-clause-call_returns
returns-clause-call_returns c = outcome_so 32 names multiplies (world_of 3 0 5 []) 1 (Returned (15 ∷ 0 ∷ []) counting 0) refl

pub returns-clause-words : goal.returns-clause-words
returns-clause-words c = sum_classed
