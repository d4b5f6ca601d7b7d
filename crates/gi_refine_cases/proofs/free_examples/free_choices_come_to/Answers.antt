use Rattle.std.proofs.Common.{suc, [], ◌∷◌, refl}
use Rattle.gi_meaning.specs.State.{Returned}
use Rattle.gi_refine.specs.Examples.{counting, names, world_of, one_block}
use Rattle.gi_refine_cases.specs.TargetExamples.{adds_without_wrapping}
use Rattle.gi_refine.proofs.Evaluating.{outcome_so}
use Rattle.gi_refine_cases.proofs.FreeRuns.{extends_anyhow_returns, takes_anything_returns, broken_promise_returns, shift_returns, low_half_returns}
use Rattle.gi_refine_cases.proofs.NarrowRuns.{low_halves_come_to, upper_half_returns}
use Rattle.gi_refine_cases.proofs.free_examples.free_choices_come_to.Goals as goal

pub returns : goal.returns
returns c = record {
  extension = extends_anyhow_returns;
  anything = takes_anything_returns;
  broken = broken_promise_returns;
  kept = λ n. outcome_so 32 names (one_block adds_without_wrapping) (world_of 3 2 0 []) (suc n) (Returned (5 ∷ []) counting 0) refl;
  shift_too_far = shift_returns;
  low_half = low_half_returns;
  low_sum = low_halves_come_to;
  upper_half = upper_half_returns;
}
