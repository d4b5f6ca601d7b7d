use Rattle.std.proofs.Common.{suc, [], ◌∷◌, refl}
use Rattle.gi_meaning.specs.Memory.{stored}
use Rattle.gi_meaning.specs.State.{Returned, Undefined}
use Rattle.gi_refine.specs.Examples.{names, counting, world_of}
use Rattle.gi_refine_cases.specs.Examples.{stores_and_loads, loads_misaligned, divides, chooses}
use Rattle.gi_refine_cases.proofs.CallRuns.{answered_comes}
use Rattle.gi_refine.proofs.Evaluating.{outcome_so}
use Rattle.gi_refine_cases.proofs.ExampleRuns.{asks_comes}
use Rattle.gi_refine_cases.proofs.examples.examples_come_to.Goals as goal

pub returns : goal.returns
returns c = record {
  store_and_load = λ n. outcome_so 32 names stores_and_loads (world_of 8 258 0 []) (suc n) (Returned (2 ∷ []) (stored 32 2 counting 8 258) 0) refl;
  misaligned = λ n. outcome_so 32 names loads_misaligned (world_of 6 0 0 []) (suc n) Undefined refl;
  division_by_zero = λ n. outcome_so 32 names divides (world_of 9 0 0 []) (suc n) Undefined refl;
  taken = λ n. outcome_so 32 names chooses (world_of 1 20 30 []) (suc (suc n)) (Returned (20 ∷ []) counting 0) refl;
  not_taken = λ n. outcome_so 32 names chooses (world_of 0 20 30 []) (suc (suc (suc n))) (Returned (30 ∷ []) counting 0) refl;
  answered = answered_comes;
  unanswered = asks_comes;
}
