use Rattle.std.proofs.Common.{suc, [], ◌∷◌, refl}
use Rattle.gi_meaning.specs.Memory.{stored}
use Rattle.gi_meaning.specs.State.{Returned, Undefined}
use Rattle.gi_refine.specs.Examples.{counting, names, world_of}
use Rattle.gi_refine_cases.specs.TargetExamples.{adds_words, adds_minus_one, is_below_five, upper_half, adds_low_words, extends_low_word, address_of_g, world_with_globals, stores_and_loads_words, loads_word, loads_double, compares}
use Rattle.gi_refine.proofs.Evaluating.{outcome_so}
use Rattle.gi_refine_cases.proofs.target_examples.target_examples_come_to.Goals as goal

pub returns : goal.returns
returns c = record {
  sum = λ n. outcome_so 32 names adds_words (world_of 4294967295 2 0 []) (suc n) (Returned (1 ∷ []) counting 0) refl;
  immediate = λ n. outcome_so 32 names adds_minus_one (world_of 0 0 0 []) (suc n) (Returned (4294967295 ∷ []) counting 0) refl;
  below = λ n. outcome_so 32 names is_below_five (world_of 4 0 0 []) (suc n) (Returned (1 ∷ []) counting 0) refl;
  upper = λ n. outcome_so 32 names upper_half (world_of 0 0 0 []) (suc n) (Returned (2147483648 ∷ []) counting 0) refl;
  upper_64 = λ n. outcome_so 64 names upper_half (world_of 0 0 0 []) (suc n) (Returned (18446744071562067968 ∷ []) counting 0) refl;
  low_words = λ n. outcome_so 64 names adds_low_words (world_of 4294967297 2147483647 0 []) (suc n) (Returned (18446744071562067968 ∷ []) counting 0) refl;
  low_word = λ n. outcome_so 64 names extends_low_word (world_of 4294967295 0 0 []) (suc n) (Returned (18446744073709551615 ∷ []) counting 0) refl;
  no_low_words = λ n. outcome_so 32 names adds_low_words (world_of 1 2 0 []) (suc n) Undefined refl;
  no_double = λ n. outcome_so 32 names loads_double (world_of 8 0 0 []) (suc n) Undefined refl;
  address = λ n. outcome_so 32 names address_of_g (world_with_globals 7000) (suc n) (Returned (7000 ∷ []) counting 0) refl;
  store_and_load = λ n. outcome_so 32 names stores_and_loads_words (world_of 8 258 0 []) (suc n) (Returned (258 ∷ []) (stored 32 4 counting 12 258) 0) refl;
  misaligned = λ n. outcome_so 32 names loads_word (world_of 6 0 0 []) (suc n) Undefined refl;
  double = λ n. outcome_so 64 names loads_double (world_of 8 0 0 []) (suc n) (Returned (1084818905618843912 ∷ []) counting 0) refl;
  taken = λ n. outcome_so 32 names compares (world_of 7 7 9 []) (suc (suc n)) (Returned (9 ∷ []) counting 0) refl;
  not_taken = λ n. outcome_so 32 names compares (world_of 7 8 9 []) (suc (suc n)) (Returned (7 ∷ []) counting 0) refl;
}
