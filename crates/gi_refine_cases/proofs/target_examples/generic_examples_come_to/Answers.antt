use Rattle.std.proofs.Common.{suc, [], ◌∷◌, refl}
use Rattle.gi_meaning.specs.State.{Returned, Going, Undefined}
use Rattle.gi_refine_cases.specs.Examples.{chooses}
use Rattle.gi_refine.specs.Examples.{counting, names, world_of}
use Rattle.gi_refine_cases.specs.TargetExamples.{adds, multiplies, is_seven, divides_signed, reads_nothing, counts_down, returns_two}
use Rattle.gi_refine.proofs.Evaluating.{outcome_so}
use Rattle.gi_refine_cases.proofs.target_examples.generic_examples_come_to.Goals as goal

pub returns : goal.returns
returns c = record {
  sum = λ n. outcome_so 32 names adds (world_of 4294967295 2 0 []) (suc n) (Returned (1 ∷ []) counting 0) refl;
  product = λ n. outcome_so 32 names multiplies (world_of 65536 65537 0 []) (suc n) (Returned (65536 ∷ []) counting 0) refl;
  constant = λ n. outcome_so 32 names is_seven (world_of 0 0 0 []) (suc n) (Returned (7 ∷ []) counting 0) refl;
  at_once = outcome_so 32 names adds (world_of 1 2 0 []) 0 (Going counting 0) refl;
  before_another = outcome_so 32 names chooses (world_of 1 20 30 []) 1 (Going counting 0) refl;
  signed_overflow = λ n. outcome_so 32 names divides_signed (world_of 2147483648 4294967295 0 []) (suc n) Undefined refl;
  no_value = λ n. outcome_so 32 names reads_nothing (world_of 1 2 0 []) (suc n) Undefined refl;
  around = outcome_so 32 names counts_down (world_of 3 0 0 []) 4 (Going counting 0) refl;
  counted_down = λ n. outcome_so 32 names counts_down (world_of 3 0 0 []) (suc (suc (suc (suc (suc n))))) (Returned (0 ∷ []) counting 0) refl;
  two_words = λ n. outcome_so 32 names returns_two (world_of 5 6 0 []) (suc n) (Returned (5 ∷ 6 ∷ []) counting 0) refl;
}
