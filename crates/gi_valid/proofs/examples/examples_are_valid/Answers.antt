use Rattle.std.proofs.Common.{[], ◌∷◌, refl}
use Rattle.gi_mir.specs.declared.opcode.Opcode.TheVariants.{GenericLoad}
use Rattle.gi_valid.specs.Examples.{extents_of, extents_of_round, goes_round, divides_first, loads_all, points_to_zero}
use Rattle.gi_valid.proofs.Trials.{alone_contained, loop_contained}
use Rattle.gi_valid.proofs.examples.examples_are_valid.Goals as goal

pub returns-clause-loop_ : goal.returns-clause-loop_
returns-clause-loop_ c = record {
  extents = extents_of_round;
  contained = loop_contained (3 ∷ 4 ∷ []) (1 ∷ 2 ∷ 4 ∷ []) goes_round refl refl refl (λ a. refl) (refl, refl, refl, refl);
  faultless = refl;
}

pub returns-clause-division_first : goal.returns-clause-division_first
returns-clause-division_first c = record {
  extents = extents_of (2 ∷ []) (0 ∷ 1 ∷ []) [];
  contained = alone_contained (2 ∷ []) (0 ∷ 1 ∷ []) divides_first refl;
  faultless = refl;
}

pub returns-clause-load_ : goal.returns-clause-load_
returns-clause-load_ c = record { extents = extents_of [] [] []; contained = alone_contained [] [] (loads_all GenericLoad) refl; faultless = refl }

pub returns-clause-pointer_ : goal.returns-clause-pointer_
returns-clause-pointer_ c = record { extents = extents_of [] [] []; contained = alone_contained [] [] points_to_zero refl; faultless = refl }
