use Rattle.std.proofs.Common.{[], ◌∷◌, None, refl}
use Rattle.gi_mir.specs.Places.{body_at}
use Rattle.gi_meaning.specs.Act.{Results}
use Rattle.gi_meaning.specs.Argument.{Value}
use Rattle.gi_meaning.specs.InRow.{checked_blocks}
use Rattle.gi_meaning.specs.Runs.{On}
use Rattle.gi_meaning.specs.State.{State, outside_of, start, Virtual, put}
use Rattle.gi_valid.specs.Examples.{adds_x10, extents_of, world_with}
use Rattle.gi_valid.proofs.Trials.{alone_contained, copied}
use Rattle.gi_valid.proofs.examples.a_run_meets_a_failing_row.Goals as goal

pub returns-clause-valid : goal.returns-clause-valid
returns-clause-valid c = record {
  extents = extents_of (1 ∷ 2 ∷ []) (0 ∷ 1 ∷ []) [];
  contained = alone_contained (1 ∷ 2 ∷ []) (0 ∷ 1 ∷ []) adds_x10 refl;
  faultless = refl;
}

pub returns-clause-outside : goal.returns-clause-outside
returns-clause-outside c = refl

pub returns-clause-available : goal.returns-clause-available
returns-clause-available c = record {
  extent = extents_of (1 ∷ 2 ∷ []) (0 ∷ 1 ∷ []) [] 1;
  contained = alone_contained (1 ∷ 2 ∷ []) (0 ∷ 1 ∷ []) adds_x10 refl 1;
  holds = refl;
}

pub returns-clause-pure : goal.returns-clause-pure
returns-clause-pure c = (refl, refl)

-- the state behind the sum
abbrev summed : State
summed = put copied (Virtual 1) 10

pub returns-clause-reached : goal.returns-clause-reached
returns-clause-reached c = (
  summed,
  record {
    block = body_at (checked_blocks 32 adds_x10) 0;
    middle = start (world_with 5);
    enters = record { entries = 0; from = None; entered = start (world_with 5); arrives = (refl, refl, refl); joins = record { here = refl; phis = refl } };
    ran = (
      On copied,
      (Results (5 ∷ []) (outside_of (start (world_with 5))), (5 ∷ [], refl, refl), refl),
      (
        On summed,
        (Results (10 ∷ []) (outside_of copied), (Value 32 5 ∷ Value 32 5 ∷ [], (Value 32 5, Value 32 5 ∷ [], refl, (Value 32 5, [], refl, refl, refl), refl), (10 ∷ [], refl, refl)), refl),
        refl,
      ),
    );
  },
  refl,
  refl,
)
