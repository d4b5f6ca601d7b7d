use Rattle.std.proofs.Common.{[], ◌∷◌, None, Some, refl}
use Rattle.gi_mir.specs.Places.{body_at}
use Rattle.gi_meaning.specs.Act.{Results, Leaves}
use Rattle.gi_meaning.specs.Runs.{On, Left}
use Rattle.gi_meaning.specs.State.{State, outside_of, start, Virtual, put}
use Rattle.gi_valid.specs.Examples.{extents_of_round, goes_round, world_with}
use Rattle.gi_valid.proofs.Trials.{copied, copied_and_set, loop_contained}
use Rattle.gi_valid.proofs.examples.a_loop_runs.Goals as goal

pub returns-clause-available : goal.returns-clause-available
returns-clause-available c = record {
  extent = extents_of_round 4;
  contained = loop_contained (3 ∷ 4 ∷ []) (1 ∷ 2 ∷ 4 ∷ []) goes_round refl refl refl (λ a. refl) (refl, refl, refl, refl) 4;
  holds = refl;
}

-- the states behind the phi and the sum
abbrev joined_first : State
joined_first = put copied_and_set (Virtual 2) 5

abbrev summed : State
summed = put joined_first (Virtual 4) 6

pub returns-clause-reached : goal.returns-clause-reached
returns-clause-reached c = (
  summed,
  record {
    block = body_at goes_round.blocks 1;
    middle = joined_first;
    enters = record {
      entries = 1;
      from = Some 0;
      entered = copied_and_set;
      arrives = (
        None,
        0,
        start (world_with 5),
        (refl, refl, refl),
        record {
          block = body_at goes_round.blocks 0;
          middle = start (world_with 5);
          joins = record { here = refl; phis = refl };
          progress = Left 1 copied_and_set;
          body = (
            On copied,
            (Results (5 ∷ []) (outside_of (start (world_with 5))), (5 ∷ [], refl, refl), refl),
            (
              On copied_and_set,
              (Results (1 ∷ []) (outside_of copied), (1 ∷ [], refl, refl), refl),
              (Left 1 copied_and_set, (Leaves 1, refl, refl), refl),
            ),
          );
          goes = (refl, refl);
        },
        refl,
      );
      joins = record { here = refl; phis = refl };
    };
    ran = (On summed, (Results (6 ∷ []) (outside_of joined_first), (6 ∷ [], refl, refl), refl), refl);
  },
  refl,
  refl,
  refl,
)
