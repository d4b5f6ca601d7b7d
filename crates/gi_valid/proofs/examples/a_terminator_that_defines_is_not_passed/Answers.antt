use Rattle.std.proofs.Common.{◌≡◌, ℕ, zero, suc, true, [], ◌∷◌, ◌==◌, None, Some, refl, sym, subst}
use Rattle.std.proofs.lemmas.Bool.{and_parts, eqb-true}
use Rattle.gi_mir.specs.Formed.{is_formed}
use Rattle.gi_mir.specs.Places.{body_at}
use Rattle.gi_meaning.specs.Act.{Results, Leaves}
use Rattle.gi_meaning.specs.InRow.{checked_blocks}
use Rattle.gi_meaning.specs.Runs.{On, Left, is_among}
use Rattle.gi_meaning.specs.State.{outside_of, start}
use Rattle.gi_valid.specs.Available.{IsReachedBlock, at_end, successors_of}
use Rattle.gi_valid.specs.Examples.{extents_of, jumps_with_result, world_with}
use Rattle.gi_valid.proofs.Trials.{alone_contained, computed_within, copied, copied_and_set}
use Rattle.gi_valid.proofs.examples.a_terminator_that_defines_is_not_passed.Goals as goal

pub returns-clause-valid : goal.returns-clause-valid
returns-clause-valid c = record { extents = extents_of [] [] []; contained = alone_contained [] [] jumps_with_result refl; faultless = refl }

pub returns-clause-pure : goal.returns-clause-pure
unfolding is_formed
returns-clause-pure c = (refl, refl, refl)

-- %2 is available at the start of block 1, which is reached from block 0 alone
starts_at_one : (b : ℕ) → (extents_of [] [] (2 ∷ []) 2).starts b ≡ true → b ≡ 1
starts_at_one b starts = eqb-true b 1 (and_parts (b == 1) true starts).0

joined : (a b : ℕ) → is_among b (successors_of jumps_with_result a) ≡ true → at_end jumps_with_result 2 (extents_of [] [] (2 ∷ []) 2) a ≡ true
joined zero b among = refl
joined (suc zero) b among = cc
joined (suc (suc zero)) b among = cc
joined (suc (suc (suc a))) b among = cc

pub returns-clause-available : goal.returns-clause-available
returns-clause-available c = record {
  extent = extents_of [] [] (2 ∷ []) 2;
  contained = record {
    computed = computed_within [] [] (2 ∷ []) jumps_with_result refl 2;
    first = refl;
    joined = λ a b reached among starts. joined a b among;
    apart = λ b unreached starts. absurd (unreached (subst (IsReachedBlock jumps_with_result) (sym (starts_at_one b starts)) (record { steps = 1; path = (0, refl, refl) })));
  };
  holds = refl;
}

pub returns-clause-reached : goal.returns-clause-reached
returns-clause-reached c = (
  copied_and_set,
  record {
    block = body_at (checked_blocks 32 jumps_with_result) 1;
    middle = copied_and_set;
    enters = record {
      entries = 1;
      from = Some 0;
      entered = copied_and_set;
      arrives = (
        None,
        0,
        start (world_with 5),
        (refl, refl, refl),
        record {
          block = body_at (checked_blocks 32 jumps_with_result) 0;
          middle = start (world_with 5);
          joins = record { here = refl; phis = refl };
          progress = Left 1 copied_and_set;
          body = (
            On copied,
            (Results (5 ∷ []) (outside_of (start (world_with 5))), (5 ∷ [], refl, refl), refl),
            (
              On copied_and_set,
              (Results (1 ∷ []) (outside_of copied), (1 ∷ [], refl, refl), refl),
              (Left 1 copied_and_set, (Leaves 1, refl, refl), refl),
            ),
          );
          goes = (refl, refl);
        },
        refl,
      );
      joins = record { here = refl; phis = refl };
    };
    ran = refl;
  },
  refl,
)
