-- When a function may stand for another.
use Rattle.std.specs.Prelude.{ℕ, List, ◌⊎◌}
use Rattle.gi_mir.specs.Data.{FunctionData}
use Rattle.gi_meaning.specs.State.{World, IsWorld, Outcome, Undefined}
use Rattle.gi_meaning.specs.Runs.{RunsUnchecked}

-- Each run of the new function, in every world and for every number of block entries, is one of the old, or the old
-- one is undefined. Rows aren't looked at: a run goes on past an instruction that doesn't stand in its opcode's row, as
-- selection needs, whose copies join registers of any two types. The promise of a text (gi_answer) is of runs that look
-- at rows.
pub record RefinesUnchecked (x : ℕ) (names : List (List ℕ)) (old new : FunctionData) : Type 0 where
  pub runs : (world : World) → IsWorld x world → (n : ℕ) (outcome : Outcome) → RunsUnchecked x names new world n outcome
      → RunsUnchecked x names old world n outcome ⊎ RunsUnchecked x names old world n Undefined
