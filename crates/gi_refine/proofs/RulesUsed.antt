-- A use of a rule follows from the states that runs reach there.
use Rattle.gi_refine.proofs.ValuesCertain.{certain_where_reached}
use Rattle.std.proofs.Common.{ℕ, Bool, List, ◌++◌}
use Rattle.gi_mir.specs.Data.{InstrData, FunctionData}
use Rattle.gi_meaning.specs.State.{World, IsWorld, State, Place}
use Rattle.gi_meaning.specs.Runs.{setting_of}
use Rattle.gi_refine.specs.Agreement.{Agree}
use Rattle.gi_refine.specs.Lifting.{Placing, AllSame, all_grown}
use Rattle.gi_refine.specs.Reached.{WhereReached, IsReached}
use Rattle.gi_refine.specs.RuleUse.{width_in, IsRuleUse, IsCertainUse}
use Rattle.gi_refine.specs.Simulation.{IsFollowed}
use Rattle.gi_refine.specs.Values.{Rule}
use Rattle.gi_refine.proofs.ValuesThere.{known_values_followed}

pub use_followed : (x : ℕ) (names : List (List ℕ)) (f g : FunctionData) (now next : Place → Bool) (rule : World → Rule) (placing : Placing) (block : ℕ) (before old new : List (ℕ × InstrData)) (exit : ℕ → State → State → Type 0)
    → IsRuleUse x names f g now next rule placing block before old new → (w : World) → IsWorld x w
    → IsFollowed (setting_of x names f) (setting_of x names g) w
    (WhereReached (setting_of x names f) w f.blocks block before (Agree (setting_of x names f) (setting_of x names g) now))
    (Agree (setting_of x names f) (setting_of x names g) next) exit old new
use_followed x names f g now next rule placing block before old new exit used w is_world = record {
  by = λ state state' related p' run.
      (known_values_followed x names (width_in x f) (width_in x g) w (rule w) placing now next exit old new (used.sound w is_world) (used.placed w is_world)).by
      state state' (record { agree = related.relates; known = used.known w is_world state related.reached }) p' run;
}

pub uses_replaced : (x : ℕ) (names : List (List ℕ)) (f : FunctionData) (rule : World → Rule) (placing : Placing) (block : ℕ) (before old : List (ℕ × InstrData))
    → IsCertainUse x names f rule placing block before old → (w : World) → IsWorld x w → (state : State) → IsReached (setting_of x names f) w f.blocks block (before ++ old) state
    → AllSame state.values (all_grown placing.inputs placing.old) (rule w).kept
uses_replaced x names f rule placing block before old used w is_world state reached =
    certain_where_reached (setting_of x names f) w f.blocks block before (rule w) placing old (used.certain w is_world) (used.pure w is_world) (used.shown w is_world) used.fresh (used.widths w is_world)
    (used.known w is_world) state reached
