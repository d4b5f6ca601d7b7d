-- A use of a rule whose premises are tests follows where runs reach it.
use Rattle.std.proofs.Common.{◌≡◌, ℕ, suc, Bool, true, false, List, [], ◌∷◌, ◌++◌, Option, Some, slice_get, sym, subst}
use Rattle.std.proofs.lemmas.Bool.{and_parts}
use Rattle.gi_mir.specs.Data.{InstrData, BlockData, FunctionData}
use Rattle.gi_meaning.specs.State.{World, State, outside_of, Place}
use Rattle.gi_meaning.specs.Runs.{Setting, setting_of, after_phis}
use Rattle.gi_refine.specs.Fitting.{IsFit}
use Rattle.gi_refine.specs.Lifting.{Placing, Reads, takes, first_slots, HasValue, AreThere}
use Rattle.gi_refine.specs.Reached.{IsReached}
use Rattle.gi_refine.specs.RuleUse.{IsRuleUse}
use Rattle.gi_refine.specs.TestedUse.{ConstantInput, constant_facts, AreConstants, takes_all, IsTestedUse}
use Rattle.gi_refine.specs.Values.{Environment, Slot, AllHold, Rule}
use Rattle.gi_refine.proofs.ConstantsHeld.{constant_where_reached, constant_fact}
use Rattle.gi_refine.proofs.Fitted.{fit_where_reached, fit_sized}

taken_there : (slots : List Slot) (values : ℕ → Option ℕ) (place : ℕ) (rs : List ℕ) → takes_all slots place rs ≡ true → AreThere slots values place rs
taken_there slots values place [] h = tt
taken_there slots values place (r ∷ rs) h = (
  (λ not_taken. both_ways (takes place slots) (values r) (and_parts (takes place slots) (takes_all slots (suc place) rs) h).0 not_taken),
  taken_there slots values (suc place) rs (and_parts (takes place slots) (takes_all slots (suc place) rs) h).1,
)
  where
    both_ways : (b : Bool) (v : Option ℕ) → b ≡ true → b ≡ false → HasValue v
    both_ways true v h g = cc
    both_ways false v h g = cc

constants_held : (s : Setting) (w : World) (blocks : List BlockData) (b : ℕ) (block : BlockData) (before back : List (ℕ × InstrData)) → slice_get blocks b ≡ Some block → after_phis block.instrs ≡ before ++ back
    → (state : State) → IsReached s w blocks b before state → (registers : List ℕ) (env : Environment) → Reads s.width state.values registers env → (cs : List ConstantInput) → AreConstants registers blocks cs
    → AllHold s.x w (outside_of state) env (constant_facts s.width cs)
constants_held s w blocks b block before back here splits state reached registers env reads [] hold = tt
constants_held s w blocks b block before back here splits state reached registers env reads (c ∷ cs) hold = (
  constant_fact s w (outside_of state) c.register c.value c.place state (constant_where_reached s w blocks c.register c.value hold.1 b block before back here splits state reached) registers hold.0 env reads,
  constants_held s w blocks b block before back here splits state reached registers env reads cs hold.2,
)

pub tested_use : (x : ℕ) (names : List (List ℕ)) (f g : FunctionData) (now next : Place → Bool) (rule : Rule) (placing : Placing) (block : ℕ) (before old new : List (ℕ × InstrData))
    → IsTestedUse x names f g now next rule placing block before old new → IsRuleUse x names f g now next (λ w. rule) placing block before old new
tested_use x names f g now next rule placing block before old new tested = record {
  sound = tested.sound;
  placed = tested.placed;
  known = λ w is_world state reached.
      let s : Setting = setting_of x names f in
      let fit : IsFit s state = fit_where_reached x names f w is_world tested.fit block tested.block_data before tested.back tested.here tested.splits state reached in
      record {
        there = taken_there (first_slots rule.old) state.values 0 placing.inputs tested.taken;
        sized = fit_sized s state fit placing.inputs;
        facts = λ env reads. subst (AllHold x w (outside_of state) env) (sym tested.facts)
            (constants_held s w f.blocks block tested.block_data before tested.back tested.here tested.splits state reached placing.inputs env reads tested.constants tested.hold);
      };
}
