-- A trial rule that replaces the uses of a register, in a whole function.
use Rattle.std.proofs.Common.{◌≡◌, ℕ, zero, suc, List, [], ◌∷◌, ◌++◌, slice_get, refl, sym, subst}
use Rattle.std.proofs.lemmas.Nat.{pow_pos}
use Rattle.gi_mir.specs.Data.{InstrData, no_flags}
use Rattle.gi_meaning.specs.Argument.{Value, Bits}
use Rattle.gi_meaning.specs.State.{World, IsWorld, State, outside_of, start, Virtual, put}
use Rattle.gi_meaning.specs.Act.{Results}
use Rattle.gi_meaning.specs.Runs.{Setting, setting_of, On}
use Rattle.gi_refine.specs.Agreement.{AgreeAt}
use Rattle.gi_refine.specs.Examples.{names, block_of}
use Rattle.gi_refine.specs.Kept.{HasSameValue, UsesHold}
use Rattle.gi_refine.specs.Lifting.{IsKnown, AllSame}
use Rattle.gi_refine.specs.OnePlace.{only_virtual, StaysAt}
use Rattle.gi_refine.specs.Reached.{IsReached}
use Rattle.gi_refine.specs.Refinement.{RefinesUnchecked}
use Rattle.gi_refine.specs.RuleUse.{IsRuleUse}
use Rattle.gi_refine_cases.specs.TrialFunctions.{word_and_zero, adds_zero, gives_summand, sum_replaced, sum_placed}
use Rattle.gi_refine.specs.ValueRules.{add_zero}
use Rattle.gi_refine.proofs.Covering.{covered_by, known_at}
use Rattle.gi_refine.proofs.Doing.{gives_one, does_from, does_next, does_none, DoesAll}
use Rattle.gi_refine_cases.proofs.OneBlock.{reached_from_start}
use Rattle.gi_refine.proofs.OnePlaceFollows.{one_place_refines}
use Rattle.gi_refine.proofs.RulesUsed.{use_followed}
use Rattle.gi_refine.proofs.ValueRules.{add_zero_sound, add_zero_certain}
use Rattle.gi_refine.proofs.StraightUses.{state_is}
use Rattle.gi_refine.proofs.ValuesCertain.{certain_where_reached}

abbrev s : Setting
s = setting_of 32 names adds_zero

-- the state behind the copy and the constant
abbrev copied : World → State
copied w = put (start w) (Virtual 0) (w.words 10)

abbrev with_zero : World → State
with_zero w = put (copied w) (Virtual 1) 0

before_does : (w : World) → DoesAll s w word_and_zero (start w) (On (with_zero w))
before_does w =
    does_next s w _ _ (start w) (copied w) _
    (does_from s w _ (start w) (Value 32 (w.words 10) ∷ []) (Results (w.words 10 ∷ []) (outside_of (start w))) (On (copied w)) refl
    (record { can = (w.words 10 ∷ [], refl, refl); only = gives_one (w.words 10) (outside_of (start w)) }) refl)
    (does_next s w _ _ (copied w) (with_zero w) _
    (does_from s w _ (copied w) (Bits 32 0 ∷ []) (Results (0 ∷ []) (outside_of (copied w))) (On (with_zero w)) refl
    (record { can = (0 ∷ [], refl, refl); only = gives_one 0 (outside_of (copied w)) }) refl)
    (does_none s w (with_zero w)))

known_before : (w : World) → IsWorld 32 w → (state : State) → IsReached s w adds_zero.blocks 0 word_and_zero state → IsKnown s w (add_zero no_flags 32) (0 ∷ 1 ∷ []) state
known_before w is_world state reached =
    let is : state ≡ with_zero w =
    state_is s w word_and_zero (start w) (with_zero w) state (before_does w)
    (reached_from_start s w _ (record { successors = refl; phis = refl; straight = refl }) word_and_zero state reached) in
    subst (λ st. IsKnown s w (add_zero no_flags 32) (0 ∷ 1 ∷ []) st) (sym is)
    (known_at s w (add_zero no_flags 32) (0 ∷ 1 ∷ []) (w.words 10 ∷ 0 ∷ []) (with_zero w) (refl, (refl, tt)) (is_world.words 10, (pow_pos 32, tt)) ((0 ∷ [], (0 ∷ [], refl, refl), (refl, tt)), tt))

sum_used : IsRuleUse 32 names adds_zero gives_summand (only_virtual sum_replaced.hidden) (only_virtual sum_replaced.hidden) (λ w. add_zero no_flags 32) sum_placed 0 word_and_zero sum_replaced.old []
sum_used = record {
  sound = λ w is_world. add_zero_sound 32 w no_flags 32;
  placed = λ w is_world. record {
    old_pure = refl;
    new_pure = refl;
    old_shown = (record { op = refl; flags = refl; mem = refl; operands = (refl, (refl, (refl, tt))); widths = refl }, tt);
    new_shown = tt;
    old_fresh = refl;
    new_fresh = refl;
    old_widths = refl;
    new_widths = refl;
    seen = refl;
    covered = covered_by (only_virtual sum_replaced.hidden) (only_virtual sum_replaced.hidden) (add_zero no_flags 32) sum_placed refl (λ p h. h);
  };
  known = known_before;
}

-- where runs come to behind the sum, it has the value of the summand
sum_is_summand : (w : World) → IsWorld 32 w → (state : State) → IsReached s w adds_zero.blocks 0 (word_and_zero ++ sum_replaced.old) state → HasSameValue (state.values 2) (state.values 0)
sum_is_summand w is_world state reached =
    let same : AllSame state.values (0 ∷ 1 ∷ 2 ∷ []) ((2, 0) ∷ []) =
    certain_where_reached s w adds_zero.blocks 0 word_and_zero (add_zero no_flags 32) sum_placed sum_replaced.old (add_zero_certain 32 w 32) refl
    (record { op = refl; flags = refl; mem = refl; operands = (refl, (refl, (refl, tt))); widths = refl }, tt) refl refl (known_before w is_world) state reached in
    same.0

first_is : (a i : ℕ × InstrData) (rest back : List (ℕ × InstrData)) → a ∷ rest ≡ i ∷ back → a ≡ i
first_is a i rest back h = cc

second_is : (a c b i : ℕ × InstrData) (rest back : List (ℕ × InstrData)) → a ∷ b ∷ rest ≡ c ∷ i ∷ back → b ≡ i
second_is a c b i rest back h = cc

too_long : (a b c d : ℕ × InstrData) (front : List (ℕ × InstrData)) (i : ℕ × InstrData) (back : List (ℕ × InstrData)) → a ∷ b ∷ [] ≡ c ∷ d ∷ (front ++ (i ∷ back)) → ⊥
too_long a b c d [] i back h = cc
too_long a b c d (e ∷ front) i back h = cc

no_uses_before : (front : List (ℕ × InstrData)) (i : ℕ × InstrData) (back : List (ℕ × InstrData)) (state : State) → word_and_zero ≡ front ++ (i ∷ back) → UsesHold sum_replaced.rename state i.1.operands
no_uses_before [] i back state is = subst (λ (j : ℕ × InstrData). UsesHold sum_replaced.rename state j.1.operands) (first_is _ i _ back is) tt
no_uses_before (a ∷ []) i back state is = subst (λ (j : ℕ × InstrData). UsesHold sum_replaced.rename state j.1.operands) (second_is _ a _ i _ back is) tt
no_uses_before (a ∷ b ∷ front) i back state is = absurd (too_long _ _ a b front i back is)

uses_hold_after : (w : World) → IsWorld 32 w → (front : List (ℕ × InstrData)) (i : ℕ × InstrData) (back : List (ℕ × InstrData)) → sum_replaced.after ≡ front ++ (i ∷ back)
    → (state : State) → IsReached s w adds_zero.blocks 0 ((word_and_zero ++ sum_replaced.old) ++ front) state → UsesHold sum_replaced.rename state i.1.operands
uses_hold_after w is_world [] i back is state reached =
    subst (λ (j : ℕ × InstrData). UsesHold sum_replaced.rename state j.1.operands) (first_is _ i _ back is) (sum_is_summand w is_world state reached, tt)
uses_hold_after w is_world (a ∷ []) i back is state reached = subst (λ (j : ℕ × InstrData). UsesHold sum_replaced.rename state j.1.operands) (second_is _ a _ i _ back is) tt
uses_hold_after w is_world (a ∷ b ∷ front) i back is state reached = absurd (too_long _ _ a b front i back is)

no_other : (b : ℕ) → (b ≡ 0 → ⊥) → StaysAt 32 names adds_zero gives_summand sum_replaced.hidden sum_replaced.rename b (slice_get adds_zero.blocks b) (slice_get gives_summand.blocks b)
no_other zero apart = absurd (apart refl)
no_other (suc b) apart = tt

-- the uses of the sum are replaced, and the sum is gone
pub sum_refines : RefinesUnchecked 32 names adds_zero gives_summand
sum_refines = one_place_refines 32 names adds_zero gives_summand sum_replaced (record {
  block = block_of [] (word_and_zero ++ (sum_replaced.old ++ sum_replaced.after));
  new_block = block_of [] (word_and_zero ++ sum_replaced.new_after);
  here = refl;
  there = refl;
  successors = refl;
  splits = refl;
  new_splits = refl;
  phis_kept = tt;
  before_kept = (record { op = refl; flags = refl; mem = refl; operands = refl }, (record { op = refl; flags = refl; mem = refl; operands = refl }, tt));
  after_kept = (record { op = refl; flags = refl; mem = refl; operands = refl }, (record { op = refl; flags = refl; mem = refl; operands = refl }, tt));
  phis_seen = tt;
  before_seen = ((refl, (refl, tt)), ((refl, tt), tt));
  after_seen = ((refl, refl, refl, tt), ((refl, tt), tt));
  phis_hold = record { by = λ w is_world entries from state arrives. tt };
  before_holds = record { by = λ w is_world front i back is state reached. no_uses_before front i back state is };
  after_holds = record { by = uses_hold_after };
  others = no_other;
  follows = λ w is_world. use_followed 32 names adds_zero gives_summand (only_virtual sum_replaced.hidden) (only_virtual sum_replaced.hidden) (λ v. add_zero no_flags 32) sum_placed 0 word_and_zero sum_replaced.old []
      (AgreeAt (setting_of 32 names adds_zero) (setting_of 32 names gives_summand) (λ b. only_virtual sum_replaced.hidden)) sum_used w is_world;
})
