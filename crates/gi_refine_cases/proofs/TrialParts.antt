-- A sum of parts of words in a whole function, widened.
use Rattle.std.proofs.Common.{◌≡◌, ℕ, ◌+◌, ◌^◌, ◌==◌, ◌||◌, false, List, [], ◌∷◌, None, refl, sym, ◌∙◌, subst}
use Rattle.std.proofs.lemmas.Bool.{or_parts}
use Rattle.std.proofs.lemmas.Nat.{pow_pos, mod_below}
use Rattle.gi_llt.specs.Bits.{wrapped}
use Rattle.gi_mir.specs.Data.{InstrData, no_flags}
use Rattle.gi_mir.specs.Registers.{kind_in_instrs}
use Rattle.gi_meaning.specs.Argument.{Value}
use Rattle.gi_meaning.specs.Meaning.{Copying}
use Rattle.gi_meaning.specs.State.{World, State, Outside, outside_of, start, Virtual, put}
use Rattle.gi_meaning.specs.Act.{Results, Answers}
use Rattle.gi_meaning.specs.Runs.{Setting, setting_of, On}
use Rattle.gi_refine.specs.Examples.{names, bits}
use Rattle.gi_refine.specs.Lifting.{IsKnown}
use Rattle.gi_refine.specs.OnePlace.{only_virtual}
use Rattle.gi_refine.specs.Reached.{IsReached}
use Rattle.gi_refine.specs.Refinement.{RefinesUnchecked}
use Rattle.gi_refine.specs.RuleUse.{IsRuleUse}
use Rattle.gi_refine_cases.specs.TrialFunctions.{two_parts, part_returned, sum_of_parts, wide_sum, on_parts, wide_hidden, wide_placed}
use Rattle.gi_refine_cases.specs.TrialRules.{widen_add}
use Rattle.gi_refine.specs.Values.{Rule, AllHold}
use Rattle.gi_refine.proofs.Basics.{copied_whole}
use Rattle.gi_refine.proofs.Covering.{covered_by, known_at}
use Rattle.gi_refine.proofs.Doing.{ActsSo, gives_one, does_from, does_next, does_none, DoesAll}
use Rattle.gi_refine_cases.proofs.OneBlock.{reached_from_start}
use Rattle.gi_refine.proofs.StraightUses.{state_is, another_kind, straight_refines}
use Rattle.gi_refine_cases.proofs.TrialRules.{widen_add_sound}

-- ══ The parts ══

pub copies_so : (x : ℕ) (w : World) (v : ℕ) (outside : Outside) → ActsSo x w Copying None (x ∷ []) (Value x v ∷ []) outside (Results (v ∷ []) outside)
copies_so x w v outside = record {
  can = subst (λ g. Answers g outside (Results (v ∷ []) outside)) (sym (copied_whole x v)) (v ∷ [], refl, refl);
  only = λ other act. gives_one v outside other (subst (λ g. Answers g outside other) (copied_whole x v) act);
}

abbrev first_copied : World → State
first_copied w = put (start w) (Virtual 0) (w.words 10)

abbrev both_copied : World → State
both_copied w = put (first_copied w) (Virtual 1) (w.words 11)

abbrev first_part : (n : ℕ) → World → State
first_part n w = put (both_copied w) (Virtual 2) (wrapped n (w.words 10))

abbrev both_parts : (n : ℕ) → World → State
both_parts n w = put (first_part n w) (Virtual 3) (wrapped n (w.words 11))

parts_made : (x n : ℕ) (is : List (ℕ × InstrData)) (w : World) → DoesAll (setting_of x names (on_parts x n is)) w (two_parts x n) (start w) (On (both_parts n w))
parts_made x n is w =
    let s : Setting = setting_of x names (on_parts x n is) in
    does_next s w _ _ (start w) (first_copied w) _
    (does_from s w _ (start w) (Value x (w.words 10) ∷ []) (Results (w.words 10 ∷ []) (outside_of (start w))) (On (first_copied w)) refl (copies_so x w (w.words 10) (outside_of (start w))) refl)
    (does_next s w _ _ (first_copied w) (both_copied w) _
    (does_from s w _ (first_copied w) (Value x (w.words 11) ∷ []) (Results (w.words 11 ∷ []) (outside_of (start w))) (On (both_copied w)) refl (copies_so x w (w.words 11) (outside_of (start w))) refl)
    (does_next s w _ _ (both_copied w) (first_part n w) _
    (does_from s w _ (both_copied w) (Value x (w.words 10) ∷ []) (Results (wrapped n (w.words 10) ∷ []) (outside_of (start w))) (On (first_part n w)) refl
    (record { can = (wrapped n (w.words 10) ∷ [], refl, refl); only = gives_one (wrapped n (w.words 10)) (outside_of (start w)) }) refl)
    (does_next s w _ _ (first_part n w) (both_parts n w) _
    (does_from s w _ (first_part n w) (Value x (w.words 11) ∷ []) (Results (wrapped n (w.words 11) ∷ []) (outside_of (start w))) (On (both_parts n w)) refl
    (record { can = (wrapped n (w.words 11) ∷ [], refl, refl); only = gives_one (wrapped n (w.words 11)) (outside_of (start w)) }) refl)
    (does_none s w (both_parts n w)))))

-- the parts fit n bits wherever runs come behind them
parts_known : (x n : ℕ) (rule : Rule) (w : World) → rule.facts ≡ [] → (state : State)
    → IsReached (setting_of x names (on_parts x n (sum_of_parts n))) w (on_parts x n (sum_of_parts n)).blocks 0 (two_parts x n) state
    → IsKnown (setting_of x names (on_parts x n (sum_of_parts n))) w rule (2 ∷ 3 ∷ []) state
parts_known x n rule w none state reached =
    let s : Setting = setting_of x names (on_parts x n (sum_of_parts n)) in
    let is : state ≡ both_parts n w =
    state_is s w (two_parts x n) (start w) (both_parts n w) state (parts_made x n (sum_of_parts n) w)
    (reached_from_start s w _ (record { successors = refl; phis = refl; straight = refl }) (two_parts x n) state reached) in
    subst (λ st. IsKnown s w rule (2 ∷ 3 ∷ []) st) (sym is)
    (known_at s w rule (2 ∷ 3 ∷ []) (wrapped n (w.words 10) ∷ wrapped n (w.words 11) ∷ []) (both_parts n w) (refl, (refl, tt))
    (mod_below (w.words 10) (2 ^ n) (pow_pos n), (mod_below (w.words 11) (2 ^ n) (pow_pos n), tt))
    (subst (λ facts. AllHold x w (outside_of (both_parts n w)) ((n, wrapped n (w.words 10)) ∷ (n, wrapped n (w.words 11)) ∷ []) facts) (sym none) tt))

-- ══ Widening ══

wide_used : (n y : ℕ) → IsRuleUse (y + n) names (on_parts (y + n) n (sum_of_parts n)) (on_parts (y + n) n (wide_sum (y + n) n)) (only_virtual wide_hidden) (only_virtual wide_hidden) (λ w. widen_add no_flags n y) wide_placed 0 (two_parts (y + n) n) (sum_of_parts n) (wide_sum (y + n) n)
wide_used n y = record {
  sound = λ w is_world. widen_add_sound (y + n) w no_flags n y;
  placed = λ w is_world. record {
    old_pure = refl;
    new_pure = refl;
    old_shown = (record { op = refl; flags = refl; mem = refl; operands = (refl, (refl, (refl, tt))); widths = refl }, tt);
    new_shown = (
      record { op = refl; flags = refl; mem = refl; operands = (refl, (refl, tt)); widths = refl },
      (
        record { op = refl; flags = refl; mem = refl; operands = (refl, (refl, tt)); widths = refl },
        (
          record { op = refl; flags = refl; mem = refl; operands = (refl, (refl, (refl, tt))); widths = refl },
          (record { op = refl; flags = refl; mem = refl; operands = (refl, (refl, tt)); widths = refl }, tt),
        ),
      ),
    );
    old_fresh = refl;
    new_fresh = refl;
    old_widths = refl;
    new_widths = refl;
    seen = refl;
    covered = covered_by (only_virtual wide_hidden) (only_virtual wide_hidden) (widen_add no_flags n y) wide_placed refl (λ p h. h);
  };
  known = λ w is_world. parts_known (y + n) n (widen_add no_flags n y) w refl;
}

wide_kinds : (x n q : ℕ) → wide_hidden q ≡ false → kind_in_instrs q (wide_sum x n) ≡ kind_in_instrs q (sum_of_parts n)
wide_kinds x n q shown =
    let first_two : ((6 == q) || (7 == q)) ≡ false = (or_parts ((6 == q) || (7 == q)) (8 == q) shown).0 in
    another_kind (6 == q) (bits x) _ (or_parts (6 == q) (7 == q) first_two).0
    ∙ another_kind (7 == q) (bits x) _ (or_parts (6 == q) (7 == q) first_two).1
    ∙ another_kind (8 == q) (bits x) _ (or_parts ((6 == q) || (7 == q)) (8 == q) shown).1

-- a sum of n bits by one of words of y + n bits
pub widening_refines : (n y : ℕ) → RefinesUnchecked (y + n) names (on_parts (y + n) n (sum_of_parts n)) (on_parts (y + n) n (wide_sum (y + n) n))
widening_refines n y =
    straight_refines (y + n) names (two_parts (y + n) n) (sum_of_parts n) (wide_sum (y + n) n) (part_returned (y + n)) wide_hidden (λ w. widen_add no_flags n y) wide_placed
    (record { used = wide_used n y; no_phi = refl; no_new_phi = refl; before_clear = refl; after_clear = refl; kinds = λ q shown. wide_kinds (y + n) n q shown })
