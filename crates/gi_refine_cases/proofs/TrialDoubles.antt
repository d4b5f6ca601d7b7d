-- A trial rule that narrows a sum, in a whole function.
use Rattle.std.proofs.Common.{◌≡◌, ℕ, zero, suc, ◌+◌, ◌*◌, ◌^◌, ◌<◌, ◌==◌, Bool, true, false, cond, List, [], ◌∷◌, Option, Some, None, slice_get, refl, sym, ap, ◌∙◌, subst, arith}
use Rattle.std.proofs.lemmas.Bool.{or_parts}
use Rattle.std.proofs.lemmas.Option.{same_Some}
use Rattle.std.proofs.Math.Nat.{mul-zero, add-zero, mul_comm}
use Rattle.std.proofs.lemmas.Nat.{pow-add, mul-add-lt}
use Rattle.gi_mir.specs.Registers.{first_there, kind_in_instrs}
use Rattle.gi_mir.specs.Data.{no_flags}
use Rattle.gi_mir.specs.declared.operand.Kind.{Kind}
use Rattle.gi_meaning.specs.Argument.{Value}
use Rattle.gi_meaning.specs.State.{World, IsWorld, State, outside_of, start, Virtual, put}
use Rattle.gi_meaning.specs.Act.{Results}
use Rattle.gi_meaning.specs.Runs.{Setting, setting_of, On}
use Rattle.gi_refine.specs.Examples.{names, bits}
use Rattle.gi_refine.specs.Lifting.{IsKnown}
use Rattle.gi_refine.specs.OnePlace.{only_virtual}
use Rattle.gi_refine.specs.Reached.{IsReached}
use Rattle.gi_refine.specs.Refinement.{RefinesUnchecked}
use Rattle.gi_refine.specs.RuleUse.{IsRuleUse}
use Rattle.gi_refine_cases.specs.TrialFunctions.{two_doubles, double_returned, sum_of_doubles, sum_by_words, on_doubles, is_one_of, word_registers, double_placed}
use Rattle.gi_refine_cases.specs.TrialRules.{narrow_add}
use Rattle.gi_refine.proofs.Covering.{covered_by, known_at}
use Rattle.gi_refine.proofs.Doing.{gives_one, does_from, does_next, does_none, DoesAll}
use Rattle.gi_refine_cases.proofs.OneBlock.{reached_from_start}
use Rattle.gi_refine.proofs.StraightUses.{state_is, straight_refines}
use Rattle.gi_refine_cases.proofs.TrialParts.{copies_so}
use Rattle.gi_refine_cases.proofs.TrialRules.{narrow_add_sound}

-- two words as one value, as a merge gives it
abbrev double : (x lo hi : ℕ) → ℕ
double x lo hi = lo + 2 ^ x * (hi + 2 ^ x * 0)

double_fits : (x lo hi : ℕ) → lo < 2 ^ x → hi < 2 ^ x → double x lo hi < 2 ^ (x + x)
double_fits x lo hi low high =
    let p : ℕ = 2 ^ x in
    let is : double x lo hi ≡ hi * p + lo = ap (λ u. lo + p * (hi + u)) (mul-zero p) ∙ ap (λ u. lo + p * u) (add-zero hi) ∙ omega (arith, mul_comm p hi) in
    subst (λ v. v < 2 ^ (x + x)) (sym is) (subst (λ k. hi * p + lo < k) (sym (pow-add 2 x x)) (mul-add-lt hi p lo p high low))

abbrev copied_0 : World → State
copied_0 w = put (start w) (Virtual 0) (w.words 10)

abbrev copied_1 : World → State
copied_1 w = put (copied_0 w) (Virtual 1) (w.words 11)

abbrev copied_2 : World → State
copied_2 w = put (copied_1 w) (Virtual 2) (w.words 12)

abbrev copied_3 : World → State
copied_3 w = put (copied_2 w) (Virtual 3) (w.words 13)

abbrev merged_4 : (x : ℕ) → World → State
merged_4 x w = put (copied_3 w) (Virtual 4) (double x (w.words 10) (w.words 11))

abbrev merged_5 : (x : ℕ) → World → State
merged_5 x w = put (merged_4 x w) (Virtual 5) (double x (w.words 12) (w.words 13))

doubles_made : (x : ℕ) (w : World) → DoesAll (setting_of x names (on_doubles x (sum_of_doubles x))) w (two_doubles x) (start w) (On (merged_5 x w))
doubles_made x w =
    let s : Setting = setting_of x names (on_doubles x (sum_of_doubles x)) in
    does_next s w _ _ (start w) (copied_0 w) _
    (does_from s w _ (start w) (Value x (w.words 10) ∷ []) (Results (w.words 10 ∷ []) (outside_of (start w))) (On (copied_0 w)) refl (copies_so x w (w.words 10) (outside_of (start w))) refl)
    (does_next s w _ _ (copied_0 w) (copied_1 w) _
    (does_from s w _ (copied_0 w) (Value x (w.words 11) ∷ []) (Results (w.words 11 ∷ []) (outside_of (start w))) (On (copied_1 w)) refl (copies_so x w (w.words 11) (outside_of (start w))) refl)
    (does_next s w _ _ (copied_1 w) (copied_2 w) _
    (does_from s w _ (copied_1 w) (Value x (w.words 12) ∷ []) (Results (w.words 12 ∷ []) (outside_of (start w))) (On (copied_2 w)) refl (copies_so x w (w.words 12) (outside_of (start w))) refl)
    (does_next s w _ _ (copied_2 w) (copied_3 w) _
    (does_from s w _ (copied_2 w) (Value x (w.words 13) ∷ []) (Results (w.words 13 ∷ []) (outside_of (start w))) (On (copied_3 w)) refl (copies_so x w (w.words 13) (outside_of (start w))) refl)
    (does_next s w _ _ (copied_3 w) (merged_4 x w) _
    (does_from s w _ (copied_3 w) (Value x (w.words 10) ∷ Value x (w.words 11) ∷ []) (Results (double x (w.words 10) (w.words 11) ∷ []) (outside_of (start w))) (On (merged_4 x w)) refl
    (record { can = (double x (w.words 10) (w.words 11) ∷ [], refl, refl); only = gives_one (double x (w.words 10) (w.words 11)) (outside_of (start w)) }) refl)
    (does_next s w _ _ (merged_4 x w) (merged_5 x w) _
    (does_from s w _ (merged_4 x w) (Value x (w.words 12) ∷ Value x (w.words 13) ∷ []) (Results (double x (w.words 12) (w.words 13) ∷ []) (outside_of (start w))) (On (merged_5 x w)) refl
    (record { can = (double x (w.words 12) (w.words 13) ∷ [], refl, refl); only = gives_one (double x (w.words 12) (w.words 13)) (outside_of (start w)) }) refl)
    (does_none s w (merged_5 x w)))))))

doubles_known : (x : ℕ) (w : World) → IsWorld x w → (state : State)
    → IsReached (setting_of x names (on_doubles x (sum_of_doubles x))) w (on_doubles x (sum_of_doubles x)).blocks 0 (two_doubles x) state
    → IsKnown (setting_of x names (on_doubles x (sum_of_doubles x))) w (narrow_add no_flags x) (4 ∷ 5 ∷ []) state
doubles_known x w is_world state reached =
    let s : Setting = setting_of x names (on_doubles x (sum_of_doubles x)) in
    let is : state ≡ merged_5 x w =
    state_is s w (two_doubles x) (start w) (merged_5 x w) state (doubles_made x w)
    (reached_from_start s w _ (record { successors = refl; phis = refl; straight = refl }) (two_doubles x) state reached) in
    subst (λ st. IsKnown s w (narrow_add no_flags x) (4 ∷ 5 ∷ []) st) (sym is)
    (known_at s w (narrow_add no_flags x) (4 ∷ 5 ∷ []) (double x (w.words 10) (w.words 11) ∷ double x (w.words 12) (w.words 13) ∷ []) (merged_5 x w) (refl, (refl, tt))
    (double_fits x (w.words 10) (w.words 11) (is_world.words 10) (is_world.words 11), (double_fits x (w.words 12) (w.words 13) (is_world.words 12) (is_world.words 13), tt)) tt)

double_used : (x : ℕ) → IsRuleUse x names (on_doubles x (sum_of_doubles x)) (on_doubles x (sum_by_words x)) (only_virtual (is_one_of word_registers)) (only_virtual (is_one_of word_registers)) (λ w. narrow_add no_flags x) double_placed 0 (two_doubles x) (sum_of_doubles x) (sum_by_words x)
double_used x = record {
  sound = λ w is_world. narrow_add_sound x w no_flags x;
  placed = λ w is_world. record {
    old_pure = refl;
    new_pure = refl;
    old_shown = (record { op = refl; flags = refl; mem = refl; operands = (refl, (refl, (refl, tt))); widths = refl }, tt);
    new_shown = (
      record { op = refl; flags = refl; mem = refl; operands = (refl, (refl, (refl, tt))); widths = refl },
      (
        record { op = refl; flags = refl; mem = refl; operands = (refl, (refl, (refl, tt))); widths = refl },
        (
          record { op = refl; flags = refl; mem = refl; operands = (refl, (refl, (refl, (refl, tt)))); widths = refl },
          (
            record { op = refl; flags = refl; mem = refl; operands = (refl, (refl, (refl, (refl, (refl, tt))))); widths = refl },
            (record { op = refl; flags = refl; mem = refl; operands = (refl, (refl, (refl, tt))); widths = refl }, tt),
          ),
        ),
      ),
    );
    old_fresh = refl;
    new_fresh = refl;
    old_widths = refl;
    new_widths = refl;
    seen = refl;
    covered = covered_by (only_virtual (is_one_of word_registers)) (only_virtual (is_one_of word_registers)) (narrow_add no_flags x) double_placed refl (λ p h. h);
  };
  known = doubles_known x;
}

pub not_one_of : (rs : List ℕ) (q k r : ℕ) → is_one_of rs q ≡ false → slice_get rs k ≡ Some r → (r == q) ≡ false
not_one_of [] q k r none here = cc
not_one_of (p ∷ rs) q zero r none here = subst (λ t. (t == q) ≡ false) (same_Some p r here) (or_parts (p == q) (is_one_of rs q) none).0
not_one_of (p ∷ rs) q (suc k) r none here = not_one_of rs q k r (or_parts (p == q) (is_one_of rs q) none).1 here

-- a definition of two other registers
two_other_kinds : (b c : Bool) (k l : Kind) (rest : Option Kind) → b ≡ false → c ≡ false → first_there (first_there (cond b (Some k) None) (first_there (cond c (Some l) None) None)) rest ≡ rest
two_other_kinds true c k l rest h g = cc
two_other_kinds false true k l rest h g = cc
two_other_kinds false false k l rest h g = refl

double_kinds : (x q : ℕ) → is_one_of word_registers q ≡ false → kind_in_instrs q (sum_by_words x) ≡ kind_in_instrs q (sum_of_doubles x)
double_kinds x q shown =
    two_other_kinds (9 == q) (10 == q) (bits x) (bits x) _ (not_one_of word_registers q 0 9 shown refl) (not_one_of word_registers q 1 10 shown refl)
    ∙ two_other_kinds (11 == q) (12 == q) (bits x) (bits x) _ (not_one_of word_registers q 2 11 shown refl) (not_one_of word_registers q 3 12 shown refl)
    ∙ two_other_kinds (13 == q) (14 == q) (bits x) (bits 1) _ (not_one_of word_registers q 4 13 shown refl) (not_one_of word_registers q 5 14 shown refl)
    ∙ two_other_kinds (15 == q) (16 == q) (bits x) (bits 1) _ (not_one_of word_registers q 6 15 shown refl) (not_one_of word_registers q 7 16 shown refl)

-- a sum of twice a word's bits by sums of words
pub narrowing_refines : (x : ℕ) → RefinesUnchecked x names (on_doubles x (sum_of_doubles x)) (on_doubles x (sum_by_words x))
narrowing_refines x =
    straight_refines x names (two_doubles x) (sum_of_doubles x) (sum_by_words x) (double_returned x) (is_one_of word_registers) (λ w. narrow_add no_flags x) double_placed
    (record { used = double_used x; no_phi = refl; no_new_phi = refl; before_clear = refl; after_clear = refl; kinds = double_kinds x })
