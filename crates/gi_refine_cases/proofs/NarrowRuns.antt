-- Machine instructions that read registers of 32 bits on RV64: any word with these low bits.
use Rattle.std.proofs.Common.{◌≡◌, ℕ, suc, None, ℤ, ◌+◌, ◌*◌, ◌/◌, ◌%◌, ◌^◌, ◌<◌, true, List, [], ◌∷◌, lit<, refl, sym, ap, ap₂, ◌∙◌, subst, arith}
use Rattle.std.specs.Prelude.{pos, nat_lt, ◌==◌}
use Rattle.std.proofs.lemmas.Nat.{div-mul-add, mod-mul-add}
use Rattle.std.proofs.lemmas.Bool.{and_parts}
use Rattle.std.proofs.lemmas.Bool.Decides.{nat_tests}
use Rattle.std.proofs.Math.Nat.{mod-one, div-mul-le_self}
use Rattle.gi_llt.specs.Bits.{sign_extended}
use Rattle.gi_mir.specs.declared.opcode.Opcode.TheVariants as op
use Rattle.gi_mir.specs.declared.operand.Kind.TheVariants.{Class}
use Rattle.gi_meaning.specs.Argument.{Argument, Value, Number}
use Rattle.gi_meaning.specs.Given.{Given, one}
use Rattle.gi_meaning.specs.Machine.{sum_word, right_word, on_words, on_low_half, on_rv64, by_amount}
use Rattle.gi_meaning.specs.Meaning.{Machine}
use Rattle.gi_meaning.specs.State.{World, State, outside_of, start, Returned, Virtual, put}
use Rattle.gi_meaning.specs.Act.{Results, AllReadAs, AnswersWords, all_fitted}
use Rattle.gi_meaning.specs.Runs.{Setting, progress_of, On, Over}
use Rattle.gi_refine.specs.Examples.{counting, names, world_of, one_block}
use Rattle.gi_refine.specs.Outcomes.{ComesTo, ReturnsAny, has_low_bits}
use Rattle.gi_refine_cases.specs.TargetExamples.{on_number, adds_low_halves, takes_upper_half}
use Rattle.gi_refine.proofs.Doing.{ActsSo, does_from, DoesAll, does_next, EntersSo, enters_over}
use Rattle.gi_refine.proofs.Evaluating.{step_so, steps_so}
use Rattle.gi_refine_cases.proofs.Choosing.{Chooses, choose, before_choice, returns_any}
use Rattle.gi_refine_cases.proofs.FreeRuns.{set_of, with_one, with_two}

-- ══ The sum of two low halves ══

abbrev halves_world : World
halves_world = world_of 2147483647 1 0 []

-- what two registers of 32 bits are read as
record TwoWords (a b : ℕ) (words : List Argument) : Type 0 where
  p : ℕ
  q : ℕ
  left : p % 2 ^ 32 ≡ a % 2 ^ 32
  right : q % 2 ^ 32 ≡ b % 2 ^ 32
  same : words ≡ Value 64 p ∷ Value 64 q ∷ []

two_words : (a b : ℕ) (words : List Argument) → AllReadAs 64 (Value 32 a ∷ Value 32 b ∷ []) words → TwoWords a b words
two_words a b words reads = record {
  p = reads.2.0;
  q = reads.3.2.0;
  left = reads.2.2;
  right = reads.3.2.2;
  same = reads.4 ∙ ap₂ (λ v vs. v ∷ vs) reads.2.3 (reads.3.4 ∙ ap₂ (λ v vs. v ∷ vs) reads.3.2.3 reads.3.3);
}

abbrev halves_state : State
halves_state = with_two halves_world 2147483647 1

abbrev halves_sum : ℕ
halves_sum = 18446744071562067968

abbrev sum_of_low : (p q : ℕ) → ℕ
sum_of_low p q = on_low_half sum_word 64 p q

sums_alike : (p q : ℕ) → p % 2 ^ 32 ≡ 2147483647 → q % 2 ^ 32 ≡ 1 → sum_of_low p q ≡ halves_sum
sums_alike p q left right = ap₂ (λ a b. sign_extended 32 64 (sum_word 32 a b)) left right

acts_on_halves : ActsSo 64 halves_world (Machine (on_rv64 (on_words (on_low_half sum_word)))) None (64 ∷ []) (Value 32 2147483647 ∷ Value 32 1 ∷ []) (outside_of halves_state) (Results (halves_sum ∷ []) (outside_of halves_state))
acts_on_halves = record {
  can = (
    Value 64 2147483647 ∷ Value 64 1 ∷ [],
    (Value 64 2147483647, Value 64 1 ∷ [], (2147483647, lit< tt, refl, refl), (Value 64 1, [], (1, lit< tt, refl, refl), refl, refl), refl),
    (halves_sum ∷ [], refl, refl),
  );
  only = λ other given.
      let two : TwoWords 2147483647 1 given.0 = two_words 2147483647 1 given.0 given.1 in
      let answered : AnswersWords 64 (64 ∷ []) (one (sum_of_low two.p two.q)) (outside_of halves_state) other =
      subst (λ ws. AnswersWords 64 (64 ∷ []) (on_rv64 (on_words (on_low_half sum_word)) 64 ws) (outside_of halves_state) other) two.same given.2 in
      answered.2 ∙ ap (λ rs. Results (all_fitted 64 (64 ∷ []) rs) (outside_of halves_state)) (answered.1 ∙ ap (λ v. v ∷ []) (sums_alike two.p two.q two.left two.right));
}

pub low_halves_come_to : (n : ℕ) → ComesTo 64 names (one_block adds_low_halves) halves_world (suc n) (Returned (halves_sum ∷ []) counting 0)
low_halves_come_to n =
    let s : Setting = set_of 64 adds_low_halves in
    let all : DoesAll s halves_world adds_low_halves (start halves_world) (Over (Returned (halves_sum ∷ []) counting 0)) =
    does_next s halves_world _ _ (start halves_world) (with_one halves_world 2147483647) _ (step_so s halves_world _ (start halves_world) (On (with_one halves_world 2147483647)) refl)
    (does_next s halves_world _ _ (with_one halves_world 2147483647) halves_state _ (step_so s halves_world _ (with_one halves_world 2147483647) (On halves_state) refl)
    (does_next s halves_world _ _ halves_state (put halves_state (Virtual 2) halves_sum) _
    (does_from s halves_world _ halves_state (Value 32 2147483647 ∷ Value 32 1 ∷ []) (Results (halves_sum ∷ []) (outside_of halves_state)) (On (put halves_state (Virtual 2) halves_sum)) refl acts_on_halves refl)
    (steps_so s halves_world _ (put halves_state (Virtual 2) halves_sum) (Over (Returned (halves_sum ∷ []) counting 0)) refl))) in
    let enters : EntersSo s halves_world (one_block adds_low_halves).blocks (suc n) None 0 (start halves_world) (Returned (halves_sum ∷ []) counting 0) =
    enters_over s halves_world (one_block adds_low_halves).blocks n None 0 (start halves_world) (start halves_world) _ _ refl refl all in
    record { can = enters.can; only = enters.only }

-- ══ An upper half ══

abbrev upper_world : World
upper_world = world_of 7 0 0 []

abbrev upper_state : State
upper_state = with_one upper_world 7

-- what one register of 32 bits and a number are read as
record OneWord (a : ℕ) (i : ℤ) (words : List Argument) : Type 0 where
  p : ℕ
  small : p < 2 ^ 64
  same : words ≡ Value 64 p ∷ Number i ∷ []

one_word : (a : ℕ) (i : ℤ) (words : List Argument) → AllReadAs 64 (Value 32 a ∷ Number i ∷ []) words → OneWord a i words
one_word a i words reads = record {
  p = reads.2.0;
  small = reads.2.1;
  same = reads.4 ∙ ap₂ (λ v vs. v ∷ vs) reads.2.3 (reads.3.4 ∙ ap₂ (λ v vs. v ∷ vs) reads.3.2 reads.3.3);
}

below_half : (v : ℕ) → has_low_bits 0 32 0 v ≡ true → v < 4294967296
below_half v h = grind (arith, nat_tests, and_parts (nat_lt v 4294967296) (v % 1 == 0) h)

half_below : (v : ℕ) → v < 4294967296 → has_low_bits 0 32 0 v ≡ true
half_below v small = grind (arith, nat_tests, small, mod-one v)

abbrev halved : ℕ → List Argument → Given
halved = by_amount (λ x. x) right_word

pub chooses_upper : Chooses (set_of 64 takes_upper_half) upper_world (on_number op.ShiftRightLogicalImmediate 2 Class 0 (pos 32)) upper_state (Virtual 2 ∷ []) (has_low_bits 0 32 0)
chooses_upper = record {
  can = λ v h.
      let small : v < 4294967296 = below_half v h in
      let within : v * 4294967296 + 7 < 18446744073709551616 = omega (arith, small) in
      let read : AllReadAs 64 (Value 32 7 ∷ Number (pos 32) ∷ []) (Value 64 (v * 4294967296 + 7) ∷ Number (pos 32) ∷ []) =
      (Value 64 (v * 4294967296 + 7), Number (pos 32) ∷ [], (v * 4294967296 + 7, within, mod-mul-add v 4294967296 7 (lit< tt), refl), (Number (pos 32), [], refl, refl, refl), refl) in
      let halves : (v * 4294967296 + 7) / 4294967296 ≡ v = div-mul-add v 4294967296 7 (lit< tt) in
      (Results (v ∷ []) (outside_of upper_state), (Value 64 (v * 4294967296 + 7) ∷ Number (pos 32) ∷ [], read, (v ∷ [], ap (λ u. u ∷ []) (sym halves), refl)), refl);
  only = λ next step.
      let found : OneWord 7 (pos 32) step.1.0 = one_word 7 (pos 32) step.1.0 step.1.1 in
      let answered : AnswersWords 64 (64 ∷ []) (one (found.p / 4294967296)) (outside_of upper_state) step.0 =
      subst (λ ws. AnswersWords 64 (64 ∷ []) (halved 64 ws) (outside_of upper_state) step.0) found.same step.1.2 in (
        found.p / 4294967296,
        half_below (found.p / 4294967296) (below found.p found.small),
        step.2 ∙ ap (progress_of upper_state (Virtual 2 ∷ [])) (answered.2 ∙ ap (λ rs. Results (all_fitted 64 (64 ∷ []) rs) (outside_of upper_state)) answered.1),
      );
}
  where
    below : (p : ℕ) → p < 18446744073709551616 → p / 4294967296 < 4294967296
    below p small = omega (arith, small, div-mul-le_self p 4294967296)

pub upper_half_returns : (n : ℕ) → ReturnsAny 64 names (one_block takes_upper_half) upper_world (suc n) (has_low_bits 0 32 0) counting 0
upper_half_returns n =
    returns_any 64 names takes_upper_half upper_world n (has_low_bits 0 32 0) counting 0 refl
    (before_choice (set_of 64 takes_upper_half) upper_world _ _ (start upper_world) upper_state _ _ _ refl
    (choose (set_of 64 takes_upper_half) upper_world _ _ upper_state (Virtual 2 ∷ []) _ _ _ chooses_upper (λ v. refl)))
