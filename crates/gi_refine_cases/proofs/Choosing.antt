-- Runs in which one free choice is made, and which go on in one way from each.
use Rattle.std.proofs.Common.{◌≡◌, ℕ, suc, ◌%◌, ◌^◌, ◌<◌, Bool, true, List, [], ◌∷◌, map, Option, Some, None, refl, sym, ap, ◌∙◌, subst, arith}
use Rattle.std.specs.Prelude.{◌==◌, nat_lt}
use Rattle.std.proofs.lemmas.Bool.{and_parts}
use Rattle.std.proofs.lemmas.Bool.Decides.{nat_tests}
use Rattle.gi_mir.specs.Data.{InstrData}
use Rattle.gi_meaning.specs.Argument.{Argument}
use Rattle.gi_meaning.specs.Given.{LowBits}
use Rattle.gi_meaning.specs.Memory.{Memory}
use Rattle.gi_meaning.specs.Meaning.{meaning_of}
use Rattle.gi_meaning.specs.State.{World, State, outside_of, start, Outcome, Returned, Place}
use Rattle.gi_meaning.specs.Act.{Answer, Results, Answers, Act}
use Rattle.gi_meaning.specs.Runs.{Setting, setting_of, arguments_of, written_places, width_of_place, progress_of, Progress, On, Left, Over, StepsFrom, Steps, After, Executes, phis_of, after_phis, joined, Follows, RunsAfterPhis, Enters}
use Rattle.gi_refine.specs.Examples.{block_of, function_of}
use Rattle.gi_refine.specs.Evaluation.{step_of, then_on, steps_of}
use Rattle.gi_refine.specs.Outcomes.{ReturnsAny, has_low_bits}
use Rattle.gi_refine.proofs.Basics.{some_is}
use Rattle.gi_refine.proofs.Doing.{Does}
use Rattle.gi_refine.proofs.Evaluating.{step_so, steps_so}

-- an instruction goes on with any value that the test takes in a place
pub record Chooses (s : Setting) (w : World) (i : ℕ × InstrData) (state : State) (places : List Place) (test : ℕ → Bool) : Type 0 where
  pub can : (v : ℕ) → test v ≡ true → Steps s w i.1 state (progress_of state places (Results (v ∷ []) (outside_of state)))
  pub only : (next : Progress) → Steps s w i.1 state next → (v : ℕ) × (test v ≡ true) × (next ≡ progress_of state places (Results (v ∷ []) (outside_of state)))

pub low_bits_of : (known width value v : ℕ) → has_low_bits known width value v ≡ true → (v < 2 ^ width) × (v % 2 ^ known ≡ value % 2 ^ known)
low_bits_of known width value v h =
    let both = and_parts (nat_lt v (2 ^ width)) (v % 2 ^ known == value % 2 ^ known) h in
    let small : nat_lt v (2 ^ width) ≡ true = both.0 in
    let same : (v % 2 ^ known == value % 2 ^ known) ≡ true = both.1 in (grind (arith, nat_tests, small), grind (arith, nat_tests, same))

pub has_low : (known width value v : ℕ) → v < 2 ^ width → v % 2 ^ known ≡ value % 2 ^ known → has_low_bits known width value v ≡ true
has_low known width value v small same = grind (arith, nat_tests, small, same)

-- where the act gives low bits, any word with these low bits
pub chooses_low : (s : Setting) (w : World) (i : ℕ × InstrData) (state : State) (args : List Argument) (known width value : ℕ)
    → arguments_of s w state i.1.operands ≡ Some args
    → ((a : Answer) → Answers (LowBits known width value) (outside_of state) a
    → Act s.x w (meaning_of i.1.flags i.1.op) i.1.mem (map (width_of_place s) (written_places (meaning_of i.1.flags i.1.op) i.1.operands)) args (outside_of state) a)
    → ((a : Answer) → Act s.x w (meaning_of i.1.flags i.1.op) i.1.mem (map (width_of_place s) (written_places (meaning_of i.1.flags i.1.op) i.1.operands)) args (outside_of state) a
    → Answers (LowBits known width value) (outside_of state) a)
    → Chooses s w i state (written_places (meaning_of i.1.flags i.1.op) i.1.operands) (has_low_bits known width value)
chooses_low s w i state args known width value read into back = record {
  can = λ v h.
      let low = low_bits_of known width value v h in
      subst (λ found. StepsFrom s w i.1 state found (progress_of state places (Results (v ∷ []) (outside_of state)))) (sym read)
      (Results (v ∷ []) (outside_of state), into (Results (v ∷ []) (outside_of state)) (v ∷ [], (v, low.0, low.1, refl), refl), refl);
  only = λ next step.
      let stepped : StepsFrom s w i.1 state (Some args) next = subst (λ found. StepsFrom s w i.1 state found next) read step in
      let given : Answers (LowBits known width value) (outside_of state) stepped.0 = back stepped.0 stepped.1 in (
        given.1.0,
        has_low known width value given.1.0 given.1.1 given.1.2,
        stepped.2 ∙ ap (progress_of state places) (given.2 ∙ ap (λ rs. Results rs (outside_of state)) given.1.3),
      );
}
  where
    places : List Place
    places = written_places (meaning_of i.1.flags i.1.op) i.1.operands

-- a list of instructions returns any word that the test takes, and does nothing else
pub record ReturnsAll (s : Setting) (w : World) (is : List (ℕ × InstrData)) (state : State) (test : ℕ → Bool) (memory : Memory) (taken : ℕ) : Type 0 where
  pub can : (v : ℕ) → test v ≡ true → Executes s w is state (Over (Returned (v ∷ []) memory taken))
  pub only : (p : Progress) → Executes s w is state p → (v : ℕ) × (test v ≡ true) × (p ≡ Over (Returned (v ∷ []) memory taken))

pub record OneAfter (s : Setting) (w : World) (is : List (ℕ × InstrData)) (q p : Progress) : Type 0 where
  pub can : After q (Executes s w is) p
  pub only : (other : Progress) → After q (Executes s w is) other → other ≡ p

pub one_after : (s : Setting) (w : World) (is : List (ℕ × InstrData)) (q p : Progress) → then_on (Some q) (steps_of s w is) ≡ Some p → OneAfter s w is q p
one_after s w is (On state) p h = record { can = (steps_so s w is state p h).can; only = (steps_so s w is state p h).only }
one_after s w is (Left b state) p h = record { can = some_is (Left b state) p h; only = λ other e. e ∙ sym (some_is (Left b state) p h) }
one_after s w is (Over o) p h = record { can = some_is (Over o) p h; only = λ other e. e ∙ sym (some_is (Over o) p h) }

-- from the choice on
pub choose : (s : Setting) (w : World) (i : ℕ × InstrData) (is : List (ℕ × InstrData)) (state : State) (places : List Place) (test : ℕ → Bool) (memory : Memory) (taken : ℕ)
    → Chooses s w i state places test
    → ((v : ℕ) → then_on (Some (progress_of state places (Results (v ∷ []) (outside_of state)))) (steps_of s w is) ≡ Some (Over (Returned (v ∷ []) memory taken)))
    → ReturnsAll s w (i ∷ is) state test memory taken
choose s w i is state places test memory taken chooses rest = record {
  can = λ v h. (progress_of state places (Results (v ∷ []) (outside_of state)), chooses.can v h, (one_after s w is _ _ (rest v)).can);
  only = λ p run.
      let chosen = chooses.only run.0 run.1 in (
        chosen.0,
        chosen.1,
        (one_after s w is _ _ (rest chosen.0)).only p (subst (λ q. After q (Executes s w is) p) chosen.2 run.2),
      );
}

-- a step in one way before it
pub before_choice : (s : Setting) (w : World) (i : ℕ × InstrData) (is : List (ℕ × InstrData)) (state next : State) (test : ℕ → Bool) (memory : Memory) (taken : ℕ)
    → step_of s w i.1 state ≡ Some (On next) → ReturnsAll s w is next test memory taken → ReturnsAll s w (i ∷ is) state test memory taken
before_choice s w i is state next test memory taken step rest =
    let does : Does s w i state (On next) = step_so s w i state (On next) step in
    record {
      can = λ v h. (On next, does.can, rest.can v h);
      only = λ p run. rest.only p (subst (λ q. After q (Executes s w is) p) (does.only run.0 run.1) run.2);
    }

-- a function of one block without phis
pub returns_any : (x : ℕ) (names : List (List ℕ)) (instrs : List (ℕ × InstrData)) (w : World) (n : ℕ) (test : ℕ → Bool) (memory : Memory) (taken : ℕ)
    → phis_of instrs ≡ [] → ReturnsAll (setting_of x names (function_of (block_of [] instrs ∷ []))) w (after_phis instrs) (start w) test memory taken
    → ReturnsAny x names (function_of (block_of [] instrs ∷ [])) w (suc n) test memory taken
returns_any x names instrs w n test memory taken none all = record {
  can = λ v h. subst (λ ps. ThenBody (joined (start w) None ps) (Returned (v ∷ []) memory taken)) (sym none) (Over (Returned (v ∷ []) memory taken), all.can v h, refl);
  only = λ other run.
      let ran : ThenBody (Some (start w)) other = subst (λ ps. ThenBody (joined (start w) None ps) other) none run in
      let found = all.only ran.0 ran.1 in
      (found.0, found.1, subst (λ p. Follows 0 [] (Enters s w (block_of [] instrs ∷ []) n) p other) found.2 ran.2);
}
  where
    s : Setting
    s = setting_of x names (function_of (block_of [] instrs ∷ []))

    ThenBody : Option State → Outcome → Type 0
    ThenBody state o = RunsAfterPhis s w 0 (block_of [] instrs) (Enters s w (block_of [] instrs ∷ []) n) state o
