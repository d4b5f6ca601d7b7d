-- A run that is undefined in a world whose trace is cut is so in the world, and one that is undefined within n block
-- entries is so within more.
use Rattle.std.proofs.Common.{◌≡◌, ℕ, zero, suc, ◌+◌, Bool, true, false, cond, List, [], ◌∷◌, map, take, Option, Some, None, slice_get, ◌⊎◌, inl, inr, ⊎_elim, length, ◌-◌, add-sub_of_le, le_refl, refl, sym, ap, ◌∙◌, subst, arith}
use Rattle.std.proofs.Math.Seq.{take-length}
use Rattle.gi_mir.specs.Data.{InstrData, BlockData, FunctionData}
use Rattle.gi_mir.specs.declared.operand.MemOp.{MemOp}
use Rattle.gi_mir.specs.declared.operand.Operand.{Operand}
use Rattle.gi_mir.specs.declared.operand.Operand.TheVariants as operand
use Rattle.gi_mir.specs.declared.operand.SymbolFlag.TheVariants.{Plain, Call, Hi, Lo}
use Rattle.gi_meaning.specs.Argument.{Argument, Symbol, Called}
use Rattle.gi_meaning.specs.InRow.{checked_blocks}
use Rattle.gi_meaning.specs.State.{Event, World, State, Outside, outside_of, start, Outcome, Returned, Going, Asking, Place}
use Rattle.gi_meaning.specs.State as an_outcome
use Rattle.gi_meaning.specs.Meaning.{Meaning, Copying, Calling, meaning_of}
use Rattle.gi_meaning.specs.Act.{Answer, Results, Leaves, Returns, Asks, Act, Calls, CallsGlobal, words_of, passed}
use Rattle.gi_meaning.specs.Act as an_answer
use Rattle.gi_meaning.specs.Runs.{Setting, setting_of, argument_of, arguments_of, joined_lists, written_places, width_of_place, Progress, On, Left, Over, progress_of, StepsFrom, Steps, After, Executes, phis_of, after_phis, joined, is_among, Follows, RunsAfterPhis, RunsBlock, Enters, Runs, cut, MayBeUndefined}

-- ══ The trace ══

-- what a front of a list has, the list has
taken_front : {A : Type 0} (xs : List A) (k j : ℕ) (x : A) → slice_get (take k xs) j ≡ Some x → slice_get xs j ≡ Some x
taken_front [] zero j x h = h
taken_front [] (suc k) j x h = h
taken_front (y ∷ xs) zero j x h = cc
taken_front (y ∷ xs) (suc k) zero x h = h
taken_front (y ∷ xs) (suc k) (suc j) x h = taken_front xs k j x h

-- ══ A step ══

-- how far a run has come is a call that nobody answers
abbrev pub IsAsking : Progress → Type 0
IsAsking (Over (Asking callee words memory taken)) = Unit {0}
IsAsking _ = ⊥

abbrev AsksFor : Answer → Type 0
AsksFor (Asks callee words) = Unit {0}
AsksFor _ = ⊥

argument_cut : (s : Setting) (w : World) (k : ℕ) (state : State) (o : Operand) → argument_of s (cut w k) state o ≡ argument_of s w state o
argument_cut s w k state (operand.Def r d) = refl
argument_cut s w k state _ = refl

arguments_cut : (s : Setting) (w : World) (k : ℕ) (state : State) (os : List Operand) → arguments_of s (cut w k) state os ≡ arguments_of s w state os
arguments_cut s w k state [] = refl
arguments_cut s w k state (o ∷ os) = ap (λ a. joined_lists a (arguments_of s (cut w k) state os)) (argument_cut s w k state o)
    ∙ ap (λ b. joined_lists (argument_of s w state o) b) (arguments_cut s w k state os)

global_cut : (x : ℕ) (w : World) (k : ℕ) (callee words : List ℕ) (results : ℕ) (outside : Outside) (answer : Answer)
    → CallsGlobal x (cut w k) callee words results outside answer → CallsGlobal x w callee words results outside answer ⊎ AsksFor answer
global_cut x w k callee words results outside answer = ⊎_elim
    (λ event. inl (inl (event.0, taken_front w.trace k outside.taken event.0 event.1, event.2, event.3)))
    (λ none. inr (subst AsksFor (sym none.1) tt))

calls_cut : (x : ℕ) (w : World) (k : ℕ) (arguments : List Argument) (outside : Outside) (answer : Answer)
    → Calls x (cut w k) arguments outside answer → Calls x w arguments outside answer ⊎ AsksFor answer
calls_cut x w k (Symbol Call callee address ∷ rest) outside answer h = global_cut x w k callee (words_of (passed rest)) _ outside answer h
calls_cut x w k (Symbol Plain callee address ∷ rest) outside answer h = inl h
calls_cut x w k (Symbol Hi callee address ∷ rest) outside answer h = inl h
calls_cut x w k (Symbol Lo callee address ∷ rest) outside answer h = inl h
calls_cut x w k (Called Call routine ∷ rest) outside answer h = inl h
calls_cut x w k (Called Plain routine ∷ rest) outside answer h = inl h
calls_cut x w k (Called Hi routine ∷ rest) outside answer h = inl h
calls_cut x w k (Called Lo routine ∷ rest) outside answer h = inl h
calls_cut x w k _ outside answer h = inl h

act_cut : (x : ℕ) (w : World) (k : ℕ) (m : Meaning) (mem : Option MemOp) (widths : List ℕ) (arguments : List Argument) (outside : Outside) (answer : Answer)
    → Act x (cut w k) m mem widths arguments outside answer → Act x w m mem widths arguments outside answer ⊎ AsksFor answer
act_cut x w k Calling mem widths arguments outside answer h = calls_cut x w k arguments outside answer h
act_cut x w k Copying mem widths arguments outside answer h = inl h
act_cut x w k _ mem widths arguments outside answer h = inl h

-- an answer that asks ends the run asking
asks_over : (state : State) (places : List Place) (answer : Answer) → AsksFor answer → IsAsking (progress_of state places answer)
asks_over state places (Results results outside) h = absurd h
asks_over state places (Leaves block) h = absurd h
asks_over state places (Returns words) h = absurd h
asks_over state places (Asks callee words) h = tt
asks_over state places an_answer.Undefined h = absurd h

steps_from_cut : (s : Setting) (w : World) (k : ℕ) (i : InstrData) (state : State) (arguments : Option (List Argument)) (p : Progress)
    → StepsFrom s (cut w k) i state arguments p → StepsFrom s w i state arguments p ⊎ IsAsking p
steps_from_cut s w k i state None p step = inl step
steps_from_cut s w k i state (Some arguments) p step = ⊎_elim
    (λ act. inl (step.0, act, step.2))
    (λ asks. inr (subst IsAsking (sym step.2) (asks_over state (written_places (meaning_of i.flags i.op) i.operands) step.0 asks)))
    (act_cut s.x w k (meaning_of i.flags i.op) i.mem (map (width_of_place s) (written_places (meaning_of i.flags i.op) i.operands)) arguments (outside_of state) step.0 step.1)

steps_cut : (s : Setting) (w : World) (k : ℕ) (i : InstrData) (state : State) (p : Progress) → Steps s (cut w k) i state p → Steps s w i state p ⊎ IsAsking p
steps_cut s w k i state p step =
    steps_from_cut s w k i state (arguments_of s w state i.operands) p
    (subst (λ arguments. StepsFrom s (cut w k) i state arguments p) (arguments_cut s w k state i.operands) step)

-- ══ A list of instructions ══

-- where a step asks, all asks
after_asking : (next p : Progress) (rest : State → Progress → Type 0) → IsAsking next → After next rest p → IsAsking p
after_asking (On state) p rest asks run = absurd asks
after_asking (Left b state) p rest asks run = absurd asks
after_asking (Over o) p rest asks run = subst IsAsking (sym run) asks

after_cut : (next p : Progress) (rest rest' : State → Progress → Type 0) → ((state : State) (q : Progress) → rest state q → rest' state q ⊎ IsAsking q)
    → After next rest p → After next rest' p ⊎ IsAsking p
after_cut (On state) p rest rest' goes run = goes state p run
after_cut (Left b state) p rest rest' goes run = inl run
after_cut (Over o) p rest rest' goes run = inl run

executes_cut : (s : Setting) (w : World) (k : ℕ) (is : List (ℕ × InstrData)) (state : State) (p : Progress)
    → Executes s (cut w k) is state p → Executes s w is state p ⊎ IsAsking p
executes_cut s w k [] state p run = inl run
executes_cut s w k (i ∷ is) state p run = ⊎_elim
    (λ step. ⊎_elim (λ rest. inl (run.0, step, rest)) (λ asks. inr asks)
    (after_cut run.0 p (Executes s (cut w k) is) (Executes s w is) (executes_cut s w k is) run.2))
    (λ asks. inr (after_asking run.0 p (Executes s (cut w k) is) asks run.2))
    (steps_cut s w k i.1 state run.0 run.1)

-- ══ Whole runs that are undefined ══

-- entering a block is undefined there where it is here
record UndefinedToo (enters enters' : Option ℕ → ℕ → State → Outcome → Type 0) : Type 0 where
  by : (from : Option ℕ) (b : ℕ) (state : State) → enters from b state an_outcome.Undefined → enters' from b state an_outcome.Undefined

falls_too : (enters enters' : Option ℕ → ℕ → State → Outcome → Type 0) → UndefinedToo enters enters' → (test : Bool) (from : Option ℕ) (b : ℕ) (state : State)
    → cond test (enters from b state an_outcome.Undefined) (an_outcome.Undefined ≡ an_outcome.Undefined) → cond test (enters' from b state an_outcome.Undefined) (an_outcome.Undefined ≡ an_outcome.Undefined)
falls_too enters enters' too true from b state run = too.by from b state run
falls_too enters enters' too false from b state run = run

follows_too : (enters enters' : Option ℕ → ℕ → State → Outcome → Type 0) → UndefinedToo enters enters' → (b : ℕ) (successors : List ℕ) (p : Progress)
    → Follows b successors enters p an_outcome.Undefined → Follows b successors enters' p an_outcome.Undefined
follows_too enters enters' too b successors (On state) run = falls_too enters enters' too (is_among (b + 1) successors) (Some b) (b + 1) state run
follows_too enters enters' too b successors (Left c state) run = too.by (Some b) c state run
follows_too enters enters' too b successors (Over o) run = run

-- what asks isn't undefined
not_undefined : (b : ℕ) (successors : List ℕ) (enters : Option ℕ → ℕ → State → Outcome → Type 0) (p : Progress) → IsAsking p → Follows b successors enters p an_outcome.Undefined → ⊥
not_undefined b successors enters (On state) asks run = asks
not_undefined b successors enters (Left c state) asks run = asks
not_undefined b successors enters (Over (Asking callee words memory taken)) asks run = subst (λ o. IsAsking (Over o) → ⊥) run (λ h. h) tt
not_undefined b successors enters (Over (Returned words memory taken)) asks run = asks
not_undefined b successors enters (Over (Going memory taken)) asks run = asks
not_undefined b successors enters (Over an_outcome.Undefined) asks run = asks

phis_too : (s : Setting) (w : World) (k b : ℕ) (block : BlockData) (enters enters' : Option ℕ → ℕ → State → Outcome → Type 0) → UndefinedToo enters enters' → (state : Option State)
    → RunsAfterPhis s (cut w k) b block enters state an_outcome.Undefined → RunsAfterPhis s w b block enters' state an_outcome.Undefined
phis_too s w k b block enters enters' too None run = run
phis_too s w k b block enters enters' too (Some state) run = ⊎_elim
    (λ ran. (run.0, ran, follows_too enters enters' too b block.successors run.0 run.2))
    (λ asks. absurd (not_undefined b block.successors enters run.0 asks run.2))
    (executes_cut s w k (after_phis block.instrs) state run.0 run.1)

block_too : (s : Setting) (w : World) (k : ℕ) (block : Option BlockData) (enters enters' : Option ℕ → ℕ → State → Outcome → Type 0) → UndefinedToo enters enters'
    → UndefinedToo (RunsBlock s (cut w k) block enters) (RunsBlock s w block enters')
block_too s w k None enters enters' too = record { by = λ from b state run. run }
block_too s w k (Some block) enters enters' too = record {
  by = λ from b state run.
      phis_too s w k b block enters enters' too (joined state from (phis_of block.instrs)) run;
}

enters_too : (s : Setting) (w : World) (k : ℕ) (blocks : List BlockData) (n : ℕ) → UndefinedToo (Enters s (cut w k) blocks n) (Enters s w blocks n)
enters_too s w k blocks zero = record { by = λ from b state run. run }
enters_too s w k blocks (suc n) = record {
  by = λ from b state run.
      (block_too s w k (slice_get blocks b) (Enters s (cut w k) blocks n) (Enters s w blocks n) (enters_too s w k blocks n)).by from b state run;
}

-- ══ More block entries ══

phis_more : (s : Setting) (w : World) (b : ℕ) (block : BlockData) (enters enters' : Option ℕ → ℕ → State → Outcome → Type 0) → UndefinedToo enters enters' → (state : Option State)
    → RunsAfterPhis s w b block enters state an_outcome.Undefined → RunsAfterPhis s w b block enters' state an_outcome.Undefined
phis_more s w b block enters enters' too None run = run
phis_more s w b block enters enters' too (Some state) run = (run.0, run.1, follows_too enters enters' too b block.successors run.0 run.2)

block_more : (s : Setting) (w : World) (block : Option BlockData) (enters enters' : Option ℕ → ℕ → State → Outcome → Type 0) → UndefinedToo enters enters'
    → UndefinedToo (RunsBlock s w block enters) (RunsBlock s w block enters')
block_more s w None enters enters' too = record { by = λ from b state run. run }
block_more s w (Some block) enters enters' too = record {
  by = λ from b state run.
      phis_more s w b block enters enters' too (joined state from (phis_of block.instrs)) run;
}

going_undefined : (memory : ℕ → Option ℕ) (taken : ℕ) → an_outcome.Undefined ≡ Going memory taken → ⊥
going_undefined memory taken h = subst IsGoing' h tt
  where
    IsGoing' : Outcome → Type 0
    IsGoing' (Going m t) = ⊥
    IsGoing' _ = Unit {0}

enters_more : (s : Setting) (w : World) (blocks : List BlockData) (n d : ℕ) → UndefinedToo (Enters s w blocks n) (Enters s w blocks (n + d))
enters_more s w blocks zero d = record { by = λ from b state run. absurd (going_undefined state.memory state.taken run) }
enters_more s w blocks (suc n) d =
    let e : suc n + d ≡ suc (n + d) = omega arith in
    record {
      by = λ from b state run.
          subst (λ m. Enters s w blocks m from b state an_outcome.Undefined) (sym e)
          ((block_more s w (slice_get blocks b) (Enters s w blocks n) (Enters s w blocks (n + d)) (enters_more s w blocks n d)).by from b state run);
    }

-- a function may be undefined exactly where it runs to what is undefined
pub undefined_from_may : (x : ℕ) (names : List (List ℕ)) (f : FunctionData) (w : World) (n : ℕ) → MayBeUndefined x names f w n → Runs x names f w n an_outcome.Undefined
undefined_from_may x names f w n may =
    let s : Setting = setting_of x names f in
    let here : Runs x names f w may.entries an_outcome.Undefined = (enters_too s w may.events (checked_blocks x f) may.entries).by None 0 (start w) may.undefined in
    let e : may.entries + (n - may.entries) ≡ n = add-sub_of_le may.within in
    subst (λ m. Runs x names f w m an_outcome.Undefined) e ((enters_more s w (checked_blocks x f) may.entries (n - may.entries)).by None 0 (start w) here)

pub may_from_undefined : (x : ℕ) (names : List (List ℕ)) (f : FunctionData) (w : World) (n : ℕ) → Runs x names f w n an_outcome.Undefined → MayBeUndefined x names f w n
may_from_undefined x names f w n undefined = record {
  events = length w.trace;
  entries = n;
  within = le_refl n;
  undefined = subst (λ (t : List Event). Runs x names f (record w { trace = t }) n an_outcome.Undefined) (sym (take-length w.trace)) undefined;
}
