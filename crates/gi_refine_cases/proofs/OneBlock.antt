-- A function of one block that goes nowhere: a run enters it once, at the start.
use Rattle.std.proofs.Common.{◌≡◌, ℕ, zero, suc, Bool, true, false, ◌&&◌, List, [], ◌∷◌, Option, Some, None, slice_get, sym, ap, ◌∙◌, subst}
use Rattle.std.proofs.lemmas.Bool.{and_parts}
use Rattle.std.proofs.lemmas.Option.{same_Some}
use Rattle.gi_mir.specs.Data.{InstrData, BlockData}
use Rattle.gi_mir.specs.declared.operand.MemOp.{MemOp}
use Rattle.gi_meaning.specs.Argument.{Argument}
use Rattle.gi_meaning.specs.State.{World, State, Outside, outside_of, start, Place}
use Rattle.gi_meaning.specs.Meaning.{Meaning, Copying, Generic, Machine, Loading, Returning, meaning_of}
use Rattle.gi_meaning.specs.Act.{Answer, Results, Leaves, Returns, Asks, Undefined, Act, generic_load, copy}
use Rattle.gi_meaning.specs.Runs.{Setting, arguments_of, written_places, put_all, Progress, On, Left, Over, going_on, progress_of, StepsFrom, After, Executes, phis_of, after_phis, joined}
use Rattle.gi_refine.specs.Reached.{GoesTo, Passes, Arrives, IsReached}
use Rattle.gi_refine.proofs.ValuesStepped.{IsPlain, answers_plain, words_plain}

-- ══ Instructions that leave no block ══

abbrev pub is_straight : Meaning → Bool
is_straight Copying = true
is_straight (Generic gives) = true
is_straight (Machine gives) = true
is_straight (Loading extension) = true
is_straight Returning = true
is_straight _ = false

abbrev pub are_straight : List (ℕ × InstrData) → Bool
are_straight [] = true
are_straight (i ∷ is) = is_straight (meaning_of i.1.flags i.1.op) && are_straight is

abbrev StaysHere : Answer → Type 0
StaysHere (Leaves block) = ⊥
StaysHere _ = Unit {0}

abbrev pub NotLeft : Progress → Type 0
NotLeft (Left block state) = ⊥
NotLeft _ = Unit {0}

plain_stays : (outside : Outside) (answer : Answer) → IsPlain outside answer → StaysHere answer
plain_stays outside (Results results after) h = tt
plain_stays outside (Leaves block) h = absurd h
plain_stays outside (Returns words) h = absurd h
plain_stays outside (Asks callee words) h = absurd h
plain_stays outside Undefined h = tt

act_stays : (x : ℕ) (w : World) (m : Meaning) (mem : Option MemOp) (widths : List ℕ) (arguments : List Argument) (outside : Outside) (answer : Answer) → is_straight m ≡ true
    → Act x w m mem widths arguments outside answer → StaysHere answer
act_stays x w Copying mem widths arguments outside answer h act = plain_stays outside answer (answers_plain (copy widths arguments) outside answer act)
act_stays x w (Generic gives) mem widths arguments outside answer h act = plain_stays outside answer (answers_plain (gives widths arguments) outside answer act)
act_stays x w (Machine gives) mem widths arguments outside answer h act = plain_stays outside answer (words_plain x widths (gives x act.0) outside answer act.2)
act_stays x w (Loading extension) mem widths arguments outside answer h act =
    plain_stays outside answer (answers_plain (generic_load x extension mem widths arguments outside.memory) outside answer act)
act_stays x w Returning mem widths arguments outside answer h act = subst StaysHere (sym act) tt
act_stays x w _ mem widths arguments outside answer h act = cc

going_stays : (state : Option State) → NotLeft (going_on state)
going_stays None = tt
going_stays (Some state) = tt

progress_stays : (state : State) (places : List Place) (answer : Answer) → StaysHere answer → NotLeft (progress_of state places answer)
progress_stays state places (Results results outside) h = going_stays (put_all (record state { memory = outside.memory; taken = outside.taken }) places results)
progress_stays state places (Leaves block) h = absurd h
progress_stays state places (Returns words) h = tt
progress_stays state places (Asks callee words) h = tt
progress_stays state places Undefined h = tt

step_stays : (s : Setting) (w : World) (i : InstrData) (state : State) (arguments : Option (List Argument)) (p : Progress) → is_straight (meaning_of i.flags i.op) ≡ true → StepsFrom s w i state arguments p → NotLeft p
step_stays s w i state None p h step = subst NotLeft (sym step) tt
step_stays s w i state (Some arguments) p h step =
    subst NotLeft (sym step.2) (progress_stays state (written_places (meaning_of i.flags i.op) i.operands) step.0
    (act_stays s.x w (meaning_of i.flags i.op) i.mem _ arguments (outside_of state) step.0 h step.1))

after_stays : (s : Setting) (w : World) (is : List (ℕ × InstrData)) (next p : Progress) → NotLeft next → ((state : State) → Executes s w is state p → NotLeft p) → After next (Executes s w is) p → NotLeft p
after_stays s w is (On state) p here rest run = rest state run
after_stays s w is (Left block state) p here rest run = absurd here
after_stays s w is (Over outcome) p here rest run = subst NotLeft (sym run) tt

pub executes_stays : (s : Setting) (w : World) (is : List (ℕ × InstrData)) (state : State) (p : Progress) → are_straight is ≡ true → Executes s w is state p → NotLeft p
executes_stays s w [] state p h run = subst NotLeft (sym run) tt
executes_stays s w (i ∷ is) state p h run =
    after_stays s w is run.0 p
    (step_stays s w i.1 state (arguments_of s w state i.1.operands) run.0 (and_parts (is_straight (meaning_of i.1.flags i.1.op)) (are_straight is) h).0 run.1)
    (λ state' run'. executes_stays s w is state' p (and_parts (is_straight (meaning_of i.1.flags i.1.op)) (are_straight is) h).1 run') run.2

-- ══ One entry ══

-- a block that a run goes on from nowhere
pub record IsLast (block : BlockData) : Type 0 where
  pub successors : block.successors ≡ []
  pub phis : phis_of block.instrs ≡ []
  pub straight : are_straight (after_phis block.instrs) ≡ true

goes_nowhere : (b : ℕ) (successors : List ℕ) (p : Progress) (next : ℕ) (state : State) → successors ≡ [] → NotLeft p → GoesTo b successors p next state → ⊥
goes_nowhere b [] (On state') next state none stays goes = let no : false ≡ true = goes.0 in cc
goes_nowhere b (c ∷ cs) (On state') next state none stays goes = cc
goes_nowhere b successors (Left block state') next state none stays goes = absurd stays
goes_nowhere b successors (Over outcome) next state none stays goes = absurd goes

the_block : (block other : BlockData) (b : ℕ) → slice_get (block ∷ []) b ≡ Some other → block ≡ other
the_block block other zero h = cc
the_block block other (suc b) h = cc

passes_not : (s : Setting) (w : World) (block : BlockData) → IsLast block → (from : Option ℕ) (b : ℕ) (entered : State) (next : ℕ) (state : State) → Passes s w (block ∷ []) from b entered next state → ⊥
passes_not s w block last from b entered next state passes =
    let same : block ≡ passes.block = the_block block passes.block b passes.joins.here in
    goes_nowhere b passes.block.successors passes.progress next state (subst (λ k. k.successors ≡ []) same last.successors)
    (executes_stays s w (after_phis passes.block.instrs) passes.middle passes.progress (subst (λ k. are_straight (after_phis k.instrs) ≡ true) same last.straight) passes.body) passes.goes

arrives_once : (s : Setting) (w : World) (block : BlockData) → IsLast block → (entries : ℕ) (from : Option ℕ) (b : ℕ) (state : State) → Arrives s w (block ∷ []) entries from b state → state ≡ start w
arrives_once s w block last zero from b state arrives = arrives.2
arrives_once s w block last (suc n) from b state arrives = absurd (passes_not s w block last arrives.0 arrives.1 arrives.2 b state arrives.4)

-- what such a run comes to, it comes to from the start
pub reached_from_start : (s : Setting) (w : World) (block : BlockData) → IsLast block → (before : List (ℕ × InstrData)) (state : State) → IsReached s w (block ∷ []) 0 before state
    → Executes s w before (start w) (On state)
reached_from_start s w block last before state reached =
    let same : block ≡ reached.block = the_block block reached.block 0 reached.enters.joins.here in
    let phis : joined reached.enters.entered reached.enters.from (phis_of reached.block.instrs) ≡ Some reached.enters.entered =
    ap (joined reached.enters.entered reached.enters.from) (subst (λ k. phis_of k.instrs ≡ []) same last.phis) in
    let middle : reached.enters.entered ≡ reached.middle = same_Some reached.enters.entered reached.middle (sym phis ∙ reached.enters.joins.phis) in
    subst (λ st. Executes s w before st (On state)) (sym middle ∙ arrives_once s w block last reached.enters.entries reached.enters.from 0 reached.enters.entered reached.enters.arrives) reached.ran
