-- What is worked out is what a run comes to, and nothing else.
use Rattle.std.proofs.Common.{◌≡◌, ℕ, zero, suc, ◌+◌, ◌/◌, ◌%◌, ◌^◌, ◌<◌, Bool, true, false, not, cond, ◌&&◌, nat_lt, List, [], ◌∷◌, map, Option, Some, None, slice_get, ⊎_elim, refl, sym, ap, ap₂, ◌∙◌, subst}
use Rattle.std.proofs.lemmas.Bool.{and_parts, not-true}
use Rattle.std.proofs.lemmas.Option.{none-some}
use Rattle.gi_llt.specs.Bits.{wrapped, unsigned}
use Rattle.gi_llt.specs.Llt.{width_of}
use Rattle.gi_mir.specs.Data.{InstrData, BlockData, FunctionData}
use Rattle.gi_mir.specs.declared.operand.MemOp.{MemOp}
use Rattle.gi_meaning.specs.Argument.{Argument, Value, Number}
use Rattle.gi_meaning.specs.Given.{Given, Exactly, LowBits}
use Rattle.gi_meaning.specs.Given as a_given
use Rattle.gi_meaning.specs.Machine.{is_immediate}
use Rattle.gi_meaning.specs.Memory.{loaded, is_aligned}
use Rattle.gi_meaning.specs.State.{World, IsWorld, State, Outside, outside_of, start, Outcome, Going}
use Rattle.gi_meaning.specs.State as an_outcome
use Rattle.gi_meaning.specs.Meaning.{Meaning, Copying, Generic, Machine, Loading, Storing, MachineLoading, MachineStoring, Jumping, Branching, MachineBranching, Calling, Returning, Nothing, Joining, meaning_of}
use Rattle.gi_meaning.specs.Act.{Answer, Results, Returns, Answers, AnswersWords, all_fitted, AllReadAs, alignment, copy, generic_load, machine_load, StoresThere, Stores, GenericStores, MachineStores, jump, branch, machine_branch, returned, Act}
use Rattle.gi_meaning.specs.Act as an_answer
use Rattle.gi_meaning.specs.Runs.{Setting, setting_of, arguments_of, written_places, width_of_place, Progress, On, Left, Over, progress_of, StepsFrom, phis_of, after_phis, joined, is_among, Entering, Follows, RunsAfterPhis, RunsBlock, Enters}
use Rattle.gi_refine.specs.Evaluation.{exact, exact_words, are_whole, store_there, store_at, generic_store, machine_store, answered, progress_by, step_from, step_of, then_on, steps_of, followed_by, after_phis_of, block_of_run, entered, outcome_of}
use Rattle.gi_refine.specs.Outcomes.{ComesTo}
use Rattle.gi_refine.specs.Refinement.{RefinesUnchecked}
use Rattle.gi_refine.proofs.Basics.{some_is}
use Rattle.gi_refine.proofs.Doing.{ActsSo, Does, does_from, DoesAll, does_none, does_next, does_leave, does_end}

-- the claim holds of this one, and of no other
record Only (A : Type 0) (P : A → Type 0) (a : A) : Type 0 where
  can : P a
  only : (other : A) → P other → other ≡ a

-- a claim that names the one
named : (A : Type 0) (a b : A) → b ≡ a → Only A (λ other. other ≡ a) b
named A a b same = record { can = same; only = λ other is. is ∙ sym same }

of_two : (A : Type 0) (test : Bool) (P Q : A → Type 0) (a b : A) → Only A P a → Only A Q b → Only A (λ other. cond test (P other) (Q other)) (cond test a b)
of_two A true P Q a b first second = record { can = first.can; only = first.only }
of_two A false P Q a b first second = record { can = second.can; only = second.only }

-- ══ What is given ══

exact_so : (g : Given) (outside : Outside) (a : Answer) → exact g outside ≡ Some a → Only Answer (Answers g outside) a
exact_so (Exactly results) outside a h =
    let same : a ≡ Results results outside = some_is (Results results outside) a h in
    record { can = (results, refl, same); only = λ other given. given.2 ∙ ap (λ rs. Results rs outside) given.1 ∙ sym same }
exact_so (LowBits known width value) outside a h = absurd (none-some a h)
exact_so a_given.Undefined outside a h =
    let same : a ≡ an_answer.Undefined = some_is an_answer.Undefined a h in record { can = same; only = λ other given. given ∙ sym same }

exact_words_so : (x : ℕ) (widths : List ℕ) (g : Given) (outside : Outside) (a : Answer) → exact_words x widths g outside ≡ Some a → Only Answer (AnswersWords x widths g outside) a
exact_words_so x widths (Exactly words) outside a h =
    let same : a ≡ Results (all_fitted x widths words) outside = some_is (Results (all_fitted x widths words) outside) a h in
    record { can = (words, refl, same); only = λ other given. given.2 ∙ ap (λ ws. Results (all_fitted x widths ws) outside) given.1 ∙ sym same }
exact_words_so x widths (LowBits known width value) outside a h = absurd (none-some a h)
exact_words_so x widths a_given.Undefined outside a h =
    let same : a ≡ an_answer.Undefined = some_is an_answer.Undefined a h in record { can = same; only = λ other given. given ∙ sym same }

-- ══ Words that are read ══

reads_whole : (x : ℕ) (arguments : List Argument) → are_whole x arguments ≡ true → AllReadAs x arguments arguments
reads_whole x [] h = refl
reads_whole x (Value width value ∷ arguments) h =
    let each : (not (nat_lt width x) ≡ true) × (are_whole x arguments ≡ true) = and_parts (not (nat_lt width x)) (are_whole x arguments) h in (
      Value width value,
      arguments,
      subst (λ b. cond b ((word : ℕ) × (word < 2 ^ x) × (word % 2 ^ width ≡ value % 2 ^ width) × (Value width value ≡ Value x word)) (Value width value ≡ Value width value)) (sym (not-true (nat_lt width x) each.0)) refl,
      reads_whole x arguments each.1,
      refl,
    )
reads_whole x (Number z ∷ arguments) h = (Number z, arguments, refl, reads_whole x arguments h, refl)
reads_whole x (a ∷ arguments) h = (a, arguments, refl, reads_whole x arguments h, refl)

reads_only : (x : ℕ) (arguments words : List Argument) → are_whole x arguments ≡ true → AllReadAs x arguments words → words ≡ arguments
reads_only x [] words h reads = reads
reads_only x (Value width value ∷ arguments) words h reads =
    let each : (not (nat_lt width x) ≡ true) × (are_whole x arguments ≡ true) = and_parts (not (nat_lt width x)) (are_whole x arguments) h in
    reads.4 ∙ ap₂ (λ k ks. k ∷ ks)
    (subst (λ b. cond b ((word : ℕ) × (word < 2 ^ x) × (word % 2 ^ width ≡ value % 2 ^ width) × (reads.0 ≡ Value x word)) (reads.0 ≡ Value width value)) (not-true (nat_lt width x) each.0) reads.2)
    (reads_only x arguments reads.1 each.1 reads.3)
reads_only x (Number z ∷ arguments) words h reads = reads.4 ∙ ap₂ (λ k ks. k ∷ ks) reads.2 (reads_only x arguments reads.1 h reads.3)
reads_only x (a ∷ arguments) words h reads = reads.4 ∙ ap₂ (λ k ks. k ∷ ks) reads.2 (reads_only x arguments reads.1 h reads.3)

-- what is said of the words that are read is said of the arguments
whole_so : (x : ℕ) (arguments : List Argument) (P : List Argument → Answer → Type 0) (answer : Option Answer) (a : Answer)
    → ((b : Answer) → answer ≡ Some b → Only Answer (P arguments) b) → cond (are_whole x arguments) answer None ≡ Some a
    → Only Answer (λ other. (words : List Argument) × AllReadAs x arguments words × P words other) a
whole_so x arguments P answer a so h = at (are_whole x arguments) refl h
  where
    at : (whole : Bool) → are_whole x arguments ≡ whole → cond whole answer None ≡ Some a → Only Answer (λ other. (words : List Argument) × AllReadAs x arguments words × P words other) a
    at true whole there = record {
      can = (arguments, reads_whole x arguments whole, (so a there).can);
      only = λ other given. (so a there).only other (subst (λ words. P words other) (reads_only x arguments given.0 whole given.1) given.2);
    }
    at false whole there = absurd (none-some a there)

-- ══ Stores ══

store_there_so : (old : Option ℕ) (x bytes address value : ℕ) (outside : Outside) → Only Answer (StoresThere old x bytes address value outside) (store_there old x bytes address value outside)
store_there_so None x bytes address value outside = record { can = refl; only = λ other h. h }
store_there_so (Some old) x bytes address value outside = record { can = refl; only = λ other h. h }

store_at_so : (x align bytes address value : ℕ) (outside : Outside) → Only Answer (Stores x align bytes address value outside) (store_at x align bytes address value outside)
store_at_so x align bytes address value outside =
    let so = of_two Answer (is_aligned align address) (StoresThere (loaded x bytes outside.memory address) x bytes address value outside) (λ other. other ≡ an_answer.Undefined)
    (store_there (loaded x bytes outside.memory address) x bytes address value outside) an_answer.Undefined
    (store_there_so (loaded x bytes outside.memory address) x bytes address value outside) (named Answer an_answer.Undefined an_answer.Undefined refl) in
    record { can = so.can; only = so.only }

generic_store_so : (x : ℕ) (mem : Option MemOp) (arguments : List Argument) (outside : Outside) → Only Answer (GenericStores x mem arguments outside) (generic_store x mem arguments outside)
generic_store_so x (Some mem) (Value n value ∷ Value l address ∷ []) outside =
    let so = of_two Answer mem.load (λ other. other ≡ an_answer.Undefined) (Stores x (alignment x mem) (width_of x mem.ty / 8) address value outside)
    an_answer.Undefined (store_at x (alignment x mem) (width_of x mem.ty / 8) address value outside)
    (named Answer an_answer.Undefined an_answer.Undefined refl) (store_at_so x (alignment x mem) (width_of x mem.ty / 8) address value outside) in
    record { can = so.can; only = so.only }
generic_store_so x _ _ outside = record { can = refl; only = λ other h. h }

machine_store_so : (x : ℕ) (exists : ℕ → Bool) (bytes : ℕ) (arguments : List Argument) (outside : Outside)
    → Only Answer (MachineStores x exists bytes arguments outside) (machine_store x exists bytes arguments outside)
machine_store_so x exists bytes (Value n value ∷ Value l base ∷ Number offset ∷ []) outside =
    let so = of_two Answer (exists x && is_immediate offset) (Stores x bytes bytes (wrapped x (base + unsigned x offset)) value outside) (λ other. other ≡ an_answer.Undefined)
    (store_at x bytes bytes (wrapped x (base + unsigned x offset)) value outside) an_answer.Undefined
    (store_at_so x bytes bytes (wrapped x (base + unsigned x offset)) value outside) (named Answer an_answer.Undefined an_answer.Undefined refl) in
    record { can = so.can; only = so.only }
machine_store_so x exists bytes _ outside = record { can = refl; only = λ other h. h }

-- the one answer, where it is worked out
some_so : (P : Answer → Type 0) (answer a : Answer) → Only Answer P answer → Some answer ≡ Some a → Only Answer P a
some_so P answer a so h = subst (Only Answer P) (sym (some_is answer a h)) so

-- ══ Instructions ══

one_way : (x : ℕ) (w : World) (m : Meaning) (mem : Option MemOp) (widths : List ℕ) (arguments : List Argument) (outside : Outside) (a : Answer)
    → answered x m mem widths arguments outside ≡ Some a → Only Answer (Act x w m mem widths arguments outside) a
one_way x w Copying mem widths arguments outside a h = exact_so (copy widths arguments) outside a h
one_way x w (Generic gives) mem widths arguments outside a h = exact_so (gives widths arguments) outside a h
one_way x w (Machine gives) mem widths arguments outside a h =
    whole_so x arguments (λ words. AnswersWords x widths (gives x words) outside) (exact_words x widths (gives x arguments) outside) a (exact_words_so x widths (gives x arguments) outside) h
one_way x w (Loading extension) mem widths arguments outside a h = exact_so (generic_load x extension mem widths arguments outside.memory) outside a h
one_way x w Storing mem widths arguments outside a h =
    some_so (GenericStores x mem arguments outside) (generic_store x mem arguments outside) a (generic_store_so x mem arguments outside) h
one_way x w (MachineLoading exists bytes extension) mem widths arguments outside a h =
    whole_so x arguments (λ words. AnswersWords x widths (machine_load x exists bytes extension words outside.memory) outside)
    (exact_words x widths (machine_load x exists bytes extension arguments outside.memory) outside) a
    (exact_words_so x widths (machine_load x exists bytes extension arguments outside.memory) outside) h
one_way x w (MachineStoring exists bytes) mem widths arguments outside a h =
    whole_so x arguments (λ words. MachineStores x exists bytes words outside) (Some (machine_store x exists bytes arguments outside)) a
    (λ b. some_so (MachineStores x exists bytes arguments outside) (machine_store x exists bytes arguments outside) b (machine_store_so x exists bytes arguments outside)) h
one_way x w Jumping mem widths arguments outside a h = named Answer (jump arguments) a (some_is (jump arguments) a h)
one_way x w Branching mem widths arguments outside a h = named Answer (branch arguments outside) a (some_is (branch arguments outside) a h)
one_way x w (MachineBranching test) mem widths arguments outside a h =
    whole_so x arguments (λ words other. other ≡ machine_branch x test words outside) (Some (machine_branch x test arguments outside)) a
    (λ b is. named Answer (machine_branch x test arguments outside) b (some_is (machine_branch x test arguments outside) b is)) h
one_way x w Calling mem widths arguments outside a h = absurd (none-some a h)
one_way x w Returning mem widths arguments outside a h = named Answer (Returns (returned arguments)) a (some_is (Returns (returned arguments)) a h)
one_way x w Nothing mem widths arguments outside a h = named Answer (Results [] outside) a (some_is (Results [] outside) a h)
one_way x w Joining mem widths arguments outside a h = named Answer an_answer.Undefined a (some_is an_answer.Undefined a h)

pub answered_so : (x : ℕ) (w : World) (m : Meaning) (mem : Option MemOp) (widths : List ℕ) (arguments : List Argument) (outside : Outside) (a : Answer)
    → answered x m mem widths arguments outside ≡ Some a → ActsSo x w m mem widths arguments outside a
answered_so x w m mem widths arguments outside a h =
    let so : Only Answer (Act x w m mem widths arguments outside) a = one_way x w m mem widths arguments outside a h in record { can = so.can; only = so.only }

-- without a value for each register that is read a run is undefined
undefined_so : (s : Setting) (w : World) (i : ℕ × InstrData) (state : State) (p : Progress) → arguments_of s w state i.1.operands ≡ None → p ≡ Over an_outcome.Undefined → Does s w i state p
undefined_so s w i state p none undefined = record {
  can = subst (λ arguments. StepsFrom s w i.1 state arguments p) (sym none) undefined;
  only = λ other step.
      let other_undefined : other ≡ Over an_outcome.Undefined = subst (λ arguments. StepsFrom s w i.1 state arguments other) none step in
      other_undefined ∙ sym undefined;
}

pub step_so : (s : Setting) (w : World) (i : ℕ × InstrData) (state : State) (p : Progress) → step_of s w i.1 state ≡ Some p → Does s w i state p
step_so s w i state p h = from (arguments_of s w state i.1.operands) refl h
  where
    m : Meaning
    m = meaning_of i.1.flags i.1.op

    by : (arguments : List Argument) → arguments_of s w state i.1.operands ≡ Some arguments → (answer : Option Answer)
        → answered s.x m i.1.mem (map (width_of_place s) (written_places m i.1.operands)) arguments (outside_of state) ≡ answer
        → progress_by state s i.1 answer ≡ Some p → Does s w i state p
    by arguments read None is there = absurd (none-some p there)
    by arguments read (Some a) is there =
        does_from s w i state arguments a p read
        (answered_so s.x w m i.1.mem (map (width_of_place s) (written_places m i.1.operands)) arguments (outside_of state) a is)
        (some_is (progress_of state (written_places m i.1.operands) a) p there)

    from : (arguments : Option (List Argument)) → arguments_of s w state i.1.operands ≡ arguments → step_from s i.1 state arguments ≡ Some p → Does s w i state p
    from None none there = undefined_so s w i state p none (some_is (Over an_outcome.Undefined) p there)
    from (Some arguments) read there = by arguments read _ refl there

steps_next : (s : Setting) (w : World) (i : ℕ × InstrData) (is : List (ℕ × InstrData)) (state : State) (first : Option Progress) (p : Progress)
    → ((middle : State) → steps_of s w is middle ≡ Some p → DoesAll s w is middle p) → step_of s w i.1 state ≡ first → then_on first (steps_of s w is) ≡ Some p → DoesAll s w (i ∷ is) state p
steps_next s w i is state None p rest here h = absurd (none-some p h)
steps_next s w i is state (Some (On middle)) p rest here h = does_next s w i is state middle p (step_so s w i state (On middle) here) (rest middle h)
steps_next s w i is state (Some (Left b middle)) p rest here h =
    subst (DoesAll s w (i ∷ is) state) (sym (some_is (Left b middle) p h)) (does_leave s w i is state b middle (step_so s w i state (Left b middle) here))
steps_next s w i is state (Some (Over o)) p rest here h =
    subst (DoesAll s w (i ∷ is) state) (sym (some_is (Over o) p h)) (does_end s w i is state o (step_so s w i state (Over o) here))

pub steps_so : (s : Setting) (w : World) (is : List (ℕ × InstrData)) (state : State) (p : Progress) → steps_of s w is state ≡ Some p → DoesAll s w is state p
steps_so s w [] state p h = subst (DoesAll s w [] state) (sym (some_is (On state) p h)) (does_none s w state)
steps_so s w (i ∷ is) state p h = steps_next s w i is state (step_of s w i.1 state) p (λ middle more. steps_so s w is middle p more) refl h

-- ══ Blocks ══

-- what is worked out for entries, they come to alone
record EvaluatesTo (enters : Entering) (worked : Option ℕ → ℕ → State → Option Outcome) : Type 1 where
  by : (from : Option ℕ) (b : ℕ) (state : State) (o : Outcome) → worked from b state ≡ Some o → Only Outcome (enters from b state) o

falls_so : (enters : Entering) (worked : Option ℕ → ℕ → State → Option Outcome) → EvaluatesTo enters worked → (among : Bool) (b : ℕ) (state : State) (o : Outcome)
    → cond among (worked (Some b) (b + 1) state) (Some an_outcome.Undefined) ≡ Some o → Only Outcome (λ other. cond among (enters (Some b) (b + 1) state other) (other ≡ an_outcome.Undefined)) o
falls_so enters worked so true b state o h = so.by (Some b) (b + 1) state o h
falls_so enters worked so false b state o h = named Outcome an_outcome.Undefined o (some_is an_outcome.Undefined o h)

follows_so : (enters : Entering) (worked : Option ℕ → ℕ → State → Option Outcome) → EvaluatesTo enters worked → (b : ℕ) (successors : List ℕ) (p : Progress) (o : Outcome)
    → followed_by b successors worked (Some p) ≡ Some o → Only Outcome (Follows b successors enters p) o
follows_so enters worked so b successors (On state) o h = falls_so enters worked so (is_among (b + 1) successors) b state o h
follows_so enters worked so b successors (Left c state) o h = so.by (Some b) c state o h
follows_so enters worked so b successors (Over over) o h = named Outcome over o (some_is over o h)

body_so : (s : Setting) (w : World) (enters : Entering) (worked : Option ℕ → ℕ → State → Option Outcome) → EvaluatesTo enters worked → (b : ℕ) (block : BlockData) (state : State) (o : Outcome)
    → (p : Option Progress) → steps_of s w (after_phis block.instrs) state ≡ p → followed_by b block.successors worked p ≡ Some o → Only Outcome (RunsAfterPhis s w b block enters (Some state)) o
body_so s w enters worked so b block state o None is h = absurd (none-some o h)
body_so s w enters worked so b block state o (Some p) is h =
    let does : DoesAll s w (after_phis block.instrs) state p = steps_so s w (after_phis block.instrs) state p is in
    let follows : Only Outcome (Follows b block.successors enters p) o = follows_so enters worked so b block.successors p o h in
    record {
      can = (p, does.can, follows.can);
      only = λ other run. follows.only other (subst (λ q. Follows b block.successors enters q other) (does.only run.0 run.1) run.2);
    }

phis_so : (s : Setting) (w : World) (enters : Entering) (worked : Option ℕ → ℕ → State → Option Outcome) → EvaluatesTo enters worked → (b : ℕ) (block : BlockData) (state : Option State) (o : Outcome)
    → after_phis_of s w b block worked state ≡ Some o → Only Outcome (RunsAfterPhis s w b block enters state) o
phis_so s w enters worked so b block None o h = named Outcome an_outcome.Undefined o (some_is an_outcome.Undefined o h)
phis_so s w enters worked so b block (Some state) o h = body_so s w enters worked so b block state o (steps_of s w (after_phis block.instrs) state) refl h

block_so : (s : Setting) (w : World) (enters : Entering) (worked : Option ℕ → ℕ → State → Option Outcome) → EvaluatesTo enters worked → (block : Option BlockData)
    → (from : Option ℕ) (b : ℕ) (state : State) (o : Outcome) → block_of_run s w worked block from b state ≡ Some o → Only Outcome (RunsBlock s w block enters from b state) o
block_so s w enters worked so None from b state o h = named Outcome an_outcome.Undefined o (some_is an_outcome.Undefined o h)
block_so s w enters worked so (Some block) from b state o h = phis_so s w enters worked so b block (joined state from (phis_of block.instrs)) o h

entered_so : (s : Setting) (w : World) (blocks : List BlockData) (n : ℕ) → EvaluatesTo (Enters s w blocks n) (entered s w blocks n)
entered_so s w blocks zero = record { by = λ from b state o h. named Outcome (Going state.memory state.taken) o (some_is (Going state.memory state.taken) o h) }
entered_so s w blocks (suc n) = record {
  by = λ from b state o h. block_so s w (Enters s w blocks n) (entered s w blocks n) (entered_so s w blocks n) (slice_get blocks b) from b state o h;
}

-- a function whose outcome is worked out comes to it, and to nothing else
pub outcome_so : (x : ℕ) (names : List (List ℕ)) (f : FunctionData) (w : World) (n : ℕ) (o : Outcome) → outcome_of x names f w n ≡ Some o → ComesTo x names f w n o
outcome_so x names f w n o h =
    let so : Only Outcome (Enters (setting_of x names f) w f.blocks n None 0 (start w)) o = (entered_so (setting_of x names f) w f.blocks n).by None 0 (start w) o h in
    record { can = so.can; only = so.only }

-- functions that come to different outcomes, of which the old one's isn't undefined, aren't a refinement
pub refutes : (x : ℕ) (names : List (List ℕ)) (f g : FunctionData) (w : World) → IsWorld x w → (n : ℕ) (o o' : Outcome) → outcome_of x names f w n ≡ Some o → outcome_of x names g w n ≡ Some o'
    → (o' ≡ o → ⊥) → (an_outcome.Undefined ≡ o → ⊥) → RefinesUnchecked x names f g → ⊥
refutes x names f g w is_world n o o' old new apart defined refines =
    let old_so : ComesTo x names f w n o = outcome_so x names f w n o old in
    ⊎_elim
    (λ ran. apart (old_so.only o' ran))
    (λ undefined. defined (old_so.only an_outcome.Undefined undefined))
    (refines.runs w is_world n o' ((outcome_so x names g w n o' new).can))
