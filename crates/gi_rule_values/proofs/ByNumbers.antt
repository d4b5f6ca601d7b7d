-- A rewrite that is sound by numbers is sound on values: what its operations make, the runs have looked at.
use Rattle.std.proofs.Common.{◌≡◌, ℕ, zero, suc, ◌+◌, ◌%◌, ◌^◌, ◌<◌, Bool, true, false, cond, nat_lt, List, [], ◌∷◌, ◌++◌, length, map, Option, Some, None, slice_get, refl, sym, ap, ap₂, ◌∙◌, subst, inl, inr, arith}
use Rattle.gi_llt.specs.Llt.{width_of}
use Rattle.gi_meaning.specs.Act.{Act, AllReadAs, Answer, Answers, AnswersWords, IsWordOf, ReadsAs, Results, all_fitted, copy}
use Rattle.gi_meaning.specs.Act as an_answer
use Rattle.gi_meaning.specs.Argument.{Argument, Value}
use Rattle.gi_meaning.specs.Given.{Given, Exactly, LowBits, IsGiven}
use Rattle.gi_meaning.specs.Given as a_given
use Rattle.gi_meaning.specs.Meaning.{Meaning, Copying, Generic, Machine, meaning_of}
use Rattle.gi_meaning.specs.State.{Outside, World}
use Rattle.gi_refine.specs.Values.{Acts, ActsFrom, AllHold, Correspond, Defines, Environment, Fact, ForAllOf, IsSound, Makes, MayMake, Operation, Rule, StandAt, Then, answered, appended, arguments_at}
use Rattle.gi_rule_values.specs.Data.{DefinitionData, OperationData, RewriteData}
use Rattle.gi_rule_values.specs.OnValues.{fact_of, kept_from, on_values, operation_on_values}
use Rattle.gi_rule_values.specs.Running.{AreEqual, AreThere, ForAllRuns, ForArguments, ForGiven, ForRest, ForResults, ForWord, ForWords, IfDefined, IfEqual, IfGiven, IfKnown, IfMeant, IfThere, IsSoundByNumbers, IsUndefined, MayGive, OfGiven, OfMeaning, RootMay, found_at, values_at}

-- ══ What is made ══

-- results of which the claim holds, or no promise and the other claim
data Looked (claim : List ℕ → Type 0) (none : Type 0) (outside : Outside) (answer : Answer) : Type 0 where
  Gives : (results : List ℕ) → answer ≡ Results results outside → claim results → Looked claim none outside answer
  Fails : answer ≡ an_answer.Undefined → none → Looked claim none outside answer

given_looked : (given : Given) (claim : List ℕ → Type 0) (none : Type 0) (outside : Outside) (answer : Answer) → ForGiven given claim none → Answers given outside answer → Looked claim none outside answer
given_looked a_given.Undefined claim none outside answer all h = Fails h all
given_looked (Exactly results) claim none outside answer all h = Gives h.0 h.2 (subst claim (sym h.1) all)
given_looked (LowBits known width value) claim none outside answer all h =
    Gives h.0 h.2 (subst claim (sym h.1.3) (all h.1.0 h.1.1 h.1.2))

words_looked : (x : ℕ) (widths : List ℕ) (given : Given) (claim : List ℕ → Type 0) (none : Type 0) (outside : Outside) (answer : Answer)
    → ForGiven given (λ results. claim (all_fitted x widths results)) none → AnswersWords x widths given outside answer → Looked claim none outside answer
words_looked x widths a_given.Undefined claim none outside answer all h = Fails h all
words_looked x widths (Exactly results) claim none outside answer all h =
    Gives (all_fitted x widths h.0) h.2 (subst (λ (rs : List ℕ). claim (all_fitted x widths rs)) (sym h.1) all)
words_looked x widths (LowBits known width value) claim none outside answer all h =
    Gives (all_fitted x widths h.0) h.2 (subst (λ (rs : List ℕ). claim (all_fitted x widths rs)) (sym h.1.3) (all h.1.0 h.1.1 h.1.2))

word_at : (x width value : ℕ) (claim : Argument → Type 0) (argument : Argument) (t : Bool)
    → cond t ((word : ℕ) → word < 2 ^ x → word % 2 ^ width ≡ value % 2 ^ width → claim (Value x word)) (claim (Value width value))
    → cond t ((word : ℕ) × (word < 2 ^ x) × (word % 2 ^ width ≡ value % 2 ^ width) × (argument ≡ Value x word)) (argument ≡ Value width value)
    → claim argument
word_at x width value claim argument true all h = subst claim (sym h.3) (all h.0 h.1 h.2)
word_at x width value claim argument false all h = subst claim (sym h) all

word_looked : (x : ℕ) (argument : Argument) (claim : Argument → Type 0) (word : Argument) → ForWord x argument claim → ReadsAs x argument word → claim word
word_looked x (Value width value) claim word all h = word_at x width value claim word (nat_lt width x) all h
word_looked x _ claim word all h = subst claim (sym h) all

all_words : (x : ℕ) (arguments : List Argument) (claim : List Argument → Type 0) (words : List Argument) → ForWords x arguments claim → AllReadAs x arguments words → claim words
all_words x [] claim words all h = subst claim (sym h) all
all_words x (argument ∷ arguments) claim words all h =
    subst claim (sym h.4)
    (all_words x arguments (λ rest. claim (h.0 ∷ rest)) h.1 (word_looked x argument (λ word. ForWords x arguments (λ rest. claim (word ∷ rest))) h.0 all h.2) h.3)

results_looked : (x : ℕ) (w : World) (m : Meaning) (widths : List ℕ) (arguments : List Argument) (claim : List ℕ → Type 0) (none : Type 0) (outside : Outside) (answer : Answer)
    → ForResults x m widths arguments claim none → Act x w m None widths arguments outside answer → Looked claim none outside answer
results_looked x w Copying widths arguments claim none outside answer all h = given_looked (copy widths arguments) claim none outside answer all h
results_looked x w (Generic gives) widths arguments claim none outside answer all h = given_looked (gives widths arguments) claim none outside answer all h
results_looked x w (Machine gives) widths arguments claim none outside answer all h =
    words_looked x widths (gives x h.0) claim none outside answer
    (all_words x arguments (λ words. ForGiven (gives x words) (λ results. claim (all_fitted x widths results)) none) h.0 all h.1) h.2
results_looked x w _ widths arguments claim none outside answer all h = absurd all

arguments_looked : (x : ℕ) (w : World) (o : Operation) (arguments : Option (List Argument)) (claim : List ℕ → Type 0) (none : Type 0) (outside : Outside) (answer : Answer)
    → o.mem ≡ None → ForArguments x o arguments claim none → ActsFrom x w o outside arguments answer → Looked claim none outside answer
arguments_looked x w o None claim none outside answer mem all h = Fails h all
arguments_looked x w o (Some arguments) claim none outside answer mem all h =
    results_looked x w (meaning_of o.flags o.op) o.widths arguments claim none outside answer all
    (subst (λ m. Act x w (meaning_of o.flags o.op) m o.widths arguments outside answer) mem h)

abbrev AreFree : List Operation → Type 0
AreFree [] = Unit {0}
AreFree (o ∷ os) = (o.mem ≡ None) × AreFree os

-- one operation was looked at, and the rest of the run is
rest_looked : (x : ℕ) (w : World) (outside : Outside) (os : List Operation) (claim : Option Environment → Type 0) (made later : Option Environment)
    → ((e : Environment) → ForAllRuns x os e claim → Makes x w outside os e made → claim made)
    → ForRest later (λ e. ForAllRuns x os e claim) (claim None) → Then later (Makes x w outside os) made → claim made
rest_looked x w outside os claim made None more all h = subst claim (sym h) all
rest_looked x w outside os claim made (Some e) more all h = more e all h

one_looked : (x : ℕ) (w : World) (outside : Outside) (o : Operation) (os : List Operation) (env : Environment) (claim : Option Environment → Type 0) (made : Option Environment) (answer : Answer)
    → ((e : Environment) → ForAllRuns x os e claim → Makes x w outside os e made → claim made)
    → Looked (λ results. ForRest (appended env o.widths results) (λ e. ForAllRuns x os e claim) (claim None)) (claim None) outside answer
    → Then (answered env o.widths answer) (Makes x w outside os) made → claim made
one_looked x w outside o os env claim made answer more (Gives results is all) h =
    rest_looked x w outside os claim made (appended env o.widths results) more all (subst (λ a. Then (answered env o.widths a) (Makes x w outside os) made) is h)
one_looked x w outside o os env claim made answer more (Fails is none) h =
    subst claim (sym (subst (λ a. Then (answered env o.widths a) (Makes x w outside os) made) is h)) none

-- the claim of what a list of operations made
pub runs_looked : (x : ℕ) (w : World) (outside : Outside) (os : List Operation) (env : Environment) (claim : Option Environment → Type 0) (made : Option Environment)
    → AreFree os → ForAllRuns x os env claim → Makes x w outside os env made → claim made
runs_looked x w outside [] env claim made free all h = subst claim (sym h) all
runs_looked x w outside (o ∷ os) env claim made free all h =
    one_looked x w outside o os env claim made h.0 (λ e more makes. runs_looked x w outside os e claim made free.1 more makes)
    (arguments_looked x w o (arguments_at env o.slots) (λ results. ForRest (appended env o.widths results) (λ e. ForAllRuns x os e claim) (claim None)) (claim None) outside h.0 free.0 all h.1) h.2

-- ══ What is known ══

equal_known : (results values : List ℕ) (goal : Type 0) → IfEqual results values goal → values ≡ results → goal
equal_known [] [] goal all h = all
equal_known (r ∷ rs) (v ∷ vs) goal all h = equal_known rs vs goal (all (cc)) (cc)
equal_known [] (v ∷ vs) goal all h = cc
equal_known (r ∷ rs) [] goal all h = cc

results_are : (a b : List ℕ) (outside : Outside) → Results a outside ≡ Results b outside → a ≡ b
results_are a b outside h = cc

low_known : (known width value : ℕ) (values : List ℕ) (goal : Type 0) → IfGiven (LowBits known width value) values goal
    → (free : ℕ) → free < 2 ^ width → free % 2 ^ known ≡ value % 2 ^ known → values ≡ free ∷ [] → goal
low_known known width value [] goal all free fits low h = cc
low_known known width value (v ∷ []) goal all free fits low h =
    let is : v ≡ free = cc in all (subst (λ k. k < 2 ^ width) (sym is) fits) (subst (λ k. k % 2 ^ known ≡ value % 2 ^ known) (sym is) low)
low_known known width value (v ∷ u ∷ vs) goal all free fits low h = cc

given_known : (given : Given) (values : List ℕ) (goal : Type 0) (outside : Outside) → IfGiven given values goal → Answers given outside (Results values outside) → goal
given_known a_given.Undefined values goal outside all h = cc
given_known (Exactly results) values goal outside all h = equal_known results values goal all (results_are values h.0 outside h.2 ∙ h.1)
given_known (LowBits known width value) values goal outside all h =
    low_known known width value values goal all h.1.0 h.1.1 h.1.2 (results_are values h.0 outside h.2 ∙ h.1.3)

meaning_known : (x : ℕ) (w : World) (m : Meaning) (widths : List ℕ) (arguments : List Argument) (values : List ℕ) (goal : Type 0) (outside : Outside)
    → IfMeant m widths arguments values goal → Act x w m None widths arguments outside (Results values outside) → goal
meaning_known x w Copying widths arguments values goal outside all h = given_known (copy widths arguments) values goal outside all h
meaning_known x w (Generic gives) widths arguments values goal outside all h = given_known (gives widths arguments) values goal outside all h
meaning_known x w _ widths arguments values goal outside all h = all

-- what stands at the places
stand_are : (env : Environment) (places widths values : List ℕ) → StandAt env places widths values → values_at env places ≡ Some values
stand_are env [] [] [] h = refl
stand_are env (p ∷ ps) (n ∷ ns) (v ∷ vs) h = ap₂ found_at h.0 (stand_are env ps ns vs h.1)
stand_are env [] (n ∷ ns) values h = absurd h
stand_are env [] [] (v ∷ vs) h = absurd h
stand_are env (p ∷ ps) [] values h = absurd h
stand_are env (p ∷ ps) (n ∷ ns) [] h = absurd h

defined_known : (x : ℕ) (w : World) (o : Operation) (arguments : Option (List Argument)) (values : List ℕ) (goal : Type 0) (outside : Outside)
    → o.mem ≡ None → IfDefined o arguments (Some values) goal → ActsFrom x w o outside arguments (Results values outside) → goal
defined_known x w o None values goal outside mem all h = cc
defined_known x w o (Some arguments) values goal outside mem all h =
    meaning_known x w (meaning_of o.flags o.op) o.widths arguments values goal outside all
    (subst (λ m. Act x w (meaning_of o.flags o.op) m o.widths arguments outside (Results values outside)) mem h)

abbrev is_free : Fact → Type 0
is_free (Defines o places) = o.mem ≡ None
is_free _ = Unit {0}

abbrev FactsFree : List Fact → Type 0
FactsFree [] = Unit {0}
FactsFree (fact ∷ facts) = is_free fact × FactsFree facts

-- the goal, where the facts hold
pub facts_known : (x : ℕ) (w : World) (outside : Outside) (env : Environment) (facts : List Fact) (goal : Type 0) → FactsFree facts → IfKnown env facts goal → AllHold x w outside env facts → goal
facts_known x w outside env [] goal free all h = all
facts_known x w outside env (Defines o places ∷ facts) goal free all h =
    facts_known x w outside env facts goal free.1
    (defined_known x w o (arguments_at env o.slots) h.0.0 (IfKnown env facts goal) outside free.0
    (subst (λ vs. IfDefined o (arguments_at env o.slots) vs (IfKnown env facts goal)) (stand_are env places o.widths h.0.0 h.0.2) all) h.0.1) h.1
facts_known x w outside env (fact ∷ facts) goal free all h = facts_known x w outside env facts goal free.1 all h.1

-- ══ What the root may give ══

-- an entry stays where it is as results are added
pub get_left : {X : Type 0} (xs ys : List X) (k : ℕ) (x : X) → slice_get xs k ≡ Some x → slice_get (xs ++ ys) k ≡ Some x
get_left [] ys k x h = cc
get_left (z ∷ xs) ys zero x h = h
get_left (z ∷ xs) ys (suc k) x h = get_left xs ys k x h

pub get_here : {X : Type 0} (xs : List X) (x : X) → slice_get (xs ++ x ∷ []) (length xs) ≡ Some x
get_here [] x = refl
get_here (z ∷ xs) x = get_here xs x

pub longer : {X : Type 0} (xs : List X) (x : X) → length (xs ++ x ∷ []) ≡ length xs + 1
longer [] x = refl
longer (z ∷ xs) x = ap suc (longer xs x) ∙ omega arith

appended_keeps : (env : Environment) (widths values : List ℕ) (old : Environment) (k : ℕ) (entry : ℕ × ℕ) → appended env widths values ≡ Some old → slice_get env k ≡ Some entry → slice_get old k ≡ Some entry
appended_keeps env [] [] old k entry is h = subst (λ (e : Environment). slice_get e k ≡ Some entry) (same env old is) h
  where
    same : (a b : Environment) → Some a ≡ Some b → a ≡ b
    same a b h = cc
appended_keeps env (n ∷ ns) (v ∷ vs) old k entry is h = appended_keeps (env ++ (n, v) ∷ []) ns vs old k entry is (get_left env ((n, v) ∷ []) k entry h)
appended_keeps env [] (v ∷ vs) old k entry is h = cc
appended_keeps env (n ∷ ns) [] old k entry is h = cc

-- what the root may give, taken from the new environment: as many values as widths, each at its place
record AreTaken (new : Environment) (places widths : List ℕ) (claim : List ℕ → Type 0) : Type 0 where
  values : List ℕ
  stand : StandAt new places widths values
  holds : claim values

one_taken : (new : Environment) (place width : ℕ) (found : Option (ℕ × ℕ)) (claim : ℕ → Type 0) → slice_get new place ≡ found → IfThere found width claim
    → (v : ℕ) × (slice_get new place ≡ Some (width, v)) × claim v
one_taken new place width None claim is h = absurd h
one_taken new place width (Some entry) claim is h = (entry.1, is ∙ ap (λ n. Some (n, entry.1)) h.0, h.1)

are_taken : (new : Environment) (places widths : List ℕ) (claim : List ℕ → Type 0) → AreThere new places widths claim → AreTaken new places widths claim
are_taken new [] [] claim h = record { values = []; stand = tt; holds = h }
are_taken new (p ∷ ps) (n ∷ ns) claim h =
    let first = one_taken new p n (slice_get new p) (λ v. AreThere new ps ns (λ vs. claim (v ∷ vs))) refl h in
    let rest = are_taken new ps ns (λ vs. claim (first.0 ∷ vs)) first.2 in
    record { values = first.0 ∷ rest.values; stand = (first.1, rest.stand); holds = rest.holds }
are_taken new [] (n ∷ ns) claim h = absurd h
are_taken new (p ∷ ps) [] claim h = absurd h

-- the old environment with these values, which stand in the new one
record IsAdded (env new : Environment) (places widths values : List ℕ) : Type 0 where
  old : Environment
  is : appended env widths values ≡ Some old
  same : (k : ℕ) → k ≡ length env → Correspond (kept_from k places) old new

is_added : (env new : Environment) (places widths values : List ℕ) → StandAt new places widths values → IsAdded env new places widths values
is_added env new [] [] [] h = record { old = env; is = refl; same = λ k at. tt }
is_added env new (p ∷ ps) (n ∷ ns) (v ∷ vs) h =
    let rest = is_added (env ++ (n, v) ∷ []) new ps ns vs h.1 in
    record {
      old = rest.old;
      is = rest.is;
      same = λ k at. (
        h.0 ∙ sym (subst (λ j. slice_get rest.old j ≡ Some (n, v)) (sym at) (appended_keeps (env ++ (n, v) ∷ []) ns vs rest.old (length env) (n, v) rest.is (get_here env (n, v)))),
        rest.same (k + 1) (ap (λ j. j + 1) at ∙ sym (longer env (n, v))),
      );
    }
is_added env new [] (n ∷ ns) values h = absurd h
is_added env new [] [] (v ∷ vs) h = absurd h
is_added env new (p ∷ ps) [] values h = absurd h
is_added env new (p ∷ ps) (n ∷ ns) [] h = absurd h

-- the root answers with these values, or it is undefined
data MayAnswer (values : List ℕ) (outside : Outside) (Answered : Answer → Type 0) : Type 0 where
  Yields : Answered (Results values outside) → MayAnswer values outside Answered
  Breaks : Answered an_answer.Undefined → MayAnswer values outside Answered

none_equal : (r : ℕ) (rs : List ℕ) → AreEqual (r ∷ rs) [] → ⊥
none_equal r [] h = h
none_equal r (q ∷ rs) h = h

are_equal : (results values : List ℕ) → AreEqual results values → values ≡ results
are_equal [] [] h = refl
are_equal (r ∷ []) (v ∷ []) h = ap (λ k. k ∷ []) (sym h)
are_equal (r ∷ q ∷ rs) (v ∷ u ∷ vs) h = ap₂ (λ k ks. k ∷ ks) (sym h.0) (are_equal (q ∷ rs) (u ∷ vs) h.1)
are_equal [] (v ∷ vs) h = absurd h
are_equal (r ∷ []) [] h = absurd h
are_equal (r ∷ []) (v ∷ u ∷ vs) h = absurd h.1
are_equal (r ∷ q ∷ rs) [] h = absurd h
are_equal (r ∷ q ∷ rs) (v ∷ []) h = absurd (none_equal q rs h.1)

given_may : (given : Given) (values : List ℕ) (outside : Outside) → MayGive given values → MayAnswer values outside (Answers given outside)
given_may a_given.Undefined values outside h = Breaks refl
given_may (Exactly results) values outside h = Yields (values, are_equal results values h, refl)
given_may (LowBits known width value) (v ∷ []) outside h = Yields (v ∷ [], (v, h.0, h.1, refl), refl)
given_may (LowBits known width value) [] outside h = absurd h
given_may (LowBits known width value) (v ∷ u ∷ vs) outside h = absurd h

meaning_may : (x : ℕ) (w : World) (m : Meaning) (widths : List ℕ) (arguments : List Argument) (values : List ℕ) (outside : Outside)
    → OfMeaning m widths arguments (λ given. MayGive given values) → MayAnswer values outside (Act x w m None widths arguments outside)
meaning_may x w Copying widths arguments values outside h = given_may (copy widths arguments) values outside h
meaning_may x w (Generic gives) widths arguments values outside h = given_may (gives widths arguments) values outside h
meaning_may x w _ widths arguments values outside h = absurd h

root_may : (x : ℕ) (w : World) (o : Operation) (arguments : Option (List Argument)) (values : List ℕ) (outside : Outside) → o.mem ≡ None
    → OfGiven o arguments (λ given. MayGive given values) → MayAnswer values outside (ActsFrom x w o outside arguments)
root_may x w o None values outside mem h = absurd h
root_may x w o (Some arguments) values outside mem h =
    subst (λ m. MayAnswer values outside (Act x w (meaning_of o.flags o.op) m o.widths arguments outside)) (sym mem)
    (meaning_may x w (meaning_of o.flags o.op) o.widths arguments values outside h)

-- the root is undefined
given_none : (given : Given) (outside : Outside) → IsUndefined given → Answers given outside an_answer.Undefined
given_none a_given.Undefined outside h = refl
given_none (Exactly results) outside h = absurd h
given_none (LowBits known width value) outside h = absurd h

meaning_none : (x : ℕ) (w : World) (m : Meaning) (widths : List ℕ) (arguments : List Argument) (outside : Outside) → OfMeaning m widths arguments IsUndefined → Act x w m None widths arguments outside an_answer.Undefined
meaning_none x w Copying widths arguments outside h = given_none (copy widths arguments) outside h
meaning_none x w (Generic gives) widths arguments outside h = given_none (gives widths arguments) outside h
meaning_none x w _ widths arguments outside h = absurd h

root_none : (x : ℕ) (w : World) (o : Operation) (arguments : Option (List Argument)) (outside : Outside) → o.mem ≡ None → OfGiven o arguments IsUndefined → ActsFrom x w o outside arguments an_answer.Undefined
root_none x w o None outside mem h = absurd h
root_none x w o (Some arguments) outside mem h =
    subst (λ m. Act x w (meaning_of o.flags o.op) m o.widths arguments outside an_answer.Undefined) (sym mem)
    (meaning_none x w (meaning_of o.flags o.op) o.widths arguments outside h)

abbrev made_of : (inputs : List ℕ) (facts : List Fact) (o : Operation) (new : List Operation) (kept : List (ℕ × ℕ)) → Rule
made_of inputs facts o new kept = record { inputs = inputs; facts = facts; old = o ∷ []; new = new; kept = kept }

root_makes : (x : ℕ) (w : World) (outside : Outside) (inputs : List ℕ) (facts : List Fact) (o : Operation) (new : List Operation) (places : List ℕ) (env next : Environment) (values : List ℕ) (k : ℕ)
    → k ≡ length env → StandAt next places o.widths values → MayAnswer values outside (Acts x w o outside env)
    → MayMake x w outside (made_of inputs facts o new (kept_from k places)) env (Some next)
root_makes x w outside inputs facts o new places env next values k at stand (Yields act) =
    let added = is_added env next places o.widths values stand in
    inl (added.old, (Results values outside, act, subst (λ e. Then e (Makes x w outside []) (Some added.old)) (sym added.is) refl), added.same k at)
root_makes x w outside inputs facts o new places env next values k at stand (Breaks act) = inr (an_answer.Undefined, act, refl)

pub root_makes_all : (x : ℕ) (w : World) (outside : Outside) (inputs : List ℕ) (facts : List Fact) (o : Operation) (new : List Operation) (places : List ℕ) (env : Environment) (made : Option Environment) (k : ℕ)
    → k ≡ length env → o.mem ≡ None → RootMay o places env made → MayMake x w outside (made_of inputs facts o new (kept_from k places)) env made
root_makes_all x w outside inputs facts o new places env None k at mem h = (an_answer.Undefined, root_none x w o (arguments_at env o.slots) outside mem h, refl)
root_makes_all x w outside inputs facts o new places env (Some next) k at mem h =
    let taken = are_taken next places o.widths (λ values. OfGiven o (arguments_at env o.slots) (λ given. MayGive given values)) h in
    root_makes x w outside inputs facts o new places env next taken.values k at taken.stand (root_may x w o (arguments_at env o.slots) taken.values outside mem taken.holds)

-- ══ All ══

for_all_of : (widths : List ℕ) (P Q : Environment → Type 0) → ForAllOf widths P → ((env : Environment) → length env ≡ length widths → P env → Q env) → ForAllOf widths Q
for_all_of [] P Q all h = h [] refl all
for_all_of (n ∷ ns) P Q all h = λ value fits.
    for_all_of ns (λ env. P ((n, value) ∷ env)) (λ env. Q ((n, value) ∷ env)) (all value fits) (λ env long p. h ((n, value) ∷ env) (ap suc long) p)

map_length : {A B : Type 0} (f : A → B) (xs : List A) → length (map f xs) ≡ length xs
map_length f [] = refl
map_length f (x ∷ xs) = ap suc (map_length f xs)

operations_free : (x : ℕ) (names : List (List ℕ)) (w : World) (os : List OperationData) → AreFree (map (operation_on_values x names w) os)
operations_free x names w [] = tt
operations_free x names w (o ∷ os) = (refl, operations_free x names w os)

facts_free : (x : ℕ) (names : List (List ℕ)) (w : World) (ds : List DefinitionData) → FactsFree (map (fact_of x names w) ds)
facts_free x names w [] = tt
facts_free x names w (d ∷ ds) = (refl, facts_free x names w ds)

-- a rewrite that is sound by numbers is a sound rule on values
pub sound_by_numbers : (x : ℕ) (names : List (List ℕ)) (w : World) (rewrite : RewriteData) → IsSoundByNumbers x names w rewrite → IsSound x w (on_values x names w rewrite)
sound_by_numbers x names w rewrite sound = record {
  by = λ outside.
      for_all_of (map (width_of x) rewrite.inputs)
      (λ env. IfKnown env (map (fact_of x names w) rewrite.definitions) (ForAllRuns x (map (operation_on_values x names w) rewrite.made) env (RootMay (operation_on_values x names w rewrite.root) rewrite.results env)))
      (λ env. AllHold x w outside env (on_values x names w rewrite).facts → (made : Option Environment) → Makes x w outside (on_values x names w rewrite).new env made → MayMake x w outside (on_values x names w rewrite) env made)
      sound
      (λ env long all facts made makes.
      root_makes_all x w outside (on_values x names w rewrite).inputs (on_values x names w rewrite).facts (operation_on_values x names w rewrite.root) (on_values x names w rewrite).new rewrite.results env made (length rewrite.inputs)
      (sym (long ∙ map_length (width_of x) rewrite.inputs)) refl
      (runs_looked x w outside (map (operation_on_values x names w) rewrite.made) env (RootMay (operation_on_values x names w rewrite.root) rewrite.results env) made (operations_free x names w rewrite.made)
      (facts_known x w outside env (map (fact_of x names w) rewrite.definitions) _ (facts_free x names w rewrite.definitions) all facts) makes));
}
