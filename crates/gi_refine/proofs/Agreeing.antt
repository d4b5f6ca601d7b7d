-- An instruction that reads nothing hidden does the same in states that agree, and shows what it writes.
use Rattle.std.proofs.Common.{◌≡◌, ℕ, ◌%◌, ◌^◌, ◌<◌, Bool, true, false, cond, ◌==◌, List, [], ◌∷◌, map, Option, Some, None, option_map, ◌⊎◌, inl, inr, ⊎_elim, refl, sym, ap, ap₂, subst}
use Rattle.gi_mir.specs.Data.{InstrData}
use Rattle.gi_mir.specs.declared.operand.Operand.{Operand}
use Rattle.gi_mir.specs.declared.operand.Operand.TheVariants as operand
use Rattle.gi_meaning.specs.Argument.{Argument, Value, Implicit}
use Rattle.gi_meaning.specs.Memory.{Memory}
use Rattle.gi_meaning.specs.State.{World, State, Outside, outside_of, Returned, Asking, Place, Virtual, Physical, word_in, put}
use Rattle.gi_meaning.specs.State as an_outcome
use Rattle.gi_meaning.specs.Meaning.{Meaning, meaning_of}
use Rattle.gi_meaning.specs.Act.{Answer, Results, Leaves, Returns, Asks, Act}
use Rattle.gi_meaning.specs.Act as an_answer
use Rattle.gi_meaning.specs.Runs.{Setting, argument_of, arguments_of, joined_lists, written_places, width_of_place, put_all, Progress, On, Left, Over, going_on, progress_of, StepsFrom, Steps, After, Executes}
use Rattle.gi_refine.specs.Simulation.{Stands, IsFollowed}
use Rattle.std.proofs.lemmas.Bool.{eq-eqb, eqb-true}
use Rattle.gi_refine.specs.Agreement.{setting, StandsFor, ValueStands, Agree, shown, all_shown, read_places, AreSeen, AreAlike}
use Rattle.gi_refine.specs.Kept.{HasSameValue}

-- ══ Reads ══

-- the new arguments are the old ones, where those are there
abbrev pub ArgumentsStand : (old new : Option (List Argument)) → Type 0
ArgumentsStand None new = Unit {0}
ArgumentsStand (Some arguments) new = new ≡ Some arguments

-- where both functions give a register one width, its value is the same
pub stands_alike : (x m v u : ℕ) → StandsFor x m m v u → u ≡ v
stands_alike x m v u h = subst (λ b. cond b (u ≡ v) ((m ≡ x) × (m < x) × (u < 2 ^ x) × (u % 2 ^ m ≡ v))) (eq-eqb m m refl) h

pub alike_stands : (x m v u : ℕ) → u ≡ v → StandsFor x m m v u
alike_stands x m v u h = subst (λ b. cond b (u ≡ v) ((m ≡ x) × (m < x) × (u < 2 ^ x) × (u % 2 ^ m ≡ v))) (sym (eq-eqb m m refl)) h

pub same_value : (x m : ℕ) (old new : Option ℕ) → ValueStands x m m old new → HasSameValue old new
same_value x m None new h = tt
same_value x m (Some v) None h = absurd h
same_value x m (Some v) (Some u) h = ap Some (stands_alike x m v u h)

pub same_value_stands : (x m : ℕ) (old new : Option ℕ) → HasSameValue old new → ValueStands x m m old new
same_value_stands x m None new h = tt
same_value_stands x m (Some v) new h = subst (λ n. ValueStands x m m (Some v) n) (sym h) (alike_stands x m v v refl)

arguments_of_value : (width : ℕ) (old new : Option ℕ) → HasSameValue old new
    → ArgumentsStand (option_map (λ v. Value width v ∷ []) old) (option_map (λ v. Value width v ∷ []) new)
arguments_of_value width None new h = tt
arguments_of_value width (Some v) new h = ap (option_map (λ u. Value width u ∷ [])) h

-- the values of two registers of one width
pub value_stands : (x m n : ℕ) (old new : Option ℕ) → n ≡ m → ValueStands x m n old new
    → ArgumentsStand (option_map (λ v. Value m v ∷ []) old) (option_map (λ v. Value n v ∷ []) new)
value_stands x m n old new e h =
    subst (λ k. ArgumentsStand (option_map (λ v. Value m v ∷ []) old) (option_map (λ v. Value k v ∷ []) new)) (sym e)
    (arguments_of_value m old new (same_value x m old new (subst (λ k. ValueStands x m k old new) e h)))

pub joined_stand : (a b a' b' : Option (List Argument)) → ArgumentsStand a a' → ArgumentsStand b b' → ArgumentsStand (joined_lists a b) (joined_lists a' b')
joined_stand None b a' b' h g = tt
joined_stand (Some xs) None a' b' h g = tt
joined_stand (Some xs) (Some ys) a' b' h g = ap₂ joined_lists h g

pub word_stands : (n : ℕ) (old new : State) → new.words n ≡ old.words n → word_in new n ≡ word_in old n
word_stands n old new h = ap (λ v. cond (n == 0) 0 v) h

arguments_stand : (x : ℕ) (names : List (List ℕ)) (width width' : ℕ → ℕ) (w : World) (hidden : Place → Bool) (old new : State) → Agree (setting x names width) (setting x names width') hidden old new → (os : List Operand)
    → AreSeen hidden width width' (read_places os)
    → ArgumentsStand (arguments_of (setting x names width) w old os) (arguments_of (setting x names width') w new os)
arguments_stand x names width width' w hidden old new agree [] seen = refl
arguments_stand x names width width' w hidden old new agree (operand.Use r ∷ os) seen =
    joined_stand _ _ _ _
    (value_stands x (width r.0) (width' r.0) (old.values r.0) (new.values r.0) seen.1 (agree.values r.0 seen.0))
    (arguments_stand x names width width' w hidden old new agree os seen.2)
arguments_stand x names width width' w hidden old new agree (operand.Phys n ∷ os) seen =
    joined_stand (Some (Value x (word_in old n) ∷ [])) _ (Some (Value x (word_in new n) ∷ [])) _
    (ap (λ v. Some (Value x v ∷ [])) (word_stands n old new (agree.words n seen.0)))
    (arguments_stand x names width width' w hidden old new agree os seen.1)
arguments_stand x names width width' w hidden old new agree (operand.ImplicitUse n ∷ os) seen =
    joined_stand (Some (Implicit n (word_in old n) ∷ [])) _ (Some (Implicit n (word_in new n) ∷ [])) _
    (ap (λ v. Some (Implicit n v ∷ [])) (word_stands n old new (agree.words n seen.0)))
    (arguments_stand x names width width' w hidden old new agree os seen.1)
arguments_stand x names width width' w hidden old new agree (operand.Def r k ∷ os) seen =
    joined_stand (Some []) _ (Some []) _ refl (arguments_stand x names width width' w hidden old new agree os seen)
arguments_stand x names width width' w hidden old new agree (operand.PhysDef n ∷ os) seen =
    joined_stand (Some []) _ (Some []) _ refl (arguments_stand x names width width' w hidden old new agree os seen)
arguments_stand x names width width' w hidden old new agree (o ∷ os) seen =
    joined_stand (argument_of (setting x names width) w old o) _ (argument_of (setting x names width') w new o) _ refl
    (arguments_stand x names width width' w hidden old new agree os seen)

-- ══ Writes ══

value_put : (b : Bool) (x m n v u : ℕ) (old new : Option ℕ) → (b ≡ true → StandsFor x m n v u) → (b ≡ false → ValueStands x m n old new)
    → ValueStands x m n (cond b (Some v) old) (cond b (Some u) new)
value_put true x m n v u old new here there = here refl
value_put false x m n v u old new here there = there refl

word_put : (b : Bool) (v old new : ℕ) → (b ≡ false → new ≡ old) → cond b v new ≡ cond b v old
word_put true v old new h = refl
word_put false v old new h = h refl

-- what is not shown by another place was seen before
seen_before : (b : Bool) (h : Bool) → cond b false h ≡ false → b ≡ false → h ≡ false
seen_before true h e same = cc
seen_before false h e same = e

-- a value in a place stands for another
abbrev pub PlaceStands : (s t : Setting) → Place → (old new : ℕ) → Type 0
PlaceStands s t (Virtual r) v u = StandsFor s.x (s.width r) (t.width r) v u
PlaceStands s t (Physical n) v u = u ≡ v

pub put_agree : (s t : Setting) (hidden : Place → Bool) (old new : State) (p : Place) (v u : ℕ) → PlaceStands s t p v u → Agree s t hidden old new
    → Agree s t (shown hidden p) (put old p v) (put new p u)
put_agree s t hidden old new (Virtual q) v u stands agree = record {
  values = λ r seen. value_put (r == q) s.x (s.width r) (t.width r) v u (old.values r) (new.values r)
      (λ same. subst (λ k. StandsFor s.x (s.width k) (t.width k) v u) (sym (eqb-true r q same)) stands)
      (λ other. agree.values r (seen_before (r == q) (hidden (Virtual r)) seen other));
  words = λ n seen. agree.words n seen;
  memory = agree.memory;
  taken = agree.taken;
}
put_agree s t hidden old new (Physical m) v u stands agree = record {
  values = λ r seen. agree.values r seen;
  words = λ n seen. subst (λ k. cond (n == m) k (new.words n) ≡ cond (n == m) v (old.words n)) (sym stands)
      (word_put (n == m) v (old.words n) (new.words n) (λ other. agree.words n (seen_before (n == m) (hidden (Physical n)) seen other)));
  memory = agree.memory;
  taken = agree.taken;
}

-- both states after the writes, or neither
abbrev pub BothAgree : (s t : Setting) → (hidden : Place → Bool) → (old new : Option State) → Type 0
BothAgree s t hidden None None = Unit {0}
BothAgree s t hidden (Some old) (Some new) = Agree s t hidden old new
BothAgree s t hidden _ _ = ⊥

-- as many results, each of which stands in its place for the old one
abbrev pub ResultsStand : (s t : Setting) → List Place → (old new : List ℕ) → Type 0
ResultsStand s t [] [] [] = Unit {0}
ResultsStand s t [] (v ∷ vs) (u ∷ us) = Unit {0}
ResultsStand s t (p ∷ ps) [] [] = Unit {0}
ResultsStand s t (p ∷ ps) (v ∷ vs) (u ∷ us) = PlaceStands s t p v u × ResultsStand s t ps vs us
ResultsStand s t _ _ _ = ⊥

pub put_all_agree : (s t : Setting) (hidden : Place → Bool) (old new : State) (ps : List Place) (vs us : List ℕ) → ResultsStand s t ps vs us → Agree s t hidden old new
    → BothAgree s t (all_shown hidden ps) (put_all old ps vs) (put_all new ps us)
put_all_agree s t hidden old new [] [] [] stand agree = agree
put_all_agree s t hidden old new [] [] (u ∷ us) stand agree = absurd stand
put_all_agree s t hidden old new [] (v ∷ vs) [] stand agree = absurd stand
put_all_agree s t hidden old new [] (v ∷ vs) (u ∷ us) stand agree = tt
put_all_agree s t hidden old new (p ∷ ps) [] [] stand agree = tt
put_all_agree s t hidden old new (p ∷ ps) [] (u ∷ us) stand agree = absurd stand
put_all_agree s t hidden old new (p ∷ ps) (v ∷ vs) [] stand agree = absurd stand
put_all_agree s t hidden old new (p ∷ ps) (v ∷ vs) (u ∷ us) stand agree =
    put_all_agree s t (shown hidden p) (put old p v) (put new p u) ps vs us stand.1 (put_agree s t hidden old new p v u stand.0 agree)

-- ══ A step ══

-- what states that agree need of each block that an instruction may go to
pub record Exits (s t : Setting) (hidden : Place → Bool) (exit : ℕ → State → State → Type 0) : Type 0 where
  pub by : (c : ℕ) (old new : State) → Agree s t hidden old new → exit c old new

going_stands : (s t : Setting) (hidden : Place → Bool) (exit : ℕ → State → State → Type 0) (old new : Option State) → BothAgree s t hidden old new
    → Stands (Agree s t hidden) exit (going_on old) (going_on new)
going_stands s t hidden exit None None both = refl
going_stands s t hidden exit None (Some new) both = absurd both
going_stands s t hidden exit (Some old) None both = absurd both
going_stands s t hidden exit (Some old) (Some new) both = both

outside_agree : (s t : Setting) (hidden : Place → Bool) (old new : State) (outside : Outside) → Agree s t hidden old new
    → Agree s t hidden (record old { memory = outside.memory; taken = outside.taken }) (record new { memory = outside.memory; taken = outside.taken })
outside_agree s t hidden old new outside agree = record { values = agree.values; words = agree.words; memory = refl; taken = refl }

-- the new answer has results that stand for the old ones, or is the old one
abbrev pub AnswerStands : (s t : Setting) → List Place → (old new : Answer) → Type 0
AnswerStands s t ps (Results results outside) new = (us : List ℕ) × ResultsStand s t ps results us × (new ≡ Results us outside)
AnswerStands s t ps old new = new ≡ old

pub progress_stands : (s t : Setting) (hidden : Place → Bool) (exit : ℕ → State → State → Type 0) → Exits s t hidden exit → (old new : State) (ps : List Place) (answer answer' : Answer)
    → AnswerStands s t ps answer answer' → Agree s t hidden old new
    → Stands (Agree s t (all_shown hidden ps)) exit (progress_of old ps answer) (progress_of new ps answer')
progress_stands s t hidden exit exits old new ps (Results results outside) answer' stands agree =
    subst (λ a. Stands (Agree s t (all_shown hidden ps)) exit (progress_of old ps (Results results outside)) (progress_of new ps a)) (sym stands.2)
    (going_stands s t (all_shown hidden ps) exit _ _
    (put_all_agree s t hidden (record old { memory = outside.memory; taken = outside.taken }) (record new { memory = outside.memory; taken = outside.taken }) ps results stands.0
    stands.1 (outside_agree s t hidden old new outside agree)))
progress_stands s t hidden exit exits old new ps (Leaves block) answer' stands agree =
    subst (λ a. Stands (Agree s t (all_shown hidden ps)) exit (Left block old) (progress_of new ps a)) (sym stands) (refl, exits.by block old new agree)
progress_stands s t hidden exit exits old new ps (Returns words) answer' stands agree =
    subst (λ a. Stands (Agree s t (all_shown hidden ps)) exit (progress_of old ps (Returns words)) (progress_of new ps a)) (sym stands)
    (ap₂ (λ m k. Returned words m k) (sym agree.memory) (sym agree.taken))
progress_stands s t hidden exit exits old new ps (Asks callee words) answer' stands agree =
    subst (λ a. Stands (Agree s t (all_shown hidden ps)) exit (progress_of old ps (Asks callee words)) (progress_of new ps a)) (sym stands)
    (ap₂ (λ m k. Asking callee words m k) (sym agree.memory) (sym agree.taken))
progress_stands s t hidden exit exits old new ps an_answer.Undefined answer' stands agree =
    subst (λ a. Stands (Agree s t (all_shown hidden ps)) exit (Over an_outcome.Undefined) (progress_of new ps a)) (sym stands) refl

results_alike : (x : ℕ) (names : List (List ℕ)) (width width' : ℕ → ℕ) (ps : List Place) (vs : List ℕ) → AreAlike width width' ps
    → ResultsStand (setting x names width) (setting x names width') ps vs vs
results_alike x names width width' [] [] alike = tt
results_alike x names width width' [] (v ∷ vs) alike = tt
results_alike x names width width' (p ∷ ps) [] alike = tt
results_alike x names width width' (Virtual r ∷ ps) (v ∷ vs) alike =
    (subst (λ n. StandsFor x (width r) n v v) (sym alike.0) (alike_stands x (width r) v v refl), results_alike x names width width' ps vs alike.1)
results_alike x names width width' (Physical n ∷ ps) (v ∷ vs) alike = (refl, results_alike x names width width' ps vs alike)

-- one answer on both sides, where what it is written to has one width
pub answer_alike : (x : ℕ) (names : List (List ℕ)) (width width' : ℕ → ℕ) (ps : List Place) (answer : Answer) → AreAlike width width' ps
    → AnswerStands (setting x names width) (setting x names width') ps answer answer
answer_alike x names width width' ps (Results results outside) alike = (results, results_alike x names width width' ps results alike, refl)
answer_alike x names width width' ps (Leaves block) alike = refl
answer_alike x names width width' ps (Returns words) alike = refl
answer_alike x names width width' ps (Asks callee words) alike = refl
answer_alike x names width width' ps an_answer.Undefined alike = refl

widths_alike : (x : ℕ) (names : List (List ℕ)) (width width' : ℕ → ℕ) (ps : List Place) → AreAlike width width' ps
    → map (width_of_place (setting x names width')) ps ≡ map (width_of_place (setting x names width)) ps
widths_alike x names width width' [] alike = refl
widths_alike x names width width' (Virtual r ∷ ps) alike = ap₂ (λ n ns. n ∷ ns) alike.0 (widths_alike x names width width' ps alike.1)
widths_alike x names width width' (Physical n ∷ ps) alike = ap (λ ns. x ∷ ns) (widths_alike x names width width' ps alike)

pub outside_same : (s t : Setting) (hidden : Place → Bool) (old new : State) → Agree s t hidden old new → outside_of new ≡ outside_of old
outside_same s t hidden old new agree = ap₂ (λ (m : Memory) (k : ℕ). let o : Outside = record { memory = m; taken = k } in o) agree.memory agree.taken

-- what the new instruction does from a state, the old does from one that agrees, or it is undefined
abbrev pub StepFollowed : (s t : Setting) → World → (hidden : Place → Bool) → (exit : ℕ → State → State → Type 0) → (i : InstrData) → (old : State) → (arguments : Option (List Argument)) → (p' : Progress) → Type 0
StepFollowed s t w hidden exit i old arguments p' =
    ((p : Progress) × StepsFrom s w i old arguments p × Stands (Agree s t (all_shown hidden (written_places (meaning_of i.flags i.op) i.operands))) exit p p')
    ⊎ StepsFrom s w i old arguments (Over an_outcome.Undefined)

-- from arguments that are there, the same answer
pub step_stands : (x : ℕ) (names : List (List ℕ)) (width width' : ℕ → ℕ) (w : World) (hidden : Place → Bool) (exit : ℕ → State → State → Type 0)
    → Exits (setting x names width) (setting x names width') hidden exit → (i : InstrData) (old new : State) → Agree (setting x names width) (setting x names width') hidden old new
    → AreAlike width width' (written_places (meaning_of i.flags i.op) i.operands) → (arguments arguments' : Option (List Argument)) → ArgumentsStand arguments arguments'
    → (p' : Progress) → StepsFrom (setting x names width') w i new arguments' p'
    → StepFollowed (setting x names width) (setting x names width') w hidden exit i old arguments p'
step_stands x names width width' w hidden exit exits i old new agree alike None arguments' same p' step = inr refl
step_stands x names width width' w hidden exit exits i old new agree alike (Some arguments) arguments' same p' step =
    let m : Meaning = meaning_of i.flags i.op in
    let places : List Place = written_places m i.operands in
    let stepped : StepsFrom (setting x names width') w i new (Some arguments) p' = subst (λ a. StepsFrom (setting x names width') w i new a p') same step in
    let answer : Answer = stepped.0 in
    inl (
      progress_of old places answer,
      (
        answer,
        subst (λ outside. Act x w m i.mem (map (width_of_place (setting x names width)) places) arguments outside answer)
            (outside_same (setting x names width) (setting x names width') hidden old new agree)
            (subst (λ widths. Act x w m i.mem widths arguments (outside_of new) answer) (widths_alike x names width width' places alike) stepped.1),
        refl,
      ),
      subst (λ p. Stands (Agree (setting x names width) (setting x names width') (all_shown hidden places)) exit (progress_of old places answer) p) (sym stepped.2)
          (progress_stands (setting x names width) (setting x names width') hidden exit exits old new places answer answer (answer_alike x names width width' places answer alike) agree),
    )

-- one instruction and the empty rest
pub alone : (s : Setting) (w : World) (i : ℕ × InstrData) (state : State) (p : Progress) → Steps s w i.1 state p → Executes s w (i ∷ []) state p
alone s w i state p step = (p, step, last p)
  where
    last : (q : Progress) → After q (Executes s w []) q
    last (On state') = refl
    last (Left b state') = refl
    last (Over o) = refl

pub alone_is : (s : Setting) (w : World) (i : ℕ × InstrData) (state : State) (p : Progress) → Executes s w (i ∷ []) state p → Steps s w i.1 state p
alone_is s w i state p run = subst (λ q. Steps s w i.1 state q) (last run.0 p run.2) run.1
  where
    last : (next q : Progress) → After next (Executes s w []) q → next ≡ q
    last (On state') q h = sym h
    last (Left b state') q h = sym h
    last (Over o) q h = sym h

-- an instruction that reads nothing hidden, and writes places of one width, is followed by itself; what it writes is hidden no longer
pub same_instruction : (x : ℕ) (names : List (List ℕ)) (width width' : ℕ → ℕ) (w : World) (hidden : Place → Bool) (exit : ℕ → State → State → Type 0)
    → Exits (setting x names width) (setting x names width') hidden exit → (i j : ℕ × InstrData) → j.1 ≡ i.1
    → AreSeen hidden width width' (read_places i.1.operands) → AreAlike width width' (written_places (meaning_of i.1.flags i.1.op) i.1.operands)
    → IsFollowed (setting x names width) (setting x names width') w (Agree (setting x names width) (setting x names width') hidden)
    (Agree (setting x names width) (setting x names width') (all_shown hidden (written_places (meaning_of i.1.flags i.1.op) i.1.operands))) exit (i ∷ []) (j ∷ [])
same_instruction x names width width' w hidden exit exits i j same seen alike = record {
  by = λ old new agree p' run.
      let step : Steps (setting x names width') w i.1 new p' = subst (λ d. Steps (setting x names width') w d new p') same (alone_is (setting x names width') w j new p' run) in
      ⊎_elim
      (λ stood. inl (stood.0, alone (setting x names width) w i old stood.0 stood.1, stood.2))
      (λ undefined. inr (alone (setting x names width) w i old (Over an_outcome.Undefined) undefined))
      (step_stands x names width width' w hidden exit exits i.1 old new agree alike
      (arguments_of (setting x names width) w old i.1.operands) (arguments_of (setting x names width') w new i.1.operands)
      (arguments_stand x names width width' w hidden old new agree i.1.operands seen) p' step);
}
