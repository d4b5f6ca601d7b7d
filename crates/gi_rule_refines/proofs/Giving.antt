-- An instruction that only gives results comes to something from each state, and changes its own registers alone.
use Rattle.std.proofs.Common.{◌≡◌, ℕ, Bool, true, false, cond, ◌==◌, List, [], ◌∷◌, Option, Some, None, map, inl, inr, ⊎_elim, ◌⊎◌, refl, sym, ap, ◌∙◌, subst, true≢false}
use Rattle.std.proofs.lemmas.Bool.{or_left, or_right, eq-eqb, eqb-true, false_from_ne_true}
use Rattle.std.specs.List.{list_any}
use Rattle.gi_mir.specs.Data.{InstrData}
use Rattle.gi_mir.specs.Edit.{is_def_of}
use Rattle.gi_mir.specs.Formed.{is_physical_def}
use Rattle.gi_mir.specs.declared.operand.MemOp.{MemOp}
use Rattle.gi_mir.specs.declared.operand.Operand.{Operand}
use Rattle.gi_mir.specs.declared.operand.Operand.TheVariants as operand
use Rattle.gi_meaning.specs.Act.{Act, Answer, Answers, AnswersWords, Asks, Leaves, Results, Returns, copy, generic_load, machine_load}
use Rattle.gi_meaning.specs.Act as an_answer
use Rattle.gi_meaning.specs.Argument.{Argument}
use Rattle.gi_meaning.specs.Given.{Given, Exactly, LowBits}
use Rattle.gi_meaning.specs.Given as a_given
use Rattle.gi_meaning.specs.Meaning.{Meaning, Copying, Generic, Machine, Loading, MachineLoading, Joining, meaning_of}
use Rattle.gi_meaning.specs.Runs.{On, Over, Setting, Steps, StepsFrom, arguments_of, going_on, places_of, put_all, width_of_place, written_places}
use Rattle.gi_meaning.specs.State.{Outside, Place, Physical, State, Virtual, World, outside_of, put}
use Rattle.gi_meaning.specs.State as an_outcome
use Rattle.gi_meaning.proofs.NeverStuck.{OpenMeaning, answers_there, copy_open, generic_load_open, machine_load_open, open_meaning, reads_there, words_there}
use Rattle.gi_refine.specs.Agreement.{Agree, ValueStands}
use Rattle.gi_refine.specs.OnePlace.{only_virtual}
use Rattle.gi_rule_refines.specs.Dead.{only_gives}

-- ══ What it answers ══

-- results, with what was outside, or that it is undefined
abbrev IsPlain : (outside : Outside) → Answer → Type 0
IsPlain outside (Results results other) = other ≡ outside
IsPlain outside (Leaves block) = ⊥
IsPlain outside (Returns words) = ⊥
IsPlain outside (Asks callee words) = ⊥
IsPlain outside an_answer.Undefined = Unit {0}

plain_answer : (g : Given) (outside : Outside) (answer : Answer) → Answers g outside answer → IsPlain outside answer
plain_answer (Exactly results) outside answer h = subst (IsPlain outside) (sym h.2) refl
plain_answer (LowBits known width value) outside answer h = subst (IsPlain outside) (sym h.2) refl
plain_answer a_given.Undefined outside answer h = subst (IsPlain outside) (sym h) tt

plain_words : (x : ℕ) (widths : List ℕ) (g : Given) (outside : Outside) (answer : Answer) → AnswersWords x widths g outside answer → IsPlain outside answer
plain_words x widths (Exactly results) outside answer h = subst (IsPlain outside) (sym h.2) refl
plain_words x widths (LowBits known width value) outside answer h = subst (IsPlain outside) (sym h.2) refl
plain_words x widths a_given.Undefined outside answer h = subst (IsPlain outside) (sym h) tt

record ActsPlainly (x : ℕ) (w : World) (m : Meaning) (mem : Option MemOp) (widths : List ℕ) (arguments : List Argument) (outside : Outside) : Type 0 where
  answer : Answer
  acts : Act x w m mem widths arguments outside answer
  plain : IsPlain outside answer

acts_plainly : (x : ℕ) (w : World) (m : Meaning) (mem : Option MemOp) (widths : List ℕ) (arguments : List Argument) (outside : Outside) → OpenMeaning m → only_gives m ≡ true → ActsPlainly x w m mem widths arguments outside
acts_plainly x w Copying mem widths arguments outside fits gives =
    let there = answers_there (copy widths arguments) outside (copy_open widths arguments) in
    record { answer = there.0; acts = there.1; plain = plain_answer (copy widths arguments) outside there.0 there.1 }
acts_plainly x w (Generic given) mem widths arguments outside fits gives =
    let there = answers_there (given widths arguments) outside (fits widths arguments) in
    record { answer = there.0; acts = there.1; plain = plain_answer (given widths arguments) outside there.0 there.1 }
acts_plainly x w (Machine given) mem widths arguments outside fits gives =
    let read = reads_there x arguments in
    let there = words_there x widths (given x read.0) outside (fits x read.0) in
    record { answer = there.0; acts = (read.0, read.1, there.1); plain = plain_words x widths (given x read.0) outside there.0 there.1 }
acts_plainly x w (Loading extension) mem widths arguments outside fits gives =
    let g : Given = generic_load x extension mem widths arguments outside.memory in
    let there = answers_there g outside (generic_load_open x extension mem widths arguments outside.memory) in
    record { answer = there.0; acts = there.1; plain = plain_answer g outside there.0 there.1 }
acts_plainly x w (MachineLoading exists bytes extension) mem widths arguments outside fits gives =
    let read = reads_there x arguments in
    let g : Given = machine_load x exists bytes extension read.0 outside.memory in
    let there = words_there x widths g outside (machine_load_open x exists bytes extension read.0 outside.memory) in
    record { answer = there.0; acts = (read.0, read.1, there.1); plain = plain_words x widths g outside there.0 there.1 }
acts_plainly x w Joining mem widths arguments outside fits gives = record { answer = an_answer.Undefined; acts = refl; plain = tt }
acts_plainly x w _ mem widths arguments outside fits gives = cc

-- ══ What it writes ══

abbrev pub AllHidden : (hidden : Place → Bool) → List Place → Type 0
AllHidden hidden [] = Unit {0}
AllHidden hidden (p ∷ ps) = (hidden p ≡ true) × AllHidden hidden ps

pub places_hidden : (hidden : ℕ → Bool) (os : List Operand) → list_any is_physical_def os ≡ false → ((r : ℕ) → list_any (is_def_of r) os ≡ true → hidden r ≡ true) → AllHidden (only_virtual hidden) (places_of os)
places_hidden hidden [] none defined = tt
places_hidden hidden (operand.Def q kind ∷ os) none defined =
    (defined q.0 (or_left (q.0 == q.0) (list_any (is_def_of q.0) os) (eq-eqb q.0 q.0 refl)), places_hidden hidden os none (λ r own. defined r (or_right (q.0 == r) (list_any (is_def_of r) os) own)))
places_hidden hidden (operand.PhysDef n ∷ os) none defined = cc
places_hidden hidden (_ ∷ os) none defined = places_hidden hidden os none defined

-- a write to a hidden place isn't seen
pub put_hidden : (s t : Setting) (hidden : Place → Bool) (old new : State) (p : Place) (v : ℕ) → hidden p ≡ true → Agree s t hidden old new → Agree s t hidden (put old p v) new
put_hidden s t hidden old new (Virtual q) v own agree = record {
  values = λ r seen. subst (λ (b : Bool). ValueStands s.x (s.width r) (t.width r) (cond b (Some v) (old.values r)) (new.values r)) (sym (apart r seen)) (agree.values r seen);
  words = agree.words;
  memory = agree.memory;
  taken = agree.taken;
}
  where
    apart : (r : ℕ) → hidden (Virtual r) ≡ false → (r == q) ≡ false
    apart r seen = false_from_ne_true (r == q) (λ same. true≢false (sym own ∙ ap (λ k. hidden (Virtual k)) (sym (eqb-true r q same)) ∙ seen))
put_hidden s t hidden old new (Physical m) v own agree = record {
  values = agree.values;
  words = λ n seen. subst (λ (b : Bool). new.words n ≡ cond b v (old.words n)) (sym (apart n seen)) (agree.words n seen);
  memory = agree.memory;
  taken = agree.taken;
}
  where
    apart : (n : ℕ) → hidden (Physical n) ≡ false → (n == m) ≡ false
    apart n seen = false_from_ne_true (n == m) (λ same. true≢false (sym own ∙ ap (λ k. hidden (Physical k)) (sym (eqb-true n m same)) ∙ seen))

-- nor are several
put_all_hidden : (s t : Setting) (hidden : Place → Bool) (old new : State) (ps : List Place) (vs : List ℕ) → AllHidden hidden ps → Agree s t hidden old new
    → ((next : State) × (put_all old ps vs ≡ Some next) × Agree s t hidden next new) ⊎ (put_all old ps vs ≡ None)
put_all_hidden s t hidden old new [] [] own agree = inl (old, refl, agree)
put_all_hidden s t hidden old new [] (v ∷ vs) own agree = inr refl
put_all_hidden s t hidden old new (p ∷ ps) [] own agree = inr refl
put_all_hidden s t hidden old new (p ∷ ps) (v ∷ vs) own agree = put_all_hidden s t hidden (put old p v) new ps vs own.1 (put_hidden s t hidden old new p v own.0 agree)

written_is : (m : Meaning) (os : List Operand) → only_gives m ≡ true → written_places m os ≡ places_of os
written_is Copying os gives = refl
written_is (Generic given) os gives = refl
written_is (Machine given) os gives = refl
written_is (Loading extension) os gives = refl
written_is (MachineLoading exists bytes extension) os gives = refl
written_is Joining os gives = refl
written_is _ os gives = cc

-- ══ A step ══

-- from states that agree it goes on to one that agrees still, or it is undefined
pub goes_on : (s t : Setting) (w : World) (i : InstrData) (hidden : Place → Bool) (old new : State) → only_gives (meaning_of i.flags i.op) ≡ true → AllHidden hidden (places_of i.operands) → Agree s t hidden old new
    → ((next : State) × Steps s w i old (On next) × Agree s t hidden next new) ⊎ Steps s w i old (Over an_outcome.Undefined)
goes_on s t w i hidden old new gives own agree = by (arguments_of s w old i.operands)
  where
    m : Meaning
    m = meaning_of i.flags i.op

    places : List Place
    places = written_places (meaning_of i.flags i.op) i.operands

    all_own : AllHidden hidden (written_places (meaning_of i.flags i.op) i.operands)
    all_own = subst (AllHidden hidden) (sym (written_is (meaning_of i.flags i.op) i.operands gives)) own

    from : (arguments : List Argument) (answer : Answer) → Act s.x w m i.mem (map (width_of_place s) places) arguments (outside_of old) answer → IsPlain (outside_of old) answer
        → ((next : State) × StepsFrom s w i old (Some arguments) (On next) × Agree s t hidden next new) ⊎ StepsFrom s w i old (Some arguments) (Over an_outcome.Undefined)
    from arguments (Results results outside) acts plain =
        let here : State = record old { memory = outside.memory; taken = outside.taken } in
        let still : Agree s t hidden here new = record { values = agree.values; words = agree.words; memory = agree.memory ∙ ap (λ k. k.memory) (sym plain); taken = agree.taken ∙ ap (λ k. k.taken) (sym plain) } in
        ⊎_elim
        (λ put. inl (put.0, (Results results outside, acts, ap going_on (sym put.1)), put.2))
        (λ none. inr (Results results outside, acts, ap going_on (sym none)))
        (put_all_hidden s t hidden here new places results all_own still)
    from arguments (Leaves block) acts plain = absurd plain
    from arguments (Returns words) acts plain = absurd plain
    from arguments (Asks callee words) acts plain = absurd plain
    from arguments an_answer.Undefined acts plain = inr (an_answer.Undefined, acts, refl)

    by : (arguments : Option (List Argument)) → ((next : State) × StepsFrom s w i old arguments (On next) × Agree s t hidden next new) ⊎ StepsFrom s w i old arguments (Over an_outcome.Undefined)
    by None = inr refl
    by (Some arguments) =
        let a = acts_plainly s.x w m i.mem (map (width_of_place s) places) arguments (outside_of old) (open_meaning i.flags i.op) gives in
        from arguments a.answer a.acts a.plain
