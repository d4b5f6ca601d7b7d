-- An instruction of words is followed by itself where its registers become words.
use Rattle.std.proofs.Common.{◌≡◌, ℕ, ◌≤◌, Bool, true, false, if◌then◌else◌, List, [], ◌∷◌, map, Option, ⊎_elim, refl, sym, ap, subst}
use Rattle.gi_mir.specs.Data.{InstrData}
use Rattle.gi_mir.specs.declared.operand.MemOp.{MemOp}
use Rattle.gi_meaning.specs.Argument.{Argument, Value, To}
use Rattle.gi_meaning.specs.Given.{Given}
use Rattle.gi_meaning.specs.State.{World, Outside, AreBytes, Place}
use Rattle.gi_meaning.specs.Meaning.{Meaning, Copying, Generic, Machine, Loading, Storing, MachineLoading, MachineStoring, Jumping, Branching, MachineBranching, Calling, Returning, Nothing, Joining, meaning_of}
use Rattle.gi_meaning.specs.Act.{Answer, Results, Leaves, Returns, Asks, Undefined, AnswersWords, AllReadAs, machine_load, machine_branch, Act}
use Rattle.gi_meaning.specs.Runs.{Setting, width_of_place}
use Rattle.gi_refine.specs.Agreement.{setting}
use Rattle.gi_refine.specs.Worded.{is_worded}
use Rattle.gi_refine.proofs.Agreeing.{ResultsStand, AnswerStands}
use Rattle.gi_refine.proofs.Targets.{machine_stores_have}
use Rattle.gi_refine.proofs.SizedAnswers.{machine_load_small, IsPlain, plain_or_free, reads_small}
use Rattle.gi_refine.proofs.SizedOperations.{AreSmall, IsBounded, meaning_bounded}
use Rattle.gi_refine.proofs.WordingValues.{AllArgumentsWorded, all_read_worded, all_reads_itself, PlacesWorded, ActsWorded, words_answered, copy_worded, free_worded}

-- ══ The meanings ══

-- an answer without results is the same on both sides
abbrev HasNoResults : Answer → Type 0
HasNoResults (Results results outside) = results ≡ []
HasNoResults _ = Unit {0}

nothing_stands : (s t : Setting) (ps : List Place) → ResultsStand s t ps [] []
nothing_stands s t [] = tt
nothing_stands s t (p ∷ ps) = tt

same_answer : (s t : Setting) (ps : List Place) (a : Answer) → HasNoResults a → AnswerStands s t ps a a
same_answer s t ps (Results results outside) none =
    ([], subst (λ vs. ResultsStand s t ps vs []) (sym none) (nothing_stands s t ps), ap (λ vs. Results vs outside) none)
same_answer s t ps (Leaves c) none = refl
same_answer s t ps (Returns words) none = refl
same_answer s t ps (Asks callee words) none = refl
same_answer s t ps Undefined none = refl

branch_no_results : (x : ℕ) (test : ℕ → ℕ → ℕ → Bool) (arguments : List Argument) (outside : Outside) → HasNoResults (machine_branch x test arguments outside)
branch_no_results x test (Value l v ∷ Value m u ∷ To b ∷ []) outside = either (test x v u)
  where
    either : (c : Bool) → HasNoResults (if c then Leaves b else Results [] outside)
    either true = tt
    either false = refl
branch_no_results x test _ outside = tt

-- read as words
read_as : (x : ℕ) (olds news words : List Argument) → AllArgumentsWorded x olds news → AllReadAs x news words → AllReadAs x olds words
read_as x olds news words args reads = subst (AllReadAs x olds) (sym (all_reads_itself x olds news words args reads)) (all_read_worded x olds news args)

-- meanings that have virtual registers
abbrev pub HasValues : Meaning → Type 0
HasValues Jumping = ⊥
HasValues Calling = ⊥
HasValues Returning = ⊥
HasValues Nothing = ⊥
HasValues _ = Unit {0}

plain_worded : (x : ℕ) (names : List (List ℕ)) (width width' : ℕ → ℕ) (w : World) (m : Meaning) → IsPlain m → HasValues m → IsBounded x m → (mem : Option MemOp) (ps : List Place) → PlacesWorded (setting x names width) (setting x names width') ps
    → (olds news : List Argument) → AllArgumentsWorded x olds news → AreSmall x news → (outside : Outside) → AreBytes outside.memory → (answer' : Answer)
    → Act x w m mem (map (width_of_place (setting x names width')) ps) news outside answer' → ActsWorded x names width width' w m mem ps olds outside answer'
plain_worded x names width width' w Copying plain values bounded mem ps worded olds news args small outside bytes answer' act = copy_worded x names width width' ps worded olds news args outside answer' act
plain_worded x names width width' w (Generic gives) plain values bounded mem ps worded olds news args small outside bytes answer' act = absurd plain
plain_worded x names width width' w (Machine gives) plain values bounded mem ps worded olds news args small outside bytes answer' act =
    let done : (answer : Answer) × AnswersWords x (map (width_of_place (setting x names width)) ps) (gives x act.0) outside answer × AnswerStands (setting x names width) (setting x names width') ps answer answer' =
    words_answered x names width width' ps worded (gives x act.0) (bounded act.0 (reads_small x news act.0 small act.1)) outside answer' act.2 in
    (done.0, (act.0, read_as x olds news act.0 args act.1, done.1), done.2)
plain_worded x names width width' w (Loading extension) plain values bounded mem ps worded olds news args small outside bytes answer' act = absurd plain
plain_worded x names width width' w Storing plain values bounded mem ps worded olds news args small outside bytes answer' act = absurd plain
plain_worded x names width width' w (MachineLoading exists k extension) plain values bounded mem ps worded olds news args small outside bytes answer' act =
    let g : Given = machine_load x exists k extension act.0 outside.memory in
    let done : (answer : Answer) × AnswersWords x (map (width_of_place (setting x names width)) ps) g outside answer × AnswerStands (setting x names width) (setting x names width') ps answer answer' =
    words_answered x names width width' ps worded g (machine_load_small x exists k extension act.0 outside.memory bounded bytes) outside answer' act.2 in
    (done.0, (act.0, read_as x olds news act.0 args act.1, done.1), done.2)
plain_worded x names width width' w (MachineStoring exists k) plain values bounded mem ps worded olds news args small outside bytes answer' act = (
  answer',
  (act.0, read_as x olds news act.0 args act.1, act.2),
  same_answer (setting x names width) (setting x names width') ps answer' (machine_stores_have HasNoResults tt (λ o. refl) x exists k act.0 outside answer' act.2),
)
plain_worded x names width width' w Jumping plain values bounded mem ps worded olds news args small outside bytes answer' act = absurd values
plain_worded x names width width' w Branching plain values bounded mem ps worded olds news args small outside bytes answer' act = absurd plain
plain_worded x names width width' w (MachineBranching test) plain values bounded mem ps worded olds news args small outside bytes answer' act = (
  answer',
  (act.0, read_as x olds news act.0 args act.1, act.2),
  same_answer (setting x names width) (setting x names width') ps answer' (subst HasNoResults (sym act.2) (branch_no_results x test act.0 outside)),
)
plain_worded x names width width' w Calling plain values bounded mem ps worded olds news args small outside bytes answer' act = absurd values
plain_worded x names width width' w Returning plain values bounded mem ps worded olds news args small outside bytes answer' act = absurd values
plain_worded x names width width' w Nothing plain values bounded mem ps worded olds news args small outside bytes answer' act = absurd values
plain_worded x names width width' w Joining plain values bounded mem ps worded olds news args small outside bytes answer' act = absurd plain

pub acts_worded : (x : ℕ) → 32 ≤ x → (names : List (List ℕ)) (width width' : ℕ → ℕ) (w : World) (i : InstrData) → is_worded i ≡ true → HasValues (meaning_of i.flags i.op) → (mem : Option MemOp) (ps : List Place)
    → PlacesWorded (setting x names width) (setting x names width') ps → (olds news : List Argument) → AllArgumentsWorded x olds news → AreSmall x news → (outside : Outside) → AreBytes outside.memory → (answer' : Answer)
    → Act x w (meaning_of i.flags i.op) mem (map (width_of_place (setting x names width')) ps) news outside answer' → ActsWorded x names width width' w (meaning_of i.flags i.op) mem ps olds outside answer'
acts_worded x wide names width width' w i is_word values mem ps worded olds news args small outside bytes answer' act = ⊎_elim
    (λ is. subst (λ m. ActsWorded x names width width' w m mem ps olds outside answer') (sym is)
    (free_worded x names width width' ps worded olds news args outside answer'
    (subst (λ m. Act x w m mem (map (width_of_place (setting x names width')) ps) news outside answer') is act)))
    (λ plain. plain_worded x names width width' w (meaning_of i.flags i.op) plain values (meaning_bounded x wide i.flags i.op) mem ps worded olds news args small outside bytes answer' act)
    (plain_or_free i.flags i.op i.operands is_word)
