-- The example returns the sum of its two words, before and after selection, and does nothing else.
use Rattle.std.proofs.Common.{◌≡◌, ℕ, suc, List, [], ◌∷◌, drop, refl, ap, ◌∙◌, subst}
use Rattle.gi_llt.specs.declared.Llt.TheVariants.{Scalar}
use Rattle.gi_spelling.specs.AddExample.{block_of}
use Rattle.gi_mir.specs.Data.{InstrData}
use Rattle.gi_mir.specs.declared.opcode.Opcode.TheVariants.{GenericAdd, Add}
use Rattle.gi_mir.specs.declared.operand.Kind.TheVariants.{Banked, Class}
use Rattle.gi_meaning.specs.Argument.{Argument, Value}
use Rattle.gi_meaning.specs.Given.{one}
use Rattle.gi_meaning.specs.State.{World, State, Outside, outside_of, Outcome, Returned, Place, Virtual, Physical, put, start}
use Rattle.gi_meaning.specs.Act.{Answer, Results, Returns, Answers, AllReadAs}
use Rattle.gi_meaning.specs.Runs.{Setting, setting_of, Progress, On, Over, After, Executes, Follows, Enters, progress_of, Runs}
use Rattle.gi_answer.specs.AddRuns.{names, before, after, sum_in}
use Rattle.gi_answer.proofs.MachineSums.{sum_answers}

-- an operation that gives one value answers that
answer_one : (v : ℕ) (outside : Outside) (a : Answer) → Answers (one v) outside a → a ≡ Results (v ∷ []) outside
answer_one v outside a h = h.2 ∙ ap (λ rs. Results rs outside) h.1

-- so the run goes on in one state
goes_on : (state : State) (places : List Place) (v : ℕ) (outside : Outside) (a : Answer) (next : Progress) (rest : State → Progress → Type 0) (p : Progress) (state' : State)
    → a ≡ Results (v ∷ []) outside → next ≡ progress_of state places a → progress_of state places (Results (v ∷ []) outside) ≡ On state' → After next rest p → rest state' p
goes_on state places v outside a next rest p state' given made on run =
    subst (λ n. After n rest p) (made ∙ ap (progress_of state places) given ∙ on) run

-- the states on the way
abbrev s1 : World → State
s1 w = put (start w) (Virtual 0) (w.words 10)

abbrev s2 : World → State
s2 w = put (s1 w) (Virtual 1) (w.words 11)

abbrev s3 : World → State
s3 w = put (s2 w) (Virtual 2) (sum_in w)

abbrev s4 : World → State
s4 w = put (s3 w) (Physical 10) (sum_in w)

abbrev here : World → Setting
here w = setting_of 32 names before

abbrev instrs : List (ℕ × InstrData)
instrs = (block_of (Banked (Scalar 32)) GenericAdd).instrs

abbrev here_after : World → Setting
here_after w = setting_of 32 names after

abbrev instrs_after : List (ℕ × InstrData)
instrs_after = (block_of Class Add).instrs

-- the outcome of a last step that returns
over_at : (state : State) (places : List Place) (words : List ℕ) (a : Answer) (next p : Progress) (rest : State → Progress → Type 0)
    → a ≡ Returns words → next ≡ progress_of state places a → After next rest p → p ≡ Over (Returned words state.memory state.taken)
over_at state places words a next p rest answered made run = subst (λ n. After n rest p) (made ∙ ap (progress_of state places) answered) run

pub returns_only : (w : World) (n : ℕ) (o : Outcome) → Runs 32 names before w (suc n) o → o ≡ Returned (sum_in w ∷ []) w.memory 0
returns_only w n o run =
    let p : Progress = run.0 in
    let e1 : Executes (here w) w instrs (start w) p = run.1 in
    let e2 : Executes (here w) w (drop 1 instrs) (s1 w) p =
    goes_on (start w) (Virtual 0 ∷ []) (w.words 10) (outside_of (start w)) e1.1.0 e1.0 (Executes (here w) w (drop 1 instrs)) p (s1 w) (answer_one (w.words 10) (outside_of (start w)) e1.1.0 e1.1.1) e1.1.2 refl e1.2 in
    let e3 : Executes (here w) w (drop 2 instrs) (s2 w) p =
    goes_on (s1 w) (Virtual 1 ∷ []) (w.words 11) (outside_of (s1 w)) e2.1.0 e2.0 (Executes (here w) w (drop 2 instrs)) p (s2 w) (answer_one (w.words 11) (outside_of (s1 w)) e2.1.0 e2.1.1) e2.1.2 refl e2.2 in
    let e4 : Executes (here w) w (drop 3 instrs) (s3 w) p =
    goes_on (s2 w) (Virtual 2 ∷ []) (sum_in w) (outside_of (s2 w)) e3.1.0 e3.0 (Executes (here w) w (drop 3 instrs)) p (s3 w) (answer_one (sum_in w) (outside_of (s2 w)) e3.1.0 e3.1.1) e3.1.2 refl e3.2 in
    let e5 : Executes (here w) w (drop 4 instrs) (s4 w) p =
    goes_on (s3 w) (Physical 10 ∷ []) (sum_in w) (outside_of (s3 w)) e4.1.0 e4.0 (Executes (here w) w (drop 4 instrs)) p (s4 w) (answer_one (sum_in w) (outside_of (s3 w)) e4.1.0 e4.1.1) e4.1.2 refl e4.2 in
    let over : p ≡ Over (Returned (sum_in w ∷ []) w.memory 0) =
    over_at (s4 w) [] (sum_in w ∷ []) e5.1.0 e5.0 p (Executes (here w) w []) e5.1.1 e5.1.2 e5.2 in
    subst (λ q. Follows 0 [] (Enters (here w) w before.blocks n) q o) over run.2

pub returns : (w : World) (n : ℕ) → Runs 32 names before w (suc n) (Returned (sum_in w ∷ []) w.memory 0)
returns w n =
    let out : Outside = outside_of (start w) in (
      Over (Returned (sum_in w ∷ []) w.memory 0),
      (
        On (s1 w),
        (Results (w.words 10 ∷ []) out, (w.words 10 ∷ [], refl, refl), refl),
        (
          On (s2 w),
          (Results (w.words 11 ∷ []) out, (w.words 11 ∷ [], refl, refl), refl),
          (
            On (s3 w),
            (Results (sum_in w ∷ []) out, (sum_in w ∷ [], refl, refl), refl),
            (
              On (s4 w),
              (Results (sum_in w ∷ []) out, (sum_in w ∷ [], refl, refl), refl),
              (Over (Returned (sum_in w ∷ []) w.memory 0), (Returns (sum_in w ∷ []), refl, refl), refl),
            ),
          ),
        ),
      ),
      refl,
    )

pub returns_after : (w : World) (n : ℕ) → Runs 32 names after w (suc n) (Returned (sum_in w ∷ []) w.memory 0)
returns_after w n =
    let out : Outside = outside_of (start w) in
    let words : List Argument = Value 32 (w.words 10) ∷ Value 32 (w.words 11) ∷ [] in
    let read : AllReadAs 32 words words =
    (Value 32 (w.words 10), Value 32 (w.words 11) ∷ [], refl, (Value 32 (w.words 11), [], refl, refl, refl), refl) in (
      Over (Returned (sum_in w ∷ []) w.memory 0),
      (
        On (s1 w),
        (Results (w.words 10 ∷ []) out, (w.words 10 ∷ [], refl, refl), refl),
        (
          On (s2 w),
          (Results (w.words 11 ∷ []) out, (w.words 11 ∷ [], refl, refl), refl),
          (
            On (s3 w),
            (Results (sum_in w ∷ []) out, (words, read, (sum_in w ∷ [], refl, refl)), refl),
            (
              On (s4 w),
              (Results (sum_in w ∷ []) out, (sum_in w ∷ [], refl, refl), refl),
              (Over (Returned (sum_in w ∷ []) w.memory 0), (Returns (sum_in w ∷ []), refl, refl), refl),
            ),
          ),
        ),
      ),
      refl,
    )

pub returns_only_after : (w : World) (n : ℕ) (o : Outcome) → Runs 32 names after w (suc n) o → o ≡ Returned (sum_in w ∷ []) w.memory 0
returns_only_after w n o run =
    let p : Progress = run.0 in
    let e1 : Executes (here_after w) w instrs_after (start w) p = run.1 in
    let e2 : Executes (here_after w) w (drop 1 instrs_after) (s1 w) p =
    goes_on (start w) (Virtual 0 ∷ []) (w.words 10) (outside_of (start w)) e1.1.0 e1.0 (Executes (here_after w) w (drop 1 instrs_after)) p (s1 w) (answer_one (w.words 10) (outside_of (start w)) e1.1.0 e1.1.1) e1.1.2 refl e1.2 in
    let e3 : Executes (here_after w) w (drop 2 instrs_after) (s2 w) p =
    goes_on (s1 w) (Virtual 1 ∷ []) (w.words 11) (outside_of (s1 w)) e2.1.0 e2.0 (Executes (here_after w) w (drop 2 instrs_after)) p (s2 w) (answer_one (w.words 11) (outside_of (s1 w)) e2.1.0 e2.1.1) e2.1.2 refl e2.2 in
    let e4 : Executes (here_after w) w (drop 3 instrs_after) (s3 w) p =
    goes_on (s2 w) (Virtual 2 ∷ []) (sum_in w) (outside_of (s2 w)) e3.1.0 e3.0 (Executes (here_after w) w (drop 3 instrs_after)) p (s3 w) (sum_answers w (w.words 10) (w.words 11) (outside_of (s2 w)) e3.1.0 e3.1.1) e3.1.2 refl e3.2 in
    let e5 : Executes (here_after w) w (drop 4 instrs_after) (s4 w) p =
    goes_on (s3 w) (Physical 10 ∷ []) (sum_in w) (outside_of (s3 w)) e4.1.0 e4.0 (Executes (here_after w) w (drop 4 instrs_after)) p (s4 w) (answer_one (sum_in w) (outside_of (s3 w)) e4.1.0 e4.1.1) e4.1.2 refl e4.2 in
    let over : p ≡ Over (Returned (sum_in w ∷ []) w.memory 0) =
    over_at (s4 w) [] (sum_in w ∷ []) e5.1.0 e5.0 p (Executes (here_after w) w []) e5.1.1 e5.1.2 e5.2 in
    subst (λ q. Follows 0 [] (Enters (here_after w) w after.blocks n) q o) over run.2
