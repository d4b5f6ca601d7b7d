-- Operations on values and the instructions that show them make the same, in states whose registers have the values.
use Rattle.std.proofs.Common.{◌≡◌, ℕ, Bool, true, false, cond, ◌==◌, not, ◌||◌, List, [], ◌∷◌, ◌++◌, map, Option, Some, None, refl, sym, ap, ◌∙◌, subst, eq-eqb}
use Rattle.std.proofs.lemmas.Bool.{and_parts, eqb-false, ne_eqb, not-true, or_parts}
use Rattle.gi_mir.specs.Data.{InstrData}
use Rattle.gi_meaning.specs.State.{World, State, Outside, outside_of, Virtual, put}
use Rattle.gi_meaning.specs.State as an_outcome
use Rattle.gi_meaning.specs.Meaning.{meaning_of}
use Rattle.gi_meaning.specs.Act.{Answer, Results, Leaves, Returns, Asks}
use Rattle.gi_meaning.specs.Act as an_answer
use Rattle.gi_meaning.specs.Runs.{Setting, put_all, Progress, On, Over, going_on, progress_of, After, Executes, is_among}
use Rattle.gi_refine.specs.Values.{Environment, Operation, is_pure, are_pure, arguments_at, ActsFrom, appended, answered, Then, Makes}
use Rattle.gi_refine.specs.Lifting.{Shows, grown, all_grown, AllShow, are_fresh, are_all_fresh, is_result, Reads}
use Rattle.gi_refine.proofs.Basics.{value_stays}
use Rattle.gi_refine.proofs.ValuesStepped.{IsPlain, acts_plain, parts, steps_as_operation, operation_steps, Answering, answering, stepping}

-- ══ States after results ══

-- a state that came of another by writing results: the registers read so, and the rest is as before
pub record Became (width : ℕ → ℕ) (state : State) (is_written : ℕ → Bool) (registers : List ℕ) (env : Environment) (final : State) : Type 0 where
  pub reads : Reads width final.values registers env
  pub kept : (r : ℕ) → is_written r ≡ false → final.values r ≡ state.values r
  pub words : final.words ≡ state.words
  pub outside : outside_of final ≡ outside_of state

abbrev pub Settled : (width : ℕ → ℕ) (state : State) (is_written : ℕ → Bool) (registers : List ℕ) → Progress → Option Environment → Type 0
Settled width state is_written registers p None = p ≡ Over an_outcome.Undefined
Settled width state is_written registers p (Some env) = (final : State) × (p ≡ On final) × Became width state is_written registers env final

reads_put : (width : ℕ → ℕ) (values : ℕ → Option ℕ) (r v : ℕ) (rs : List ℕ) (env : Environment) → is_among r rs ≡ false → Reads width values rs env
    → Reads width (λ q. cond (q == r) (Some v) (values q)) (rs ++ r ∷ []) (env ++ (width r, v) ∷ [])
reads_put width values r v [] [] fresh reads = (refl, ap (λ b. cond b (Some v) (values r)) (eq-eqb r r refl), tt)
reads_put width values r v [] (entry ∷ env) fresh reads = absurd reads
reads_put width values r v (q ∷ rs) [] fresh reads = absurd reads
reads_put width values r v (q ∷ rs) (entry ∷ env) fresh reads = (
  reads.0,
  value_stays (q == r) v (values q) (ne_eqb q r (λ e. eqb-false r q (or_parts (r == q) (is_among r rs) fresh).0 (sym e))) ∙ reads.1,
  reads_put width values r v rs env (or_parts (r == q) (is_among r rs) fresh).1 reads.2,
)

-- what became of a state that came of another by writes among those that are counted
settled_moved : (width : ℕ → ℕ) (state middle : State) (before counted : ℕ → Bool) (rs : List ℕ) → ((r : ℕ) → counted r ≡ false → middle.values r ≡ state.values r) → middle.words ≡ state.words
    → outside_of middle ≡ outside_of state → ((r : ℕ) → counted r ≡ false → before r ≡ false) → (p : Progress) (m : Option Environment) → Settled width middle before rs p m → Settled width state counted rs p m
settled_moved width state middle before counted rs kept words outside fewer p None settled = settled
settled_moved width state middle before counted rs kept words outside fewer p (Some env) settled = (
  settled.0,
  settled.1,
  record {
    reads = settled.2.reads;
    kept = λ r h. settled.2.kept r (fewer r h) ∙ kept r h;
    words = settled.2.words ∙ words;
    outside = settled.2.outside ∙ outside;
  },
)

put_all_settled : (width : ℕ → ℕ) (results values rs : List ℕ) (env : Environment) (state : State) → are_fresh rs results ≡ true → Reads width state.values rs env
    → Settled width state (λ r. is_among r results) (grown rs results) (going_on (put_all state (map Virtual results) values)) (appended env (map width results) values)
put_all_settled width [] [] rs env state fresh reads = (state, refl, record { reads = reads; kept = λ r h. refl; words = refl; outside = refl })
put_all_settled width [] (v ∷ vs) rs env state fresh reads = refl
put_all_settled width (r ∷ results) [] rs env state fresh reads = refl
put_all_settled width (r ∷ results) (v ∷ vs) rs env state fresh reads =
    settled_moved width state (put state (Virtual r) v) (λ q. is_among q results) (λ q. is_among q (r ∷ results)) (grown (rs ++ r ∷ []) results)
    (λ q h. value_stays (q == r) v (state.values q) (or_parts (q == r) (is_among q results) h).0) refl refl
    (λ q h. (or_parts (q == r) (is_among q results) h).1) _ _
    (put_all_settled width results vs (rs ++ r ∷ []) (env ++ (width r, v) ∷ []) (put state (Virtual r) v)
    (and_parts (not (is_among r rs)) (are_fresh (rs ++ r ∷ []) results) fresh).1
    (reads_put width state.values r v rs env (not-true (is_among r rs) (and_parts (not (is_among r rs)) (are_fresh (rs ++ r ∷ []) results) fresh).0) reads))

settle_widths : (width : ℕ → ℕ) (results rs : List ℕ) (env : Environment) (state : State) (answer : Answer) → are_fresh rs results ≡ true → Reads width state.values rs env
    → IsPlain (outside_of state) answer
    → Settled width state (λ r. is_among r results) (grown rs results) (progress_of state (map Virtual results) answer) (answered env (map width results) answer)
settle_widths width results rs env state (Results values outside) fresh reads plain =
    settled_moved width state (record state { memory = outside.memory; taken = outside.taken }) (λ r. is_among r results) (λ r. is_among r results) (grown rs results)
    (λ r h. refl) refl (ap (λ (o : Outside). outside_of (record state { memory = o.memory; taken = o.taken })) plain) (λ r h. h) _ _
    (put_all_settled width results values rs env (record state { memory = outside.memory; taken = outside.taken }) fresh reads)
settle_widths width results rs env state (Leaves block) fresh reads plain = absurd plain
settle_widths width results rs env state (Returns words) fresh reads plain = absurd plain
settle_widths width results rs env state (Asks callee words) fresh reads plain = absurd plain
settle_widths width results rs env state an_answer.Undefined fresh reads plain = refl

settle : (width : ℕ → ℕ) (results rs widths : List ℕ) (env : Environment) (state : State) (answer : Answer) → map width results ≡ widths → are_fresh rs results ≡ true → Reads width state.values rs env
    → IsPlain (outside_of state) answer
    → Settled width state (λ r. is_among r results) (grown rs results) (progress_of state (map Virtual results) answer) (answered env widths answer)
settle width results rs widths env state answer same fresh reads plain =
    subst (λ ns. Settled width state (λ r. is_among r results) (grown rs results) (progress_of state (map Virtual results) answer) (answered env ns answer)) same
    (settle_widths width results rs env state answer fresh reads plain)

-- ══ Lists of operations ══

-- what instructions did from a state, as operations on values
pub record Forward (width : ℕ → ℕ) (makes : Option Environment → Type 0) (state : State) (is_written : ℕ → Bool) (registers : List ℕ) (p : Progress) : Type 0 where
  pub made : Option Environment
  pub does : makes made
  pub settled : Settled width state is_written registers p made

forward_next : (s : Setting) (w : World) (outside : Outside) (os : List Operation) (rss : List (List ℕ)) (is : List (ℕ × InstrData)) (rs : List ℕ) (written : ℕ → Bool) (state : State) (next p : Progress)
    (m : Option Environment) → Settled s.width state written rs next m → outside_of state ≡ outside
    → ((middle : State) (env : Environment) → outside_of middle ≡ outside → Reads s.width middle.values rs env → Executes s w is middle p
    → Forward s.width (Makes s.x w outside os env) middle (λ r. is_result r rss) (all_grown rs rss) p)
    → After next (Executes s w is) p
    → Forward s.width (Then m (Makes s.x w outside os)) state (λ r. written r || is_result r rss) (all_grown rs rss) p
forward_next s w outside os rss is rs written state next p None settled here rest run = record {
  made = None;
  does = refl;
  settled = subst (λ q. After q (Executes s w is) p) settled run;
}
forward_next s w outside os rss is rs written state next p (Some env) settled here rest run =
    let became : Became s.width state written rs env settled.0 = settled.2 in
    let more : Forward s.width (Makes s.x w outside os env) settled.0 (λ r. is_result r rss) (all_grown rs rss) p =
    rest settled.0 env (became.outside ∙ here) became.reads (subst (λ q. After q (Executes s w is) p) settled.1 run) in
    record {
      made = more.made;
      does = more.does;
      settled = settled_moved s.width state settled.0 (λ r. is_result r rss) (λ r. written r || is_result r rss) (all_grown rs rss)
          (λ r h. became.kept r (or_parts (written r) (is_result r rss) h).0) became.words became.outside (λ r h. (or_parts (written r) (is_result r rss) h).1) p more.made more.settled;
    }

-- what instructions do, their operations make of the values
pub forward : (s : Setting) (w : World) (outside : Outside) (rss : List (List ℕ)) (os : List Operation) (is : List (ℕ × InstrData)) (rs : List ℕ) (env : Environment) (state : State) (p : Progress)
    → AllShow s w rs rss os is → are_pure os ≡ true → are_all_fresh rs rss ≡ true → outside_of state ≡ outside → Reads s.width state.values rs env → Executes s w is state p
    → Forward s.width (Makes s.x w outside os env) state (λ r. is_result r rss) (all_grown rs rss) p
forward s w outside [] [] [] rs env state p shown pure fresh here reads run = record {
  made = Some env;
  does = refl;
  settled = (state, run, record { reads = reads; kept = λ r h. refl; words = refl; outside = refl });
}
forward s w outside [] [] (i ∷ is) rs env state p shown pure fresh here reads run = absurd shown
forward s w outside [] (o ∷ os) is rs env state p shown pure fresh here reads run = absurd shown
forward s w outside (results ∷ rss) [] is rs env state p shown pure fresh here reads run = absurd shown
forward s w outside (results ∷ rss) (o ∷ os) [] rs env state p shown pure fresh here reads run = absurd shown
forward s w outside (results ∷ rss) (o ∷ os) (i ∷ is) rs env state p shown pure fresh here reads run =
    let pure_here : is_pure (meaning_of o.flags o.op) ≡ true = (and_parts (is_pure (meaning_of o.flags o.op)) (are_pure os) pure).0 in
    let shows : Shows s w rs results o i.1 = shown.0 in
    let step : Answering s w o results state (arguments_at env o.slots) run.0 =
    answering s w o results state (arguments_at env o.slots) run.0
    (steps_as_operation s w rs results env o i.1 state (parts s w rs results env o i.1 state pure_here shows reads) shows.mem run.0 run.1) in
    let settled : Settled s.width state (λ r. is_among r results) (grown rs results) run.0 (answered env o.widths step.answer) =
    subst (λ q. Settled s.width state (λ r. is_among r results) (grown rs results) q (answered env o.widths step.answer)) (sym step.made)
    (settle s.width results rs o.widths env state step.answer shows.widths (and_parts (are_fresh rs results) (are_all_fresh (grown rs results) rss) fresh).0 reads
    (acts_plain s.x w o (outside_of state) (arguments_at env o.slots) step.answer pure_here step.acts)) in
    let more : Forward s.width (Then (answered env o.widths step.answer) (Makes s.x w outside os)) state (λ r. is_among r results || is_result r rss) (all_grown (grown rs results) rss) p =
    forward_next s w outside os rss is (grown rs results) (λ r. is_among r results) state run.0 p (answered env o.widths step.answer) settled here
    (λ middle env' there reads' run'. forward s w outside rss os is (grown rs results) env' middle p shown.1 (and_parts (is_pure (meaning_of o.flags o.op)) (are_pure os) pure).1
    (and_parts (are_fresh rs results) (are_all_fresh (grown rs results) rss) fresh).1 there reads' run')
    run.2 in
    record {
      made = more.made;
      does = (step.answer, subst (λ out. ActsFrom s.x w o out (arguments_at env o.slots) step.answer) here step.acts, more.does);
      settled = more.settled;
    }

-- what instructions may do from a state, as their operations make of the values
pub record Backward (s : Setting) (w : World) (executes : Progress → Type 0) (state : State) (is_written : ℕ → Bool) (registers : List ℕ) (made : Option Environment) : Type 0 where
  pub progress : Progress
  pub run : executes progress
  pub settled : Settled s.width state is_written registers progress made

backward_next : (s : Setting) (w : World) (outside : Outside) (os : List Operation) (rss : List (List ℕ)) (is : List (ℕ × InstrData)) (rs : List ℕ) (written : ℕ → Bool) (state : State) (next : Progress)
    (m made : Option Environment) → Settled s.width state written rs next m → outside_of state ≡ outside
    → ((middle : State) (env : Environment) → outside_of middle ≡ outside → Reads s.width middle.values rs env → Makes s.x w outside os env made
    → Backward s w (Executes s w is middle) middle (λ r. is_result r rss) (all_grown rs rss) made)
    → Then m (Makes s.x w outside os) made
    → Backward s w (After next (Executes s w is)) state (λ r. written r || is_result r rss) (all_grown rs rss) made
backward_next s w outside os rss is rs written state next None made settled here rest makes = record {
  progress = Over an_outcome.Undefined;
  run = subst (λ q. After q (Executes s w is) (Over an_outcome.Undefined)) (sym settled) refl;
  settled = subst (λ m. Settled s.width state (λ r. written r || is_result r rss) (all_grown rs rss) (Over an_outcome.Undefined) m) (sym makes) refl;
}
backward_next s w outside os rss is rs written state next (Some env) made settled here rest makes =
    let became : Became s.width state written rs env settled.0 = settled.2 in
    let more : Backward s w (Executes s w is settled.0) settled.0 (λ r. is_result r rss) (all_grown rs rss) made =
    rest settled.0 env (became.outside ∙ here) became.reads makes in
    record {
      progress = more.progress;
      run = subst (λ q. After q (Executes s w is) more.progress) (sym settled.1) more.run;
      settled = settled_moved s.width state settled.0 (λ r. is_result r rss) (λ r. written r || is_result r rss) (all_grown rs rss)
          (λ r h. became.kept r (or_parts (written r) (is_result r rss) h).0) became.words became.outside (λ r h. (or_parts (written r) (is_result r rss) h).1) more.progress made more.settled;
    }

-- what operations make of the values, the instructions may do
pub backward : (s : Setting) (w : World) (outside : Outside) (rss : List (List ℕ)) (os : List Operation) (is : List (ℕ × InstrData)) (rs : List ℕ) (env : Environment) (state : State) (made : Option Environment)
    → AllShow s w rs rss os is → are_pure os ≡ true → are_all_fresh rs rss ≡ true → outside_of state ≡ outside → Reads s.width state.values rs env → Makes s.x w outside os env made
    → Backward s w (Executes s w is state) state (λ r. is_result r rss) (all_grown rs rss) made
backward s w outside [] [] [] rs env state made shown pure fresh here reads makes = record {
  progress = On state;
  run = refl;
  settled = subst (λ m. Settled s.width state (λ r. false) rs (On state) m) (sym makes) (state, refl, record { reads = reads; kept = λ r h. refl; words = refl; outside = refl });
}
backward s w outside [] [] (i ∷ is) rs env state made shown pure fresh here reads makes = absurd shown
backward s w outside [] (o ∷ os) is rs env state made shown pure fresh here reads makes = absurd shown
backward s w outside (results ∷ rss) [] is rs env state made shown pure fresh here reads makes = absurd shown
backward s w outside (results ∷ rss) (o ∷ os) [] rs env state made shown pure fresh here reads makes = absurd shown
backward s w outside (results ∷ rss) (o ∷ os) (i ∷ is) rs env state made shown pure fresh here reads makes =
    let pure_here : is_pure (meaning_of o.flags o.op) ≡ true = (and_parts (is_pure (meaning_of o.flags o.op)) (are_pure os) pure).0 in
    let shows : Shows s w rs results o i.1 = shown.0 in
    let answer : Answer = makes.0 in
    let acts : ActsFrom s.x w o (outside_of state) (arguments_at env o.slots) answer = subst (λ out. ActsFrom s.x w o out (arguments_at env o.slots) answer) (sym here) makes.1 in
    let more : Backward s w (After (progress_of state (map Virtual results) answer) (Executes s w is)) state (λ r. is_among r results || is_result r rss) (all_grown (grown rs results) rss) made =
    backward_next s w outside os rss is (grown rs results) (λ r. is_among r results) state (progress_of state (map Virtual results) answer) (answered env o.widths answer) made
    (settle s.width results rs o.widths env state answer shows.widths (and_parts (are_fresh rs results) (are_all_fresh (grown rs results) rss) fresh).0 reads
    (acts_plain s.x w o (outside_of state) (arguments_at env o.slots) answer pure_here acts)) here
    (λ middle env' there reads' makes'. backward s w outside rss os is (grown rs results) env' middle made shown.1 (and_parts (is_pure (meaning_of o.flags o.op)) (are_pure os) pure).1
    (and_parts (are_fresh rs results) (are_all_fresh (grown rs results) rss) fresh).1 there reads' makes')
    makes.2 in
    record {
      progress = more.progress;
      run = (
        progress_of state (map Virtual results) answer,
        operation_steps s w rs results env o i.1 state (parts s w rs results env o i.1 state pure_here shows reads) shows.mem (progress_of state (map Virtual results) answer)
            (stepping s w o results state (arguments_at env o.slots) answer acts),
        more.run,
      );
      settled = more.settled;
    }
