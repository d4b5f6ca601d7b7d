-- What a call that an event answers comes to, and one of a routine, whatever words the call leaves free.
use Rattle.std.proofs.Common.{◌≡◌, ℕ, suc, List, [], ◌∷◌, ◌++◌, length, map, Some, None, inl, ⊎_elim, refl, ap, ap₂, ◌∙◌, subst, arith, ◌<◌, ◌^◌, lit<}
use Rattle.std.specs.Prelude.{codes}
use Rattle.gi_meaning.specs.State.{Event, World, State, Outside, start, Outcome, Returned, Place, Virtual, Physical, put, AreWords}
use Rattle.gi_meaning.specs.Act.{Results, Returns, clobbered, LeavesFree}
use Rattle.gi_meaning.specs.Runs.{Setting, setting_of, put_all, going_on, progress_of, Progress, On, Over, Steps, After, Executes, Follows, Enters}
use Rattle.gi_mir.specs.declared.opcode.Opcode.TheVariants as op
use Rattle.gi_refine.specs.Examples.{made, names, counting, world_of, return_of}
use Rattle.gi_refine_cases.specs.Examples.{calls, called_operands, answered}
use Rattle.gi_refine.specs.Outcomes.{ComesTo}

-- after writes of which the last is to a place, the place holds that value, and the outside is as before
record PutLast (state : State) (ps : List Place) (vs : List ℕ) (p : Place) (v : ℕ) : Type 0 where
  before : State
  made : put_all state (ps ++ p ∷ []) (vs ++ v ∷ []) ≡ Some (put before p v)
  memory : before.memory ≡ state.memory
  taken : before.taken ≡ state.taken

put_last : (state : State) (ps : List Place) (vs : List ℕ) (p : Place) (v : ℕ) → length vs ≡ length ps → PutLast state ps vs p v
put_last state [] [] p v h = record { before = state; made = refl; memory = refl; taken = refl }
put_last state [] (u ∷ vs) p v h = absurd (omega (arith, h))
put_last state (q ∷ ps) [] p v h = absurd (omega (arith, h))
put_last state (Virtual r ∷ ps) (u ∷ vs) p v h =
    let more : PutLast (put state (Virtual r) u) ps vs p v = put_last (put state (Virtual r) u) ps vs p v (omega (arith, h)) in
    record { before = more.before; made = more.made; memory = more.memory; taken = more.taken }
put_last state (Physical n ∷ ps) (u ∷ vs) p v h =
    let more : PutLast (put state (Physical n) u) ps vs p v = put_last (put state (Physical n) u) ps vs p v (omega (arith, h)) in
    record { before = more.before; made = more.made; memory = more.memory; taken = more.taken }

-- ══ A call that an event answers ══

abbrev here : Setting
here = setting_of 32 names calls

abbrev told : World
told = world_of 5 0 0 answered

-- the state in which the call is answered, before its registers are written
abbrev met : State
met = record (start told) { memory = counting; taken = 1 }

abbrev ending : Outcome
ending = Returned (7 ∷ []) counting 1

-- from any state in which x10 was written last, the return ends the run
return_from : (others : List ℕ) → length others ≡ 16 → (p : Progress) → After (going_on (put_all met (map Physical clobbered ++ Physical 10 ∷ []) (others ++ 7 ∷ []))) (Executes here told (return_of 10 ∷ [])) p
    → p ≡ Over ending
return_from others sixteen p run =
    let last : PutLast met (map Physical clobbered) others (Physical 10) 7 = put_last met (map Physical clobbered) others (Physical 10) 7 sixteen in
    let ran : Executes here told (return_of 10 ∷ []) (put last.before (Physical 10) 7) p = subst (λ o. After (going_on o) (Executes here told (return_of 10 ∷ [])) p) last.made run in
    let over : ran.0 ≡ Over (Returned (7 ∷ []) last.before.memory last.before.taken) = ran.1.2 ∙ ap (progress_of (put last.before (Physical 10) 7) []) ran.1.1 in
    subst (λ q. After q (Executes here told []) p) over ran.2 ∙ ap₂ (λ m t. Over (Returned (7 ∷ []) m t)) last.memory last.taken

call_only : (next p : Progress) → Steps here told (made op.PseudoCall called_operands None).1 (start told) next
    → After next (Executes here told (return_of 10 ∷ [])) p → p ≡ Over ending
call_only next p step run = ⊎_elim
    (λ taken.
    let same : taken.0 ≡ event_of = some_same taken.1 in
    let free : LeavesFree 32 (7 ∷ []) (record { memory = counting; taken = 1 }) step.0 = subst (λ e. LeavesFree 32 e.results (record { memory = e.after; taken = 1 }) step.0) same taken.3 in
    return_from free.0 free.2 p
    (subst (λ q. After q (Executes here told (return_of 10 ∷ [])) p) (step.2 ∙ ap (progress_of (start told) (map Physical clobbered ++ Physical 10 ∷ [])) free.3) run))
    (λ asks. absurd (asks.0 event_of refl (record { callee = refl; arguments = refl; before = refl; results = refl })))
    step.1
  where
    event_of : Event
    event_of = record { callee = codes "g"; arguments = 5 ∷ []; before = counting; results = 7 ∷ []; after = counting }

    some_same : {e : Event} → Some event_of ≡ Some e → e ≡ event_of
    some_same h = cc

-- the call takes its event, and the function returns the event's word and does nothing else
pub answered_comes : (n : ℕ) → ComesTo 32 names calls told (suc n) ending
answered_comes n = record {
  can =
      let free : List ℕ = 0 ∷ 0 ∷ 0 ∷ 0 ∷ 0 ∷ 0 ∷ 0 ∷ 0 ∷ 0 ∷ 0 ∷ 0 ∷ 0 ∷ 0 ∷ 0 ∷ 0 ∷ 0 ∷ [] in
      let after : State = put (all_put met clobbered) (Physical 10) 7 in
      let outside : Outside = record { memory = counting; taken = 1 } in (
        Over ending,
        (
          On after,
          (
            Results (free ++ 7 ∷ []) outside,
            inl (
              record { callee = codes "g"; arguments = 5 ∷ []; before = counting; results = 7 ∷ []; after = counting },
              refl,
              record { callee = refl; arguments = refl; before = refl; results = refl },
              (free, all_words, refl, refl),
            ),
            refl,
          ),
          (Over ending, (Returns (7 ∷ []), refl, refl), refl),
        ),
        refl,
      );
  only = λ other run.
      subst (λ p. Follows 0 [] (Enters here told calls.blocks n) p other) (call_only run.1.0 run.0 run.1.1 run.1.2) run.2;
}
  where
    all_put : State → List ℕ → State
    all_put state [] = state
    all_put state (r ∷ rs) = all_put (put state (Physical r) 0) rs

    small : 0 < 2 ^ 32
    small = lit< tt

    all_words : AreWords 32 (0 ∷ 0 ∷ 0 ∷ 0 ∷ 0 ∷ 0 ∷ 0 ∷ 0 ∷ 0 ∷ 0 ∷ 0 ∷ 0 ∷ 0 ∷ 0 ∷ 0 ∷ 0 ∷ [])
    all_words = (small, (small, (small, (small, (small, (small, (small, (small, (small, (small, (small, (small, (small, (small, (small, (small, tt))))))))))))))))
