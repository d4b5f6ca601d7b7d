-- Instructions that come where nothing was, and write what is hidden.
use Rattle.std.proofs.Common.{◌≡◌, ℕ, zero, suc, Bool, true, false, cond, ◌==◌, List, [], ◌∷◌, ◌++◌, Option, Some, None, unwrap_or, slice_get, inl, refl, sym, ap, ◌∙◌, subst, ◌&&◌, length, arith}
use Rattle.std.proofs.lemmas.Option.{none-some}
use Rattle.std.proofs.lemmas.Bool.{eq-eqb, eqb-true, and_parts, true≢false}
use Rattle.gi_mir.specs.Data.{InstrData, BlockData}
use Rattle.gi_meaning.specs.State.{World, State, Place, Virtual, Physical, put}
use Rattle.gi_meaning.specs.Runs.{Setting, Progress, On, Left, Over, Steps, After, Executes, after_phis, put_value, put_all}
use Rattle.gi_refine.specs.Agreement.{Agree, ValueStands}
use Rattle.gi_refine.specs.Evaluation.{steps_of}
use Rattle.gi_refine.specs.OnePlace.{only_virtual}
use Rattle.gi_refine.specs.Reached.{GoesTo, Passes, Arrives}
use Rattle.gi_refine.specs.Simulation.{Stands, IsFollowed}
use Rattle.gi_refine.proofs.Basics.{some_is}
use Rattle.gi_refine.proofs.Agreeing.{alone_is}
use Rattle.gi_refine.proofs.Evaluating.{steps_so}
use Rattle.gi_refine.proofs.Simulating.{Split, split}

-- ══ What is hidden may be written on one side ══

value_aside : (hidden : Place → Bool) (q r : ℕ) (b : Bool) → (r == q) ≡ b → hidden (Virtual q) ≡ true → hidden (Virtual r) ≡ false → (x m n v : ℕ) (old new : Option ℕ) → ValueStands x m n old new → ValueStands x m n old (cond b (Some v) new)
value_aside hidden q r true is h seen x m n v old new stands = absurd (true≢false (sym h ∙ (ap (λ k. hidden (Virtual k)) (sym (eqb-true r q is)) ∙ seen)))
value_aside hidden q r false is h seen x m n v old new stands = stands

word_aside : (hidden : Place → Bool) (q r : ℕ) (b : Bool) → (r == q) ≡ b → hidden (Physical q) ≡ true → hidden (Physical r) ≡ false → (v old new : ℕ) → new ≡ old → cond b v new ≡ old
word_aside hidden q r true is h seen v old new same = absurd (true≢false (sym h ∙ (ap (λ k. hidden (Physical k)) (sym (eqb-true r q is)) ∙ seen)))
word_aside hidden q r false is h seen v old new same = same

pub put_aside : (s t : Setting) (hidden : Place → Bool) (old new : State) (p : Place) (v : ℕ) → hidden p ≡ true → Agree s t hidden old new → Agree s t hidden old (put new p v)
put_aside s t hidden old new (Virtual q) v h agree = record {
  values = λ r seen. value_aside hidden q r (r == q) refl h seen s.x (s.width r) (t.width r) v (old.values r) (new.values r) (agree.values r seen);
  words = agree.words;
  memory = agree.memory;
  taken = agree.taken;
}
put_aside s t hidden old new (Physical q) v h agree = record {
  values = agree.values;
  words = λ r seen. word_aside hidden q r (r == q) refl h seen v (old.words r) (new.words r) (agree.words r seen);
  memory = agree.memory;
  taken = agree.taken;
}

abbrev are_hidden : (hidden : Place → Bool) → List Place → Bool
are_hidden hidden [] = true
are_hidden hidden (p ∷ ps) = hidden p && are_hidden hidden ps

pub all_aside : (s t : Setting) (hidden : Place → Bool) (old new mid : State) (ps : List Place) (vs : List ℕ) → are_hidden hidden ps ≡ true → Agree s t hidden old new → put_all new ps vs ≡ Some mid → Agree s t hidden old mid
all_aside s t hidden old new mid [] [] h agree is = subst (λ σ. Agree s t hidden old σ) (ap (λ o. unwrap_or o new) is) agree
all_aside s t hidden old new mid [] (v ∷ vs) h agree is = absurd (none-some mid is)
all_aside s t hidden old new mid (p ∷ ps) [] h agree is = absurd (none-some mid is)
all_aside s t hidden old new mid (p ∷ ps) (v ∷ vs) h agree is =
    let each : (hidden p ≡ true) × (are_hidden hidden ps ≡ true) = and_parts (hidden p) (are_hidden hidden ps) h in
    all_aside s t hidden old (put new p v) mid ps vs each.1 (put_aside s t hidden old new p v each.0 agree) is

-- writes one after the other

pub put_front : (state : State) (ps : List Place) (vs : List ℕ) (qs : List Place) (us : List ℕ) → length vs ≡ length ps
    → (mid : State) × (put_all state ps vs ≡ Some mid) × (put_all state (ps ++ qs) (vs ++ us) ≡ put_all mid qs us)
put_front state [] [] qs us h = (state, refl, refl)
put_front state [] (v ∷ vs) qs us h = absurd (omega (arith, h))
put_front state (p ∷ ps) [] qs us h = absurd (omega (arith, h))
put_front state (p ∷ ps) (v ∷ vs) qs us h = put_front (put state p v) ps vs qs us (omega (arith, h))

other_than : (q r : ℕ) (hidden : ℕ → Bool) → hidden q ≡ true → hidden r ≡ false → (r == q) ≡ true → ⊥
other_than q r hidden h seen same = true≢false (sym h ∙ (ap hidden (sym (eqb-true r q same)) ∙ seen))

old_value : (q r : ℕ) (b : Bool) → (r == q) ≡ b → (hidden : ℕ → Bool) → hidden q ≡ true → hidden r ≡ false → (x m n v : ℕ) (old new : Option ℕ) → ValueStands x m n old new → ValueStands x m n (cond b (Some v) old) new
old_value q r true is hidden h seen x m n v old new stands = absurd (other_than q r hidden h seen is)
old_value q r false is hidden h seen x m n v old new stands = stands

pub hide_put : (s t : Setting) (hidden : ℕ → Bool) (old new : State) (q v : ℕ) → hidden q ≡ true → Agree s t (only_virtual hidden) old new → Agree s t (only_virtual hidden) old (put new (Virtual q) v)
hide_put s t hidden old new q v h agree = put_aside s t (only_virtual hidden) old new (Virtual q) v h agree

pub hide_put_old : (s t : Setting) (hidden : ℕ → Bool) (old new : State) (q v : ℕ) → hidden q ≡ true → Agree s t (only_virtual hidden) old new → Agree s t (only_virtual hidden) (put old (Virtual q) v) new
hide_put_old s t hidden old new q v h agree = record {
  values = λ r seen. old_value q r (r == q) refl hidden h seen s.x (s.width r) (t.width r) v (old.values r) (new.values r) (agree.values r seen);
  words = agree.words;
  memory = agree.memory;
  taken = agree.taken;
}

-- an instruction that comes where nothing was, isn't undefined, and writes a hidden register
pub inserted_follows : (s t : Setting) (w : World) (before : State → State → Type 0) (hidden : ℕ → Bool) (exit : ℕ → State → State → Type 0) (i : ℕ × InstrData) (q : ℕ) → hidden q ≡ true
    → ((old new : State) → before old new → (v : ℕ) × (steps_of t w (i ∷ []) new ≡ Some (On (put new (Virtual q) v))))
    → ((old new : State) → before old new → Agree s t (only_virtual hidden) old new)
    → IsFollowed s t w before (Agree s t (only_virtual hidden)) exit [] (i ∷ [])
inserted_follows s t w before hidden exit i q h steps agrees = record {
  by = λ old new related p' run.
      let step : (v : ℕ) × (steps_of t w (i ∷ []) new ≡ Some (On (put new (Virtual q) v))) = steps old new related in
      let made : p' ≡ On (put new (Virtual q) step.0) = (steps_so t w (i ∷ []) new (On (put new (Virtual q) step.0)) step.1).only p' run in
      inl (
        On old,
        refl,
        subst (λ p. Stands (Agree s t (only_virtual hidden)) exit (On old) p) (sym made) (hide_put s t hidden old new q step.0 h (agrees old new related)),
      );
}

-- a phi that gave a state gave a value
pub put_has : (q : ℕ) (σ : Option State) (v : Option ℕ) (state : State) → put_value σ (Virtual q ∷ []) v ≡ Some state → (u : ℕ) × (v ≡ Some u) × (state.values q ≡ Some u)
put_has q None v state h = absurd (none-some state h)
put_has q (Some entered) None state h = absurd (none-some state h)
put_has q (Some entered) (Some u) state h = (u, refl, ap (λ (o : Option State). (unwrap_or o entered).values q) (sym h) ∙ same_register q u (entered.values q))
  where
    same_register : (r v' : ℕ) (old : Option ℕ) → cond (r == r) (Some v') old ≡ Some v'
    same_register r v' old = ap (λ b. cond b (Some v') old) (eq-eqb r r refl)

-- ══ The states at the entry of a block, by what the one before ends with ══

-- the state that a run has come to
abbrev pub IsAt : State → Progress → Type 0
IsAt state (On state') = state' ≡ state
IsAt state (Left c state') = state' ≡ state
IsAt state (Over o) = Unit {0}

went : (a : ℕ) (successors : List ℕ) (p : Progress) (c : ℕ) (state end : State) → GoesTo a successors p c state → IsAt end p → state ≡ end
went a successors (On state') c state end goes is = goes.2 ∙ is
went a successors (Left d state') c state end goes is = goes.1 ∙ is
went a successors (Over o) c state end goes is = absurd goes

-- what is behind instructions that go one way, and a branch that changes nothing
at_end : (s : Setting) (w : World) (front : List (ℕ × InstrData)) (branch : ℕ × InstrData) (middle end : State) → steps_of s w front middle ≡ Some (On end)
    → ((p : Progress) → Steps s w branch.1 end p → IsAt end p) → (p : Progress) → Executes s w (front ++ (branch ∷ [])) middle p → IsAt end p
at_end s w front branch middle end steps keeps p run =
    let parts : Split s w front (branch ∷ []) middle p = split s w front (branch ∷ []) middle p run in
    let here : parts.between ≡ On end = (steps_so s w front middle (On end) steps).only parts.between parts.first in
    keeps p (alone_is s w branch end p (subst (λ q. After q (Executes s w (branch ∷ [])) p) here parts.second))

pub arrives_from : (s : Setting) (w : World) (blocks : List BlockData) (k : ℕ) (block : BlockData) → slice_get blocks k ≡ Some block → (front : List (ℕ × InstrData)) (branch : ℕ × InstrData)
    → after_phis block.instrs ≡ front ++ (branch ∷ []) → (end : State → State) → ((middle : State) → steps_of s w front middle ≡ Some (On (end middle)))
    → ((state : State) (p : Progress) → Steps s w branch.1 state p → IsAt state p)
    → (n c : ℕ) (state : State) → Arrives s w blocks n (Some k) c state → (middle : State) × (state ≡ end middle)
arrives_from s w blocks k block here front branch body end steps keeps zero c state arrives = absurd (none-some k (sym arrives.0))
arrives_from s w blocks k block here front branch body end steps keeps (suc n) c state arrives =
    let passes : Passes s w blocks arrives.0 arrives.1 arrives.2 c state = arrives.4 in
    let from : arrives.1 ≡ k = some_is k arrives.1 arrives.5 in
    let same : passes.block ≡ block = some_is block passes.block (sym here ∙ subst (λ a. slice_get blocks a ≡ Some passes.block) from passes.joins.here) in
    let run : Executes s w (front ++ (branch ∷ [])) passes.middle passes.progress =
    subst (λ is. Executes s w is passes.middle passes.progress) body (subst (λ (b : BlockData). Executes s w (after_phis b.instrs) passes.middle passes.progress) same passes.body) in (
      passes.middle,
      went arrives.1 passes.block.successors passes.progress c state (end passes.middle) passes.goes
          (at_end s w front branch passes.middle (end passes.middle) (steps passes.middle) (keeps (end passes.middle)) passes.progress run),
    )
