-- The trial rule of a runtime call: what it clobbers is hidden from there until it is written again.
use Rattle.std.proofs.Common.{◌≡◌, ℕ, zero, suc, ◌+◌, ◌*◌, ◌/◌, ◌%◌, ◌^◌, Bool, true, false, cond, ◌==◌, List, [], ◌∷◌, ◌++◌, map, Option, Some, None, slice_get, ◌⊎◌, inl, inr, refl, sym, ap, ap₂, ◌∙◌, subst, arith}
use Rattle.std.proofs.lemmas.Bool.{eqb-true, true≢false}
use Rattle.std.proofs.lemmas.Nat.{mul-mod, mod-pow-add}
use Rattle.std.proofs.Math.Nat.{mod-mod}
use Rattle.gi_mir.specs.Data.{InstrData}
use mathlib.Core.Path.{fun_ext}
use Rattle.gi_meaning.specs.Act.{Results, LeavesFree, clobbered, result_words}
use Rattle.gi_meaning.specs.Generic.{parts_of}
use Rattle.gi_meaning.specs.Meaning.{meaning_of}
use Rattle.gi_meaning.specs.State.{World, State, outside_of, Undefined, Place, Virtual, Physical, word_in, put}
use Rattle.gi_meaning.specs.Runs.{Setting, setting_of, written_places, put_all, going_on, progress_of, Progress, On, Over, Steps, After, Executes}
use Rattle.gi_refine.specs.Agreement.{ValueStands, Agree, AgreeAt, all_shown, shown}
use Rattle.gi_refine_cases.specs.CallTrial.{call_hides, joins, parts, product, routine_call, passing, taking, called, return_both, multiplies, multiplies_by_call}
use Rattle.gi_refine.specs.Evaluation.{steps_of}
use Rattle.gi_refine.specs.Examples.{names, s32, copy_in, copy_out}
use Rattle.gi_refine.specs.OnePlace.{only_virtual}
use Rattle.gi_refine.specs.Simulation.{Stands}
use Rattle.gi_refine.specs.Kept.{reused, HasSameValue, AreSeenAs}
use Rattle.gi_refine.specs.Refinement.{RefinesUnchecked}
use Rattle.gi_refine.specs.Rewriting.{Kept, Changed, Covers, is_target, Stays, RewrittenAt}
use Rattle.gi_refine.proofs.Agreeing.{same_value, alike_stands, put_agree}
use Rattle.gi_refine.proofs.Evaluating.{steps_so}
use Rattle.gi_refine_cases.proofs.Inserting.{all_aside, put_aside, put_front}
use Rattle.gi_refine_cases.proofs.StayingTested.{all_seen_by}
use Rattle.gi_refine.proofs.Keeping.{agree_but, all_shown_less}
use Rattle.gi_refine.proofs.RewritingFollows.{covers_so, hides_so, rewriting_refines}
use Rattle.gi_refine.proofs.Simulating.{Split, split}
use Rattle.gi_refine.proofs.Staying.{kept_reused, uses_hold_alone}

-- ══ The product from its parts ══

-- two words of a number are the number, modulo 2 to their bits
whole_of : (a : ℕ) → a % 2 ^ 32 + 2 ^ 32 * (a / 2 ^ 32 % 2 ^ 32) ≡ a % 2 ^ 64
whole_of a = omega (arith, mod-pow-add a 32 32)

product_of_parts : (a b : ℕ) → ((a % 2 ^ 32 + 2 ^ 32 * (a / 2 ^ 32 % 2 ^ 32)) * (b % 2 ^ 32 + 2 ^ 32 * (b / 2 ^ 32 % 2 ^ 32))) % 2 ^ 64 ≡ (a * b) % 2 ^ 64
product_of_parts a b = ap₂ (λ k l. (k * l) % 2 ^ 64) (whole_of a) (whole_of b) ∙ sym (mul-mod a b (2 ^ 64))

-- the product's words joined again
joined_product : (a b : ℕ) → let p : ℕ = ((a % 2 ^ 32 + 2 ^ 32 * (a / 2 ^ 32 % 2 ^ 32)) * (b % 2 ^ 32 + 2 ^ 32 * (b / 2 ^ 32 % 2 ^ 32))) % 2 ^ 64 in p % 2 ^ 32 + 2 ^ 32 * (p / 2 ^ 32 % 2 ^ 32) ≡ (a * b) % 2 ^ 64
joined_product a b =
    let p : ℕ = ((a % 2 ^ 32 + 2 ^ 32 * (a / 2 ^ 32 % 2 ^ 32)) * (b % 2 ^ 32 + 2 ^ 32 * (b / 2 ^ 32 % 2 ^ 32))) % 2 ^ 64 in
    whole_of p ∙ (mod-mod ((a % 2 ^ 32 + 2 ^ 32 * (a / 2 ^ 32 % 2 ^ 32)) * (b % 2 ^ 32 + 2 ^ 32 * (b / 2 ^ 32 % 2 ^ 32))) (2 ^ 64) ∙ product_of_parts a b)

-- ══ The call ══

abbrev old_setting : Setting
old_setting = setting_of 32 names multiplies

abbrev new_setting : Setting
new_setting = setting_of 32 names multiplies_by_call

abbrev product_of : State → ℕ
product_of state = ((word_in state 10 + 2 ^ 32 * word_in state 11) * (word_in state 12 + 2 ^ 32 * word_in state 13)) % 2 ^ 64

-- behind the call its result stands in x10 and x11
record Called (state : State) (p : Progress) : Type 0 where
  others : List ℕ
  mid : State
  clobbers : put_all state (map Physical clobbered) others ≡ Some mid
  made : p ≡ On (put (put mid (Physical 10) (product_of state % 2 ^ 32)) (Physical 11) (product_of state / 2 ^ 32 % 2 ^ 32))

call_comes : (w : World) (state : State) (p : Progress) → Steps new_setting w routine_call.1 state p → Called state p
call_comes w state p step =
    let act : (words : List ℕ) × (words ≡ parts_of (32 ∷ 32 ∷ []) (product_of state)) × LeavesFree 32 (result_words words (10 ∷ 11 ∷ [])) (outside_of state) step.0 = step.1 in
    let free : LeavesFree 32 (result_words act.0 (10 ∷ 11 ∷ [])) (outside_of state) step.0 = act.2 in
    let results : List ℕ = product_of state % 2 ^ 32 ∷ product_of state / 2 ^ 32 % 2 ^ 32 ∷ [] in
    let front : (mid : State) × (put_all state (map Physical clobbered) free.0 ≡ Some mid)
    × (put_all state (map Physical clobbered ++ (Physical 10 ∷ Physical 11 ∷ [])) (free.0 ++ results) ≡ put_all mid (Physical 10 ∷ Physical 11 ∷ []) results) =
    put_front state (map Physical clobbered) free.0 (Physical 10 ∷ Physical 11 ∷ []) results free.2 in
    record {
      others = free.0;
      mid = front.0;
      clobbers = front.1;
      made = step.2 ∙ (ap (progress_of state (map Physical clobbered ++ (Physical 10 ∷ Physical 11 ∷ []))) (free.3 ∙ ap (λ ws. Results (free.0 ++ result_words ws (10 ∷ 11 ∷ [])) (outside_of state)) act.1) ∙ ap going_on front.2);
    }

-- ══ States whose operands are known ══

abbrev known_values : (a b : Option ℕ) → (ℕ → Option ℕ) → ℕ → Option ℕ
known_values a b values r = cond (r == 4) a (cond (r == 5) b (values r))

abbrev known : (a b : Option ℕ) → State → State
known a b state = record state { values = known_values a b state.values }

known_value : (values : ℕ → Option ℕ) (a b : Option ℕ) (r : ℕ) → values 4 ≡ a → values 5 ≡ b → (first second : Bool) → (r == 4) ≡ first → (r == 5) ≡ second → values r ≡ cond first a (cond second b (values r))
known_value values a b r is is' true second e e' = ap values (eqb-true r 4 e) ∙ is
known_value values a b r is is' false true e e' = ap values (eqb-true r 5 e') ∙ is'
known_value values a b r is is' false false e e' = refl

is_known : (state : State) (a b : Option ℕ) → state.values 4 ≡ a → state.values 5 ≡ b → state ≡ known a b state
is_known state a b is is' = ap (λ (vs : ℕ → Option ℕ). let σ : State = record state { values = vs } in σ) (fun_ext (λ r. known_value state.values a b r is is' (r == 4) (r == 5) refl refl))

-- the operands' words are passed
abbrev passed_state : (a b : ℕ) → State → State
passed_state a b state =
    put (put (put (put (put (put (put (put (known (Some a) (Some b) state) (Virtual 10) (a % 2 ^ 32)) (Virtual 11) (a / 2 ^ 32 % 2 ^ 32)) (Virtual 12) (b % 2 ^ 32)) (Virtual 13) (b / 2 ^ 32 % 2 ^ 32))
    (Physical 10) (a % 2 ^ 32)) (Physical 11) (a / 2 ^ 32 % 2 ^ 32)) (Physical 12) (b % 2 ^ 32)) (Physical 13) (b / 2 ^ 32 % 2 ^ 32)

passes : (w : World) (state : State) (a b : ℕ) → state.values 4 ≡ Some a → state.values 5 ≡ Some b → steps_of new_setting w passing state ≡ Some (On (passed_state a b state))
passes w state a b is is' = ap (steps_of new_setting w passing) (is_known state (Some a) (Some b) is is')

passed_agrees : (old state : State) (a b : ℕ) → state.values 4 ≡ Some a → state.values 5 ≡ Some b → Agree old_setting new_setting call_hides old state → Agree old_setting new_setting call_hides old (passed_state a b state)
passed_agrees old state a b is is' agree =
    let s : Setting = old_setting in
    let t : Setting = new_setting in
    let h : Place → Bool = call_hides in
    put_aside s t h old _ (Physical 13) _ refl (put_aside s t h old _ (Physical 12) _ refl (put_aside s t h old _ (Physical 11) _ refl (put_aside s t h old _ (Physical 10) _ refl
    (put_aside s t h old _ (Virtual 13) _ refl (put_aside s t h old _ (Virtual 12) _ refl (put_aside s t h old _ (Virtual 11) _ refl (put_aside s t h old _ (Virtual 10) _ refl
    (subst (λ σ. Agree s t h old σ) (is_known state (Some a) (Some b) is is') agree))))))))

-- ══ The place ══

-- the state behind the call, and the one behind taking its result
abbrev answered_state : (mid : State) (lo hi : ℕ) → State
answered_state mid lo hi = put (put mid (Physical 10) lo) (Physical 11) hi

abbrev taken_state : (mid : State) (lo hi : ℕ) → State
taken_state mid lo hi = put (put (put (answered_state mid lo hi) (Virtual 14) lo) (Virtual 15) hi) (Virtual 6) (lo + 2 ^ 32 * (hi + 2 ^ 32 * 0))

taken_agrees : (old mid : State) (lo hi v : ℕ) → lo + 2 ^ 32 * hi ≡ v → Agree old_setting new_setting call_hides old mid → Agree old_setting new_setting call_hides (put old (Virtual 6) v) (taken_state mid lo hi)
taken_agrees old mid lo hi v is agree =
    let s : Setting = old_setting in
    let t : Setting = new_setting in
    let h : Place → Bool = call_hides in
    let value : lo + 2 ^ 32 * (hi + 2 ^ 32 * 0) ≡ v = ap (λ k. lo + 2 ^ 32 * k) (omega arith) ∙ is in
    let before : State = put (put (answered_state mid lo hi) (Virtual 14) lo) (Virtual 15) hi in
    agree_but s t (shown h (Virtual 6)) h (put old (Virtual 6) v) (taken_state mid lo hi) (all_shown_less h (Virtual 6 ∷ []))
    (put_agree s t h old before (Virtual 6) v (lo + 2 ^ 32 * (hi + 2 ^ 32 * 0)) (alike_stands 32 64 v (lo + 2 ^ 32 * (hi + 2 ^ 32 * 0)) value)
    (put_aside s t h old _ (Virtual 15) _ refl (put_aside s t h old _ (Virtual 14) _ refl (put_aside s t h old _ (Physical 11) _ refl (put_aside s t h old _ (Physical 10) _ refl agree)))))

-- where the run of the new instructions ends
new_ends : (w : World) (old state : State) (a b : ℕ) → state.values 4 ≡ Some a → state.values 5 ≡ Some b → Agree old_setting new_setting call_hides old state → (p' : Progress) → Executes new_setting w called state p'
    → (exit : ℕ → State → State → Type 0) → Stands (Agree old_setting new_setting call_hides) exit (On (put old (Virtual 6) ((a * b) % 2 ^ 64))) p'
new_ends w old state a b is is' agree p' run exit =
    let s : Setting = old_setting in
    let t : Setting = new_setting in
    let h : Place → Bool = call_hides in
    let at : State = passed_state a b state in
    let cut : Split t w passing (routine_call ∷ taking) state p' = split t w passing (routine_call ∷ taking) state p' run in
    let first : cut.between ≡ On at = (steps_so t w passing state (On at) (passes w state a b is is')).only cut.between cut.first in
    let rest : Executes t w (routine_call ∷ taking) at p' = subst (λ q. After q (Executes t w (routine_call ∷ taking)) p') first cut.second in
    let call : Called at rest.0 = call_comes w at rest.0 rest.1 in
    let lo : ℕ = product_of at % 2 ^ 32 in
    let hi : ℕ = product_of at / 2 ^ 32 % 2 ^ 32 in
    let last : Executes t w taking (answered_state call.mid lo hi) p' = subst (λ q. After q (Executes t w taking) p') call.made rest.2 in
    let end : p' ≡ On (taken_state call.mid lo hi) = (steps_so t w taking (answered_state call.mid lo hi) (On (taken_state call.mid lo hi)) refl).only p' last in
    let there : Agree s t h old call.mid = all_aside s t h old at call.mid (map Physical clobbered) call.others refl (passed_agrees old state a b is is' agree) call.clobbers in
    subst (λ p. Stands (Agree s t h) exit (On (put old (Virtual 6) ((a * b) % 2 ^ 64))) p) (sym end) (taken_agrees old call.mid lo hi ((a * b) % 2 ^ 64) (joined_product a b) there)

-- the new register holds what the old one does
held : (old new : State) → Agree old_setting new_setting (only_virtual (λ r. false)) old new → (r v : ℕ) → old_setting.width r ≡ 64 → new_setting.width r ≡ 64 → old.values r ≡ Some v → new.values r ≡ Some v
held old new agree r v is is' has =
    subst (λ (o : Option ℕ). HasSameValue o (new.values r)) has
    (same_value 32 64 (old.values r) (new.values r)
    (subst (λ k. ValueStands 32 k 64 (old.values r) (new.values r)) is (subst (λ k. ValueStands 32 (old_setting.width r) k (old.values r) (new.values r)) is' (agree.values r refl))))

abbrev no_hidden : Place → Bool
no_hidden = only_virtual (λ r. false)

none_is_hidden : (p : Place) → no_hidden p ≡ false
none_is_hidden (Virtual r) = refl
none_is_hidden (Physical n) = refl

multiplied : (w : World) (old new : State) (first second : Option ℕ) → old.values 4 ≡ first → old.values 5 ≡ second → Agree old_setting new_setting no_hidden old new → (exit : ℕ → State → State → Type 0)
    → (p' : Progress) → Executes new_setting w called new p'
    → ((p : Progress) × Executes old_setting w (product ∷ []) old p × Stands (Agree old_setting new_setting call_hides) exit p p') ⊎ Executes old_setting w (product ∷ []) old (Over Undefined)
multiplied w old new None second is is' agree exit p' run =
    inr ((steps_so old_setting w (product ∷ []) old (Over Undefined) (ap (steps_of old_setting w (product ∷ [])) (is_known old None second is is'))).can)
multiplied w old new (Some a) None is is' agree exit p' run =
    inr ((steps_so old_setting w (product ∷ []) old (Over Undefined) (ap (steps_of old_setting w (product ∷ [])) (is_known old (Some a) None is is'))).can)
multiplied w old new (Some a) (Some b) is is' agree exit p' run =
    let v : ℕ = (a * b) % 2 ^ 64 in
    let come : Progress = On (put (known (Some a) (Some b) old) (Virtual 6) v) in
    let same : old ≡ known (Some a) (Some b) old = is_known old (Some a) (Some b) is is' in
    let agrees : Agree old_setting new_setting call_hides old new = agree_but old_setting new_setting no_hidden call_hides old new (λ p seen. none_is_hidden p) agree in
    inl (
      On (put old (Virtual 6) v),
      (steps_so old_setting w (product ∷ []) old (On (put old (Virtual 6) v)) (ap (steps_of old_setting w (product ∷ [])) same ∙ ap (λ (σ : State). Some (On (put σ (Virtual 6) v))) (sym same))).can,
      new_ends w old new a b (held old new agree 4 a refl refl is) (held old new agree 5 b refl refl is') agrees p' run exit,
    )

-- ══ The whole function ══

abbrev shown_10 : Place → Bool
shown_10 = all_shown call_hides (Physical 10 ∷ [])

abbrev shown_11 : Place → Bool
shown_11 = all_shown shown_10 (Physical 11 ∷ [])

-- an instruction that stays, uses nothing that is replaced, and goes nowhere
stays : (w : World) (b : ℕ) (before : List (ℕ × InstrData)) (now next : Place → Bool) (i : InstrData) → i ≡ reused (λ r. r) i → AreSeenAs old_setting new_setting now (λ r. r) i.operands
    → Covers (all_shown now (written_places (meaning_of i.flags i.op) i.operands)) next → ((c : ℕ) → is_target c i.operands ≡ true → ⊥)
    → Stays 32 names multiplies multiplies_by_call (λ c. no_hidden) (λ r. r) w b before now next i i
stays w b before now next i same seen hides nowhere = record {
  kept = kept_reused (λ r. r) i i same;
  seen = seen;
  holds = λ state reached. uses_hold_alone state i.operands;
  hides = hides;
  leaves = λ c goes. absurd (nowhere c goes);
}

places_rewritten : (b : ℕ) → RewrittenAt 32 names multiplies multiplies_by_call (λ c. no_hidden) (λ r. r) b (slice_get multiplies.blocks b) (slice_get multiplies_by_call.blocks b)
places_rewritten zero = record {
  middle = no_hidden;
  pieces = (Kept (copy_in 0 10 s32) (copy_in 0 10 s32), no_hidden) ∷ (Kept (copy_in 1 11 s32) (copy_in 1 11 s32), no_hidden) ∷ (Kept (copy_in 2 12 s32) (copy_in 2 12 s32), no_hidden) ∷ (Kept (copy_in 3 13 s32) (copy_in 3 13 s32), no_hidden) ∷ (Kept (joins 4 0 1) (joins 4 0 1), no_hidden) ∷ (Kept (joins 5 2 3) (joins 5 2 3), no_hidden) ∷ (Changed (product ∷ []) called, call_hides) ∷ (Kept (parts 7 8 6) (parts 7 8 6), call_hides) ∷ (Kept (copy_out 10 7) (copy_out 10 7), shown_10) ∷ (Kept (copy_out 11 8) (copy_out 11 8), shown_11) ∷ (Kept (return_both) (return_both), shown_11) ∷ [];
  successors = refl;
  splits = refl;
  new_splits = refl;
  phis = λ w is_world. record { by = λ n from state state' arrives agree. agree };
  body = λ w is_world. (stays w 0 ([]) no_hidden no_hidden ((copy_in 0 10 s32).1) refl (all_seen_by old_setting new_setting (λ r. false) (λ r. r) ((copy_in 0 10 s32) ∷ []) refl).0 (hides_so no_hidden (written_places (meaning_of (copy_in 0 10 s32).1.flags (copy_in 0 10 s32).1.op) ((copy_in 0 10 s32).1.operands))) (λ c goes. true≢false (sym goes)), (stays w 0 (copy_in 0 10 s32 ∷ []) no_hidden no_hidden ((copy_in 1 11 s32).1) refl (all_seen_by old_setting new_setting (λ r. false) (λ r. r) ((copy_in 1 11 s32) ∷ []) refl).0 (hides_so no_hidden (written_places (meaning_of (copy_in 1 11 s32).1.flags (copy_in 1 11 s32).1.op) ((copy_in 1 11 s32).1.operands))) (λ c goes. true≢false (sym goes)), (stays w 0 (copy_in 0 10 s32 ∷ copy_in 1 11 s32 ∷ []) no_hidden no_hidden ((copy_in 2 12 s32).1) refl (all_seen_by old_setting new_setting (λ r. false) (λ r. r) ((copy_in 2 12 s32) ∷ []) refl).0 (hides_so no_hidden (written_places (meaning_of (copy_in 2 12 s32).1.flags (copy_in 2 12 s32).1.op) ((copy_in 2 12 s32).1.operands))) (λ c goes. true≢false (sym goes)), (stays w 0 (copy_in 0 10 s32 ∷ copy_in 1 11 s32 ∷ copy_in 2 12 s32 ∷ []) no_hidden no_hidden ((copy_in 3 13 s32).1) refl (all_seen_by old_setting new_setting (λ r. false) (λ r. r) ((copy_in 3 13 s32) ∷ []) refl).0 (hides_so no_hidden (written_places (meaning_of (copy_in 3 13 s32).1.flags (copy_in 3 13 s32).1.op) ((copy_in 3 13 s32).1.operands))) (λ c goes. true≢false (sym goes)), (stays w 0 (copy_in 0 10 s32 ∷ copy_in 1 11 s32 ∷ copy_in 2 12 s32 ∷ copy_in 3 13 s32 ∷ []) no_hidden no_hidden ((joins 4 0 1).1) refl (all_seen_by old_setting new_setting (λ r. false) (λ r. r) ((joins 4 0 1) ∷ []) refl).0 (hides_so no_hidden (written_places (meaning_of (joins 4 0 1).1.flags (joins 4 0 1).1.op) ((joins 4 0 1).1.operands))) (λ c goes. true≢false (sym goes)), (stays w 0 (copy_in 0 10 s32 ∷ copy_in 1 11 s32 ∷ copy_in 2 12 s32 ∷ copy_in 3 13 s32 ∷ joins 4 0 1 ∷ []) no_hidden no_hidden ((joins 5 2 3).1) refl (all_seen_by old_setting new_setting (λ r. false) (λ r. r) ((joins 5 2 3) ∷ []) refl).0 (hides_so no_hidden (written_places (meaning_of (joins 5 2 3).1.flags (joins 5 2 3).1.op) ((joins 5 2 3).1.operands))) (λ c goes. true≢false (sym goes)), (record { by = λ old new related p' run. multiplied w old new (old.values 4) (old.values 5) refl refl related.relates (AgreeAt old_setting new_setting (λ c. no_hidden)) p' run }, (stays w 0 (copy_in 0 10 s32 ∷ copy_in 1 11 s32 ∷ copy_in 2 12 s32 ∷ copy_in 3 13 s32 ∷ joins 4 0 1 ∷ joins 5 2 3 ∷ product ∷ []) call_hides call_hides ((parts 7 8 6).1) refl (refl, (refl, (refl, refl, refl, tt))) (hides_so call_hides (written_places (meaning_of (parts 7 8 6).1.flags (parts 7 8 6).1.op) ((parts 7 8 6).1.operands))) (λ c goes. true≢false (sym goes)), (stays w 0 (copy_in 0 10 s32 ∷ copy_in 1 11 s32 ∷ copy_in 2 12 s32 ∷ copy_in 3 13 s32 ∷ joins 4 0 1 ∷ joins 5 2 3 ∷ product ∷ parts 7 8 6 ∷ []) call_hides shown_10 ((copy_out 10 7).1) refl (refl, refl, refl, tt) (covers_so shown_10) (λ c goes. true≢false (sym goes)), (stays w 0 (copy_in 0 10 s32 ∷ copy_in 1 11 s32 ∷ copy_in 2 12 s32 ∷ copy_in 3 13 s32 ∷ joins 4 0 1 ∷ joins 5 2 3 ∷ product ∷ parts 7 8 6 ∷ copy_out 10 7 ∷ []) shown_10 shown_11 ((copy_out 11 8).1) refl (refl, refl, refl, tt) (covers_so shown_11) (λ c goes. true≢false (sym goes)), (stays w 0 (copy_in 0 10 s32 ∷ copy_in 1 11 s32 ∷ copy_in 2 12 s32 ∷ copy_in 3 13 s32 ∷ joins 4 0 1 ∷ joins 5 2 3 ∷ product ∷ parts 7 8 6 ∷ copy_out 10 7 ∷ copy_out 11 8 ∷ []) shown_11 shown_11 ((return_both).1) refl (refl, (refl, tt)) (hides_so shown_11 (written_places (meaning_of (return_both).1.flags (return_both).1.op) ((return_both).1.operands))) (λ c goes. true≢false (sym goes)), tt)))))))))));
  falls = λ among. absurd (true≢false (sym among));
}
places_rewritten (suc b) = tt

pub product_called : RefinesUnchecked 32 names multiplies multiplies_by_call
product_called = rewriting_refines 32 names multiplies multiplies_by_call (record { entries = λ c. no_hidden; rename = λ r. r; places = places_rewritten })
