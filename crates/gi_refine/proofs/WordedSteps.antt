-- A step of an instruction of words, where its registers become words.
use Rattle.std.proofs.Common.{◌≡◌, ℕ, ◌≤◌, Bool, true, false, not, cond, List, [], ◌∷◌, map, Option, Some, None, le_refl, inl, inr, ⊎_elim, refl, sym, subst, arith}
use Rattle.gi_mir.specs.Data.{InstrData}
use Rattle.gi_mir.specs.declared.operand.Operand.{Operand}
use Rattle.gi_mir.specs.declared.operand.Operand.TheVariants as operand
use Rattle.gi_mir.specs.declared.opcode.Opcode.{Opcode}
use Rattle.gi_meaning.specs.Argument.{Argument}
use Rattle.gi_meaning.specs.State.{World, IsWorld, State, outside_of, Undefined, Place, Virtual, Physical}
use Rattle.gi_meaning.specs.Meaning.{Meaning, Copying, Jumping, Calling, Returning, Nothing, meaning_of}
use Rattle.gi_meaning.specs.Act.{Act, is_result_register}
use Rattle.gi_meaning.specs.Runs.{Setting, arguments_of, places_of, result_places, written_places, width_of_place, Progress, On, Left, Over, progress_of, StepsFrom, Steps}
use Rattle.gi_refine.specs.Agreement.{setting, Agree, all_shown}
use Rattle.gi_refine.specs.Kept.{IsKept, AreSeenAs}
use Rattle.gi_refine.specs.Simulation.{Stands, IsFollowed}
use Rattle.gi_refine.specs.Worded.{has_virtual, may_have_words, is_worded, AreWorded, IsSized, AgreeInWords}
use Rattle.gi_refine.proofs.Agreeing.{StepFollowed, progress_stands, outside_same, alone, alone_is}
use Rattle.gi_refine.proofs.Keeping.{kept_step, kept_step_stands}
use Rattle.gi_refine.proofs.Sized.{IsProgressSized, arguments_small, step_sized, AreOptionSmall}
use Rattle.gi_refine.proofs.SizedAnswers.{AtMost}
use Rattle.gi_refine.proofs.Staying.{same_uses, uses_hold_alone}
use Rattle.gi_refine.proofs.Wording.{HasValues, acts_worded}
use Rattle.gi_refine.proofs.WordingValues.{OptionWorded, arguments_worded, PlacesWorded, ActsWorded}

-- ══ One instruction ══

seen_without : (s t : Setting) (hidden : Place → Bool) (os : List Operand) → has_virtual os ≡ false → AreWorded s t hidden os → AreSeenAs s t hidden (λ r. r) os
seen_without s t hidden [] none worded = tt
seen_without s t hidden (operand.Use r ∷ os) none worded = cc
seen_without s t hidden (operand.Def r k ∷ os) none worded = cc
seen_without s t hidden (operand.Phys n ∷ os) none worded = (worded.0, seen_without s t hidden os none worded.1)
seen_without s t hidden (operand.ImplicitUse n ∷ os) none worded = (worded.0, seen_without s t hidden os none worded.1)
seen_without s t hidden (_ ∷ os) none worded = seen_without s t hidden os none worded

no_values : (os : List Operand) → has_virtual os ≡ true → not (has_virtual os) ≡ true → ⊥
no_values os has none = subst (λ b. not b ≡ true → ⊥) (sym has) (λ h. false_is h) none
  where
    false_is : false ≡ true → ⊥
    false_is e = cc

values_of : (m : Meaning) (o : Opcode) (os : List Operand) → has_virtual os ≡ true → may_have_words m o os ≡ true → HasValues m
values_of Jumping o os has h = no_values os has h
values_of Calling o os has h = no_values os has h
values_of Returning o os has h = no_values os has h
values_of Nothing o os has h = no_values os has h
values_of Copying o os has h = tt
values_of _ o os has h = tt

places_worded : (s t : Setting) (hidden : Place → Bool) (os : List Operand) → AreWorded s t hidden os → PlacesWorded s t (places_of os)
places_worded s t hidden [] worded = tt
places_worded s t hidden (operand.Def r k ∷ os) worded = (worded.0, worded.1, places_worded s t hidden os worded.2)
places_worded s t hidden (operand.Use r ∷ os) worded = places_worded s t hidden os worded.3
places_worded s t hidden (operand.Phys n ∷ os) worded = places_worded s t hidden os worded.1
places_worded s t hidden (operand.ImplicitUse n ∷ os) worded = places_worded s t hidden os worded.1
places_worded s t hidden (operand.PhysDef n ∷ os) worded = places_worded s t hidden os worded
places_worded s t hidden (_ ∷ os) worded = places_worded s t hidden os worded

either_worded : (s t : Setting) (b : Bool) (n : ℕ) (ps : List Place) → PlacesWorded s t ps → PlacesWorded s t (cond b (Physical n ∷ ps) ps)
either_worded s t true n ps worded = worded
either_worded s t false n ps worded = worded

results_worded : (s t : Setting) (os : List Operand) → PlacesWorded s t (result_places os)
results_worded s t [] = tt
results_worded s t (operand.Def r k ∷ os) = results_worded s t os
results_worded s t (operand.ImplicitDef n ∷ os) = either_worded s t (is_result_register n) n (result_places os) (results_worded s t os)
results_worded s t (_ ∷ os) = results_worded s t os

written_worded : (s t : Setting) (m : Meaning) (os : List Operand) → PlacesWorded s t (places_of os) → PlacesWorded s t (written_places m os)
written_worded s t Calling os worded = results_worded s t os
written_worded s t Nothing os worded = tt
written_worded s t Copying os worded = worded
written_worded s t _ os worded = worded

widths_within : (x : ℕ) (names : List (List ℕ)) (width width' : ℕ → ℕ) (ps : List Place) → PlacesWorded (setting x names width) (setting x names width') ps → AtMost x (map (width_of_place (setting x names width')) ps)
widths_within x names width width' [] worded = tt
widths_within x names width width' (Virtual r ∷ ps) worded = (omega (arith, worded.1), widths_within x names width width' ps worded.2)
widths_within x names width width' (Physical n ∷ ps) worded = (le_refl x, widths_within x names width width' ps worded)

-- from arguments that stand as words
step_from_words : (x : ℕ) → 32 ≤ x → (names : List (List ℕ)) (width width' : ℕ → ℕ) (w : World) (hidden : Place → Bool) (i : InstrData) → is_worded i ≡ true → HasValues (meaning_of i.flags i.op)
    → PlacesWorded (setting x names width) (setting x names width') (written_places (meaning_of i.flags i.op) i.operands) → (old new : State) → Agree (setting x names width) (setting x names width') hidden old new → IsSized x new
    → (olds news : Option (List Argument)) → OptionWorded x olds news → AreOptionSmall x news → (p' : Progress) → StepsFrom (setting x names width') w i new news p'
    → StepFollowed (setting x names width) (setting x names width') w hidden (λ c. Agree (setting x names width) (setting x names width') hidden) i old olds p'
step_from_words x wide names width width' w hidden i is_word values worded old new agree sized None news args small p' step = inr refl
step_from_words x wide names width width' w hidden i is_word values worded old new agree sized (Some olds) None args small p' step = absurd args
step_from_words x wide names width width' w hidden i is_word values worded old new agree sized (Some olds) (Some news) args small p' step =
    let s : Setting = setting x names width in
    let t : Setting = setting x names width' in
    let m : Meaning = meaning_of i.flags i.op in
    let ps : List Place = written_places m i.operands in
    let done : ActsWorded x names width width' w m i.mem ps olds (outside_of new) step.0 =
    acts_worded x wide names width width' w i is_word values i.mem ps worded olds news args small (outside_of new) sized.memory step.0 step.1 in
    inl (
      progress_of old ps done.0,
      (done.0, subst (λ outside. Act x w m i.mem (map (width_of_place s) ps) olds outside done.0) (outside_same s t hidden old new agree) done.1, refl),
      subst (λ p. Stands (Agree s t (all_shown hidden ps)) (λ c. Agree s t hidden) (progress_of old ps done.0) p) (sym step.2)
          (progress_stands s t hidden (λ c. Agree s t hidden) (record { by = λ c σ σ' h. h }) old new ps done.0 step.0 done.2 agree),
    )

worded_step : (x : ℕ) → 32 ≤ x → (names : List (List ℕ)) (width width' : ℕ → ℕ) (w : World) → IsWorld x w → (hidden : Place → Bool) (i j : InstrData) → IsKept (λ r. r) i j → is_worded i ≡ true
    → AreWorded (setting x names width) (setting x names width') hidden i.operands → (old new : State) → AgreeInWords (setting x names width) (setting x names width') hidden old new
    → (p' : Progress) → Steps (setting x names width') w j new p' → (b : Bool) → has_virtual i.operands ≡ b
    → StepFollowed (setting x names width) (setting x names width') w hidden (λ c. Agree (setting x names width) (setting x names width') hidden) i old (arguments_of (setting x names width) w old i.operands) p'
worded_step x wide names width width' w is_world hidden i j kept is_word worded old new agree p' step false has =
    kept_step_stands x names width width' w hidden (λ c. Agree (setting x names width) (setting x names width') hidden) (record { by = λ c σ σ' h. h }) (λ r. r) i j kept
    (seen_without (setting x names width) (setting x names width') hidden i.operands has worded) old new agree.agree (uses_hold_alone old i.operands) p' step
worded_step x wide names width width' w is_world hidden i j kept is_word worded old new agree p' step true has =
    let s : Setting = setting x names width in
    let t : Setting = setting x names width' in
    let m : Meaning = meaning_of i.flags i.op in
    step_from_words x wide names width width' w hidden i is_word (values_of m i.op i.operands has is_word)
    (written_worded s t m i.operands (places_worded s t hidden i.operands worded)) old new agree.agree agree.sized
    (arguments_of s w old i.operands) (arguments_of t w new i.operands) (arguments_worded x names width width' w is_world hidden old new agree.agree agree.sized i.operands worded)
    (arguments_small x names width' w is_world new agree.sized i.operands) p'
    (subst (λ os. StepsFrom t w i new (arguments_of t w new os) p') (same_uses i.operands) (kept_step (λ r. r) t w new i j p' kept step))

-- what the new run has come to is sized
stands_in_words : (s t : Setting) (hidden hidden' : Place → Bool) (p p' : Progress) → IsProgressSized s.x p' → Stands (Agree s t hidden') (λ c. Agree s t hidden) p p'
    → Stands (AgreeInWords s t hidden') (λ c. AgreeInWords s t hidden) p p'
stands_in_words s t hidden hidden' (On old) (On new) sized stands = record { agree = stands; sized = sized }
stands_in_words s t hidden hidden' (On old) (Left c new) sized stands = absurd stands
stands_in_words s t hidden hidden' (On old) (Over o) sized stands = absurd stands
stands_in_words s t hidden hidden' (Left c old) (On new) sized stands = absurd stands
stands_in_words s t hidden hidden' (Left c old) (Left d new) sized stands = (stands.0, record { agree = stands.1; sized = sized })
stands_in_words s t hidden hidden' (Left c old) (Over o) sized stands = absurd stands
stands_in_words s t hidden hidden' (Over o) (On new) sized stands = absurd stands
stands_in_words s t hidden hidden' (Over o) (Left d new) sized stands = absurd stands
stands_in_words s t hidden hidden' (Over o) (Over q) sized stands = stands

-- an instruction of words, whose registers become words
pub words_followed : (x : ℕ) → 32 ≤ x → (names : List (List ℕ)) (width width' : ℕ → ℕ) (w : World) → IsWorld x w → (hidden : Place → Bool) (i j : ℕ × InstrData) → IsKept (λ r. r) i.1 j.1 → is_worded i.1 ≡ true
    → AreWorded (setting x names width) (setting x names width') hidden i.1.operands
    → IsFollowed (setting x names width) (setting x names width') w (AgreeInWords (setting x names width) (setting x names width') hidden)
    (AgreeInWords (setting x names width) (setting x names width') (all_shown hidden (written_places (meaning_of i.1.flags i.1.op) i.1.operands)))
    (λ c. AgreeInWords (setting x names width) (setting x names width') hidden) (i ∷ []) (j ∷ [])
words_followed x wide names width width' w is_world hidden i j kept is_word worded = record {
  by = λ old new agree p' run.
      let s : Setting = setting x names width in
      let t : Setting = setting x names width' in
      let ps : List Place = written_places (meaning_of i.1.flags i.1.op) i.1.operands in
      let step : Steps t w j.1 new p' = alone_is t w j new p' run in
      let sized : IsProgressSized x p' =
      step_sized x wide names width' w is_world i.1 is_word
      (widths_within x names width width' ps (written_worded s t (meaning_of i.1.flags i.1.op) i.1.operands (places_worded s t hidden i.1.operands worded))) new agree.sized
      (arguments_of t w new i.1.operands) (arguments_small x names width' w is_world new agree.sized i.1.operands) p'
      (subst (λ os. StepsFrom t w i.1 new (arguments_of t w new os) p') (same_uses i.1.operands) (kept_step (λ r. r) t w new i.1 j.1 p' kept step)) in
      ⊎_elim
      (λ stood. inl (stood.0, alone s w i old stood.0 stood.1, stands_in_words s t hidden (all_shown hidden ps) stood.0 p' sized stood.2))
      (λ undefined. inr (alone s w i old (Over Undefined) undefined))
      (worded_step x wide names width width' w is_world hidden i.1 j.1 kept is_word worded old new agree p' step (has_virtual i.1.operands) refl);
}
