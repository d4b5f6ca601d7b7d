-- More uses, each of which breaks one premise, and what the law concludes fails.
use Rattle.std.proofs.Common.{◌≡◌, ℕ, ◌+◌, ◌*◌, false, cond, [], ◌∷◌, Option, Some, None, inl, inr, ⊎_elim, refl, sym, ap, ◌∙◌, subst, arith, ◌<◌, ◌^◌}
use Rattle.gi_llt.specs.Bits.{wrapped}
use Rattle.gi_mir.specs.Data.{InstrData}
use Rattle.gi_meaning.specs.Argument.{Value}
use Rattle.gi_meaning.specs.Generic.{ones}
use Rattle.gi_meaning.specs.Meaning.{Zeros}
use Rattle.gi_meaning.specs.Memory.{Memory, with_byte, above, loaded, stored}
use Rattle.gi_meaning.specs.State.{State, Outside, outside_of, Place, Virtual, Physical, put}
use Rattle.gi_meaning.specs.State as an_outcome
use Rattle.gi_meaning.specs.Act.{Answer, Results, Answers, StoresThere, Stores}
use Rattle.gi_meaning.specs.Act as an_answer
use Rattle.gi_meaning.specs.Runs.{On, Over}
use Rattle.gi_refine.specs.Agreement.{Agree, AgreeAt}
use Rattle.gi_refine.specs.Examples.{counting, s32, constant_in}
use Rattle.gi_refine_cases.specs.IdleValues.{quiet, words_32, bytes_32, all_32, first_of_8, holding, Followed, copy_of, copy_same, copy_placed, IsGoodUse, AllBut}
use Rattle.gi_refine_cases.specs.IdleValues.Premise.{OldPure, NewPure, OldShown, NewShown, OldFresh, OldWidths}
use Rattle.gi_refine_cases.specs.IdleValuesMore.{store_dropped, store_placed, store_made, load_placed, store_in, load_in, input_kept, overwriting, copy_made, new_copy_placed, count_same, count_of, AgreeUnread}
use Rattle.gi_refine.specs.Lifting.{IsReady, AgreeReady}
use Rattle.gi_refine.specs.OnePlace.{only_virtual, nothing, only}
use Rattle.gi_refine.specs.Simulation.{IsFollowed, Stands}
use Rattle.gi_refine.specs.Values.{IsSound, Makes, MayMake, Environment, Rule, Then, answered, AllHold}
use Rattle.gi_refine.proofs.Covering.{covered_by}
use Rattle.gi_refine.proofs.Doing.{gives_one, does_from, does_next, does_none, DoesAll}
use Rattle.gi_refine_cases.proofs.IdleValues.{refuted, two_values, copy_does, constant_does, agree_itself, copy_same_sound, byte_and_word}
use Rattle.gi_refine.proofs.RuleSteps.{exactly}
use Rattle.gi_refine_cases.proofs.TrialLoads.{aligned_to_one, one_byte, undefined_may}
use Rattle.std.proofs.lemmas.Option.{same_Some}

-- what is hidden nowhere is shown
all_shown_before : (p : Place) → only_virtual (only 2) p ≡ false → only_virtual nothing p ≡ false
all_shown_before (Virtual r) h = refl
all_shown_before (Physical n) h = refl

-- ══ Stores of a byte ══

-- any address will do
store_goes : (v a : ℕ) (outside : Outside) (answer : Answer) → Stores 32 1 1 a v outside answer → StoresThere (loaded 32 1 outside.memory a) 32 1 a v outside answer
store_goes v a outside answer h =
    subst (λ b. cond b (StoresThere (loaded 32 1 outside.memory a) 32 1 a v outside answer) (answer ≡ an_answer.Undefined)) (aligned_to_one a) h

store_may : (v a : ℕ) (outside : Outside) (answer : Answer) → StoresThere (loaded 32 1 outside.memory a) 32 1 a v outside answer → Stores 32 1 1 a v outside answer
store_may v a outside answer h =
    subst (λ b. cond b (StoresThere (loaded 32 1 outside.memory a) 32 1 a v outside answer) (answer ≡ an_answer.Undefined)) (sym (aligned_to_one a)) h

abbrev at_byte : Option ℕ → Option ℕ
at_byte byte = with_byte byte (above (Some 0))

abbrev two_words : (v a : ℕ) → Environment
two_words v a = (32, v) ∷ (32, a) ∷ []

abbrev after_store : (v a : ℕ) → Outside → Outside
after_store v a outside = record outside { memory = stored 32 1 outside.memory a v }

-- a store against nothing: where the byte isn't there, the store is undefined
dropped_by : (v a : ℕ) (outside : Outside) (byte : Option ℕ) → outside.memory (wrapped 32 a) ≡ byte → MayMake 32 quiet outside store_dropped (two_words v a) (Some (two_words v a))
dropped_by v a outside None is =
    inr (an_answer.Undefined, store_may v a outside an_answer.Undefined (subst (λ b. StoresThere (at_byte b) 32 1 a v outside an_answer.Undefined) (sym is) refl), refl)
dropped_by v a outside (Some byte) is =
    let answer : Answer = Results [] (after_store v a outside) in
    inl (two_words v a, (answer, store_may v a outside answer (subst (λ b. StoresThere (at_byte b) 32 1 a v outside answer) (sym is) refl), refl), tt)

store_dropped_sound : IsSound 32 quiet store_dropped
store_dropped_sound = record {
  by = λ outside v v_fits a a_fits facts made makes.
      subst (MayMake 32 quiet outside store_dropped (two_words v a)) (sym makes) (dropped_by v a outside (outside.memory (wrapped 32 a)) refl);
}

-- a store against a load: they are undefined alike
made_by : (v a : ℕ) (outside : Outside) (made : Option Environment) (byte : Option ℕ) → outside.memory (wrapped 32 a) ≡ byte → Makes 32 quiet outside store_made.new (two_words v a) made
    → MayMake 32 quiet outside store_made (two_words v a) made
made_by v a outside made None is makes =
    undefined_may 32 quiet outside store_made (two_words v a) made
    (an_answer.Undefined, subst (λ g. Answers g outside an_answer.Undefined) (sym (one_byte 32 32 Zeros outside.memory a None is)) refl, refl)
made_by v a outside made (Some byte) is makes =
    let answers : makes.0 ≡ Results [] (after_store v a outside) =
    subst (λ b. StoresThere (at_byte b) 32 1 a v outside makes.0) is (store_goes v a outside makes.0 makes.1) in
    let made_is : made ≡ Some (two_words v a) = made_from makes.0 (after_store v a outside) made answers makes.2 in
    let b : ℕ = byte + 256 * 0 in
    let loads : Answer = Results (b ∷ []) outside in
    subst (MayMake 32 quiet outside store_made (two_words v a)) (sym made_is)
    (inl (
      (32, v) ∷ (32, a) ∷ (32, b) ∷ [],
      (loads, subst (λ g. Answers g outside loads) (sym (one_byte 32 32 Zeros outside.memory a (Some byte) is)) (b ∷ [], refl, refl), refl),
      tt,
    ))
  where
    made_from : (answer : Answer) (out : Outside) (made : Option Environment) → answer ≡ Results [] out → Then (answered (two_words v a) [] answer) (λ e m. m ≡ Some e) made → made ≡ Some (two_words v a)
    made_from answer out made is more = subst (λ r. Then (answered (two_words v a) [] r) (λ e m. m ≡ Some e) made) is more

store_made_sound : IsSound 32 quiet store_made
store_made_sound = record {
  by = λ outside v v_fits a a_fits facts made makes. made_by v a outside made (outside.memory (wrapped 32 a)) refl makes;
}

-- ══ Runs of a store and of a load ══

-- 3 is stored at 0
abbrev three : State
three = holding (Some 3) (Some 0)

abbrev three_stored : State
three_stored = record three { memory = stored 32 1 counting 0 3 }

store_does : DoesAll words_32 quiet (store_in ∷ []) three (On three_stored)
store_does =
    does_next words_32 quiet store_in [] three three_stored _
    (does_from words_32 quiet store_in three (Value 32 3 ∷ Value 32 0 ∷ []) (Results [] (outside_of three_stored)) (On three_stored) refl
    (record { can = refl; only = λ other h. h }) refl)
    (does_none words_32 quiet three_stored)

load_does : DoesAll words_32 quiet (load_in ∷ []) three (On (put three (Virtual 2) 0))
load_does =
    does_next words_32 quiet load_in [] three (put three (Virtual 2) 0) _
    (does_from words_32 quiet load_in three (Value 32 0 ∷ []) (Results (0 ∷ []) (outside_of three)) (On (put three (Virtual 2) 0)) refl
    (record { can = (0 ∷ [], refl, refl); only = gives_one 0 (outside_of three) }) refl)
    (does_none words_32 quiet (put three (Virtual 2) 0))

-- memories with two bytes at one place
two_memories : (a b : Memory) (v u : ℕ) → a 0 ≡ Some v → b 0 ≡ Some u → (v ≡ u → ⊥) → a ≡ b → ⊥
two_memories a b v u is_a is_b apart same = apart (same_Some v u (sym is_a ∙ ap (λ m. m 0) same ∙ is_b))

three_ready : (rule : Rule) → rule.facts ≡ [] → AgreeReady words_32 words_32 quiet rule (0 ∷ 1 ∷ []) (only_virtual nothing) three three
three_ready rule none = record {
  agree = agree_itself (only_virtual nothing) three;
  ready = record {
    env = two_words 3 0;
    read = (refl, refl, (refl, refl, tt));
    sized = (omega arith, (omega arith, tt));
    facts = subst (AllHold 32 quiet (outside_of three) (two_words 3 0)) (sym none) tt;
  };
}

pub dropped_use : AllBut OldPure all_32 all_32 store_dropped store_placed nothing nothing (store_in ∷ []) []
dropped_use = record {
  sound = store_dropped_sound;
  old_pure = tt;
  new_pure = refl;
  old_shown = (record { op = refl; flags = refl; mem = refl; operands = (refl, (refl, tt)); widths = refl }, tt);
  new_shown = tt;
  old_fresh = refl;
  new_fresh = refl;
  old_widths = refl;
  new_widths = refl;
  seen = refl;
  covered = covered_by (only_virtual nothing) (only_virtual nothing) store_dropped store_placed refl (λ p h. h);
}

pub dropped_store_fails : Followed words_32 words_32 store_dropped store_placed nothing nothing (store_in ∷ []) [] → ⊥
dropped_store_fails =
    refuted words_32 words_32 quiet _ _ _ (store_in ∷ []) [] three three three_stored three (three_ready store_dropped refl)
    store_does (does_none words_32 quiet three)
    (λ agree. two_memories counting three_stored.memory 0 3 refl refl (λ no. absurd (omega (arith, no))) agree.memory)

pub made_use : AllBut NewPure all_32 all_32 store_made load_placed nothing (only 2) (load_in ∷ []) (store_in ∷ [])
made_use = record {
  sound = store_made_sound;
  old_pure = refl;
  new_pure = tt;
  old_shown = (record { op = refl; flags = refl; mem = refl; operands = (refl, (refl, tt)); widths = refl }, tt);
  new_shown = (record { op = refl; flags = refl; mem = refl; operands = (refl, (refl, tt)); widths = refl }, tt);
  old_fresh = refl;
  new_fresh = refl;
  old_widths = refl;
  new_widths = refl;
  seen = refl;
  covered = covered_by (only_virtual nothing) (only_virtual (only 2)) store_made load_placed refl all_shown_before;
}

pub made_store_fails : Followed words_32 words_32 store_made load_placed nothing (only 2) (load_in ∷ []) (store_in ∷ []) → ⊥
made_store_fails =
    refuted words_32 words_32 quiet _ _ _ (load_in ∷ []) (store_in ∷ []) three three (put three (Virtual 2) 0) three_stored (three_ready store_made refl)
    load_does store_does
    (λ agree. two_memories three_stored.memory counting 3 0 refl refl (λ no. absurd (omega (arith, no))) agree.memory)

-- ══ Other instructions ══

abbrev zero_in : ℕ × InstrData
zero_in = constant_in 2 32 0 s32

copy_ready : (a : ℕ) → a < 2 ^ 32 → IsReady words_32 quiet copy_same (0 ∷ []) (holding (Some a) None)
copy_ready a fits = record { env = (32, a) ∷ []; read = (refl, refl, tt); sized = (fits, tt); facts = tt }

copy_agree : AgreeReady words_32 words_32 quiet copy_same (0 ∷ []) (only_virtual nothing) (holding (Some 3) None) (holding (Some 3) None)
copy_agree = record { agree = agree_itself (only_virtual nothing) (holding (Some 3) None); ready = copy_ready 3 (omega arith) }

pub other_old_use : AllBut OldShown all_32 all_32 copy_same copy_placed nothing nothing (zero_in ∷ []) (copy_of 0 ∷ [])
other_old_use = record {
  sound = copy_same_sound;
  old_pure = refl;
  new_pure = refl;
  old_shown = tt;
  new_shown = (record { op = refl; flags = refl; mem = refl; operands = (refl, (refl, tt)); widths = refl }, tt);
  old_fresh = refl;
  new_fresh = refl;
  old_widths = refl;
  new_widths = refl;
  seen = refl;
  covered = covered_by (only_virtual nothing) (only_virtual nothing) copy_same copy_placed refl (λ p h. h);
}

pub other_new_use : AllBut NewShown all_32 all_32 copy_same copy_placed nothing nothing (copy_of 0 ∷ []) (zero_in ∷ [])
other_new_use = record {
  sound = copy_same_sound;
  old_pure = refl;
  new_pure = refl;
  old_shown = (record { op = refl; flags = refl; mem = refl; operands = (refl, (refl, tt)); widths = refl }, tt);
  new_shown = tt;
  old_fresh = refl;
  new_fresh = refl;
  old_widths = refl;
  new_widths = refl;
  seen = refl;
  covered = covered_by (only_virtual nothing) (only_virtual nothing) copy_same copy_placed refl (λ p h. h);
}

zero_does : (state : State) → DoesAll words_32 quiet (zero_in ∷ []) state (On (put state (Virtual 2) 0))
zero_does state = constant_does state 2 [] (put state (Virtual 2) 0) (does_none words_32 quiet (put state (Virtual 2) 0))

pub other_old_fails : Followed words_32 words_32 copy_same copy_placed nothing nothing (zero_in ∷ []) (copy_of 0 ∷ []) → ⊥
other_old_fails =
    let state : State = holding (Some 3) None in
    refuted words_32 words_32 quiet _ _ _ (zero_in ∷ []) (copy_of 0 ∷ []) state state (put state (Virtual 2) 0) (put state (Virtual 2) 3) copy_agree
    (zero_does state) (copy_does state 0 3 refl)
    (two_values nothing 2 0 3 (put state (Virtual 2) 0) (put state (Virtual 2) 3) refl refl refl (λ no. absurd (omega (arith, no))))

pub other_new_fails : Followed words_32 words_32 copy_same copy_placed nothing nothing (copy_of 0 ∷ []) (zero_in ∷ []) → ⊥
other_new_fails =
    let state : State = holding (Some 3) None in
    refuted words_32 words_32 quiet _ _ _ (copy_of 0 ∷ []) (zero_in ∷ []) state state (put state (Virtual 2) 3) (put state (Virtual 2) 0) copy_agree
    (copy_does state 0 3 refl) (zero_does state)
    (two_values nothing 2 3 0 (put state (Virtual 2) 3) (put state (Virtual 2) 0) refl refl refl (λ no. absurd (omega (arith, no))))

-- ══ An old result that overwrites an input ══

input_kept_sound : IsSound 32 quiet input_kept
input_kept_sound = record {
  by = λ outside v fits facts made makes.
      subst (MayMake 32 quiet outside input_kept ((32, v) ∷ [])) (sym makes) (inl ((32, v) ∷ (32, 0) ∷ [], (Results (0 ∷ []) outside, (0 ∷ [], refl, refl), refl), (refl, tt)));
}

pub overwriting_use : AllBut OldFresh all_32 all_32 input_kept overwriting nothing nothing (constant_in 0 32 0 s32 ∷ []) []
overwriting_use = record {
  sound = input_kept_sound;
  old_pure = refl;
  new_pure = refl;
  old_shown = (record { op = refl; flags = refl; mem = refl; operands = (refl, (refl, tt)); widths = refl }, tt);
  new_shown = tt;
  old_fresh = tt;
  new_fresh = refl;
  old_widths = refl;
  new_widths = refl;
  seen = refl;
  covered = covered_by (only_virtual nothing) (only_virtual nothing) input_kept overwriting refl (λ p h. h);
}

pub overwriting_fails : Followed words_32 words_32 input_kept overwriting nothing nothing (constant_in 0 32 0 s32 ∷ []) [] → ⊥
overwriting_fails =
    let state : State = holding (Some 3) None in
    refuted words_32 words_32 quiet _ _ _ (constant_in 0 32 0 s32 ∷ []) [] state state (put state (Virtual 0) 0) state
    (record { agree = agree_itself (only_virtual nothing) state; ready = record { env = (32, 3) ∷ []; read = (refl, refl, tt); sized = (omega arith, tt); facts = tt } })
    (constant_does state 0 [] (put state (Virtual 0) 0) (does_none words_32 quiet (put state (Virtual 0) 0)))
    (does_none words_32 quiet state)
    (two_values nothing 0 0 3 (put state (Virtual 0) 0) state refl refl refl (λ no. absurd (omega (arith, no))))

-- ══ An input of another width in the old function ══

count_same_sound : IsSound 32 quiet count_same
count_same_sound = record {
  by = λ outside v fits facts made makes.
      let c : ℕ = ones 32 v in
      let is : made ≡ Some ((32, v) ∷ (32, c) ∷ []) = exactly (c ∷ []) outside makes.0 ((32, v) ∷ []) (32 ∷ []) (Makes 32 quiet outside []) made makes.1 makes.2 in
      subst (MayMake 32 quiet outside count_same ((32, v) ∷ [])) (sym is) (inl ((32, v) ∷ (32, c) ∷ [], (Results (c ∷ []) outside, (c ∷ [], refl, refl), refl), (refl, tt)));
}

pub count_use : AllBut OldWidths first_of_8 all_32 count_same copy_placed nothing nothing (count_of 0 ∷ []) (count_of 0 ∷ [])
count_use = record {
  sound = count_same_sound;
  old_pure = refl;
  new_pure = refl;
  old_shown = (record { op = refl; flags = refl; mem = refl; operands = (refl, (refl, tt)); widths = refl }, tt);
  new_shown = (record { op = refl; flags = refl; mem = refl; operands = (refl, (refl, tt)); widths = refl }, tt);
  old_fresh = refl;
  new_fresh = refl;
  old_widths = tt;
  new_widths = refl;
  seen = refl;
  covered = covered_by (only_virtual nothing) (only_virtual nothing) count_same copy_placed refl (λ p h. h);
}

pub count_fails : Followed bytes_32 words_32 count_same copy_placed nothing nothing (count_of 0 ∷ []) (count_of 0 ∷ []) → ⊥
count_fails =
    let state : State = holding (Some 3) None in
    let state' : State = holding (Some 259) None in
    refuted bytes_32 words_32 quiet _ _ _ (count_of 0 ∷ []) (count_of 0 ∷ []) state state' (put state (Virtual 2) 2) (put state' (Virtual 2) 3)
    (record { agree = byte_and_word; ready = record { env = (8, 3) ∷ []; read = (refl, refl, tt); sized = (omega arith, tt); facts = tt } })
    (does_next bytes_32 quiet (count_of 0) [] state (put state (Virtual 2) 2) _
    (does_from bytes_32 quiet (count_of 0) state (Value 8 3 ∷ []) (Results (2 ∷ []) (outside_of state)) (On (put state (Virtual 2) 2)) refl
    (record { can = (2 ∷ [], refl, refl); only = gives_one 2 (outside_of state) }) refl)
    (does_none bytes_32 quiet (put state (Virtual 2) 2)))
    (does_next words_32 quiet (count_of 0) [] state' (put state' (Virtual 2) 3) _
    (does_from words_32 quiet (count_of 0) state' (Value 32 259 ∷ []) (Results (3 ∷ []) (outside_of state')) (On (put state' (Virtual 2) 3)) refl
    (record { can = (3 ∷ [], refl, refl); only = gives_one 3 (outside_of state') }) refl)
    (does_none words_32 quiet (put state' (Virtual 2) 3)))
    (λ agree. let no : 3 ≡ 2 = agree.values 2 refl in absurd (omega (arith, no)))

-- ══ An input without a value ══

copy_made_sound : IsSound 32 quiet copy_made
copy_made_sound = record {
  by = λ outside v fits facts made makes.
      let is : made ≡ Some ((32, v) ∷ (32, v) ∷ []) = exactly (v ∷ []) outside makes.0 ((32, v) ∷ []) (32 ∷ []) (Makes 32 quiet outside []) made makes.1 makes.2 in
      subst (MayMake 32 quiet outside copy_made ((32, v) ∷ [])) (sym is) (inl ((32, v) ∷ [], refl, tt));
}

pub new_copy_use : IsGoodUse all_32 all_32 copy_made new_copy_placed nothing (only 2) [] (copy_of 0 ∷ [])
new_copy_use = record {
  sound = copy_made_sound;
  placed = record {
    old_pure = refl;
    new_pure = refl;
    old_shown = tt;
    new_shown = (record { op = refl; flags = refl; mem = refl; operands = (refl, (refl, tt)); widths = refl }, tt);
    old_fresh = refl;
    new_fresh = refl;
    old_widths = refl;
    new_widths = refl;
    seen = refl;
    covered = covered_by (only_virtual nothing) (only_virtual (only 2)) copy_made new_copy_placed refl all_shown_before;
  };
}

pub unread_fails : IsFollowed words_32 words_32 quiet (AgreeUnread words_32 words_32 copy_made nothing) (Agree words_32 words_32 (only_virtual (only 2)))
    (AgreeAt words_32 words_32 (λ b. only_virtual (only 2))) [] (copy_of 0 ∷ []) → ⊥
unread_fails followed =
    let state : State = holding None None in
    ⊎_elim
    (λ stood. subst (λ p. Stands (Agree words_32 words_32 (only_virtual (only 2))) (AgreeAt words_32 words_32 (λ b. only_virtual (only 2))) p (Over an_outcome.Undefined)) stood.1 stood.2)
    (λ undefined. let no : Over an_outcome.Undefined ≡ On state = undefined in cc)
    (followed.by state state
    (record { agree = agree_itself (only_virtual nothing) state; env = (32, 3) ∷ []; widths = refl; sized = (omega arith, tt); facts = tt })
    (Over an_outcome.Undefined) (Over an_outcome.Undefined, refl, refl))

-- ══ States that don't agree ══

pub same_copy_use : IsGoodUse all_32 all_32 copy_same copy_placed nothing nothing (copy_of 0 ∷ []) (copy_of 0 ∷ [])
same_copy_use = record {
  sound = copy_same_sound;
  placed = record {
    old_pure = refl;
    new_pure = refl;
    old_shown = (record { op = refl; flags = refl; mem = refl; operands = (refl, (refl, tt)); widths = refl }, tt);
    new_shown = (record { op = refl; flags = refl; mem = refl; operands = (refl, (refl, tt)); widths = refl }, tt);
    old_fresh = refl;
    new_fresh = refl;
    old_widths = refl;
    new_widths = refl;
    seen = refl;
    covered = covered_by (only_virtual nothing) (only_virtual nothing) copy_same copy_placed refl (λ p h. h);
  };
}

pub apart_fails : IsFollowed words_32 words_32 quiet (λ old new. IsReady words_32 quiet copy_same (0 ∷ []) old) (Agree words_32 words_32 (only_virtual nothing))
    (AgreeAt words_32 words_32 (λ b. only_virtual nothing)) (copy_of 0 ∷ []) (copy_of 0 ∷ []) → ⊥
apart_fails =
    let state : State = holding (Some 3) None in
    let state' : State = holding (Some 4) None in
    refuted words_32 words_32 quiet _ _ _ (copy_of 0 ∷ []) (copy_of 0 ∷ []) state state' (put state (Virtual 2) 3) (put state' (Virtual 2) 4)
    (copy_ready 3 (omega arith)) (copy_does state 0 3 refl) (copy_does state' 0 4 refl)
    (two_values nothing 2 3 4 (put state (Virtual 2) 3) (put state' (Virtual 2) 4) refl refl refl (λ no. absurd (omega (arith, no))))
