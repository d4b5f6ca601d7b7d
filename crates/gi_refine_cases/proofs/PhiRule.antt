-- The trial rule of a phi, in steps: what comes first stands beside the old code where nothing reads it, and has its value in
-- reached states from then on.
use Rattle.std.proofs.Common.{◌≡◌, ℕ, zero, suc, ◌%◌, ◌^◌, Bool, true, false, cond, ◌||◌, ◌==◌, if◌then◌else◌, List, [], ◌∷◌, Option, Some, None, option_map, slice_get, unwrap_or, ◌⊎◌, inl, inr, refl, sym, ap, ◌∙◌, subst}
use Rattle.std.proofs.lemmas.Option.{none-some}
use Rattle.std.proofs.lemmas.Bool.{eqb-true}
use Rattle.std.proofs.Math.Nat.{mod-mod}
use Rattle.gi_mir.specs.Data.{InstrData, BlockData, FunctionData}
use Rattle.gi_mir.specs.declared.operand.Operand.{Operand}
use Rattle.gi_meaning.specs.Argument.{Argument, Value, To}
use Rattle.gi_meaning.specs.Meaning.{meaning_of}
use Rattle.gi_meaning.specs.State.{World, IsWorld, State, outside_of, Place, Virtual, word_in, put}
use Rattle.gi_meaning.specs.Act.{Results, Leaves, machine_branch}
use Rattle.gi_meaning.specs.Runs.{Setting, setting_of, written_places, Progress, On, progress_of, StepsFrom, Steps, arguments_of, Executes, phis_of, joined, joined_lists, value_at, from_block, put_value}
use Rattle.gi_refine.specs.Agreement.{ValueStands, Agree, AgreeAt, all_shown}
use Rattle.gi_refine.specs.Evaluation.{step_from, then_on, steps_of}
use Rattle.gi_refine.specs.Examples.{names, s32, copy_in, copy_out, return_of, block_of, s16}
use Rattle.gi_refine.specs.Kept.{HasSameValue}
use Rattle.gi_refine.specs.OnePlace.{only_virtual, nothing, only}
use Rattle.gi_refine_cases.specs.Trials.{extension, truncation, phi_of, choice, on_to_2, narrow_phi, with_extensions, with_wide_phi, with_truncation, wide_phi}
use Rattle.gi_refine.specs.Reached.{Arrives, IsReached, WhereReached}
use Rattle.gi_refine.specs.Refinement.{RefinesUnchecked}
use Rattle.gi_refine.specs.Rewriting.{Kept, Changed, Covers, PieceFollows, PhisFollow, RewrittenAt, shown_by_phis}
use Rattle.gi_refine.specs.Simulation.{PhisStand}
use Rattle.gi_refine.proofs.Basics.{some_is}
use Rattle.gi_refine.proofs.Agreeing.{same_value}
use Rattle.gi_refine.proofs.Evaluating.{steps_so}
use Rattle.gi_refine_cases.proofs.StayingTested.{seen_by, all_seen_by, alone_holds}
use Rattle.gi_refine_cases.proofs.Inserting.{hide_put, hide_put_old, inserted_follows, put_has, IsAt, arrives_from}
use Rattle.gi_refine.proofs.Keeping.{RegisterSeen, taken_same, from_seen, all_shown_less, phis_stand, phis_within, put_values_stand, agree_but, shown_by_phis_less}
use Rattle.gi_refine.proofs.Refining.{refines_through}
use Rattle.gi_refine.proofs.RewritingFollows.{covers_so, hides_so, kept_phis_follow, rewriting_refines}
use Rattle.gi_refine.proofs.Staying.{kept_reused, all_kept_reused, phis_hold_alone, has_same_value}

-- ══ Values at a point ══

abbrev value_come : ℕ → Progress → Option ℕ
value_come r (On state) = state.values r
value_come r _ = None

-- what a register holds behind instructions that go one way
behind : (s : Setting) (w : World) (is : List (ℕ × InstrData)) (r : ℕ) (middle state end : State) → Executes s w is middle (On state) → steps_of s w is middle ≡ Some (On end) → state.values r ≡ end.values r
behind s w is r middle state end run steps = ap (value_come r) ((steps_so s w is middle (On end) steps).only (On state) run)

-- the new register holds it too
held_too : (s t : Setting) (hidden : ℕ → Bool) (old new : State) → Agree s t (only_virtual hidden) old new → (r v m : ℕ) → hidden r ≡ false → s.width r ≡ m → t.width r ≡ m → old.values r ≡ Some v → new.values r ≡ Some v
held_too s t hidden old new agree r v m seen is is' has =
    subst (λ (o : Option ℕ). HasSameValue o (new.values r)) has
    (same_value s.x m (old.values r) (new.values r)
    (subst (λ k. ValueStands s.x k m (old.values r) (new.values r)) is (subst (λ k. ValueStands s.x (s.width r) k (old.values r) (new.values r)) is' (agree.values r seen))))

-- a branch on two words changes nothing
branch_at : (x : ℕ) (test : ℕ → ℕ → ℕ → Bool) (state : State) (arguments : List Argument) → IsAt state (progress_of state [] (machine_branch x test arguments (outside_of state)))
branch_at x test state (Value l a ∷ Value m b ∷ To c ∷ []) = either (test x a b)
  where
    either : (t : Bool) → IsAt state (progress_of state [] (if t then Leaves c else Results [] (outside_of state)))
    either true = refl
    either false = refl
branch_at x test state _ = tt

choice_from : (s : Setting) (w : World) (state : State) (arguments : Option (List Argument)) (p : Progress) → StepsFrom s w choice.1 state arguments p → IsAt state p
choice_from s w state None p step = subst (IsAt state) (sym step) tt
choice_from s w state (Some arguments) p step = subst (IsAt state) (sym (step.2 ∙ ap (progress_of state []) step.1.2)) (branch_at s.x (λ x a b. a == b) state step.1.0)

choice_at : (s : Setting) (w : World) (state : State) (p : Progress) → Steps s w choice.1 state p → IsAt state p
choice_at s w state p step = choice_from s w state (arguments_of s w state choice.1.operands) p step

on_at : (s : Setting) (w : World) (state : State) (p : Progress) → Steps s w on_to_2.1 state p → IsAt state p
on_at s w state p step = subst (IsAt state) (sym (step.2 ∙ ap (progress_of state []) step.1)) refl

-- ══ What is hidden ══

abbrev extensions : ℕ → Bool
extensions r = (r == 5) || (r == 6)

-- 8 replaces 2
abbrev two_by_eight : ℕ → ℕ
two_by_eight r = if r == 2 then 8 else r

phis_cover : (now : Place → Bool) (is : List (ℕ × InstrData)) → Covers (shown_by_phis now is) now
phis_cover now is = record { by = λ p h. shown_by_phis_less now is p h }

-- ══ At the entry of the block where both meet ══

-- what the narrow phi takes, the wide one takes too
abbrev BothTaken : (narrow wide : Option ℕ) → Type 0
BothTaken narrow wide = (narrow ≡ None) ⊎ ((k : ℕ) × (narrow ≡ Some (k % 2 ^ 16)) × (wide ≡ Some (k % 2 ^ 16)))

both_by : (s : Setting) (w : World) (entered : State) (k : ℕ) (first second : Bool) → (0 == k) ≡ first → (1 == k) ≡ second
    → (0 ≡ k → (m : State) × (entered ≡ put (put m (Virtual 0) (word_in m 10 % 2 ^ 16)) (Virtual 5) (word_in m 10 % 2 ^ 16)))
    → (1 ≡ k → (m : State) × (entered ≡ put (put m (Virtual 1) (word_in m 11 % 2 ^ 16)) (Virtual 6) (word_in m 11 % 2 ^ 16)))
    → BothTaken (value_at entered (cond first (Some 0) (cond second (Some 1) None))) (value_at entered (cond first (Some 5) (cond second (Some 6) None)))
both_by s w entered k true second is is' at_0 at_1 =
    let come : (m : State) × (entered ≡ put (put m (Virtual 0) (word_in m 10 % 2 ^ 16)) (Virtual 5) (word_in m 10 % 2 ^ 16)) = at_0 (eqb-true 0 k is) in
    inr (word_in come.0 10, ap (λ (e : State). e.values 0) come.1, ap (λ (e : State). e.values 5) come.1)
both_by s w entered k false true is is' at_0 at_1 =
    let come : (m : State) × (entered ≡ put (put m (Virtual 1) (word_in m 11 % 2 ^ 16)) (Virtual 6) (word_in m 11 % 2 ^ 16)) = at_1 (eqb-true 1 k is') in
    inr (word_in come.0 11, ap (λ (e : State). e.values 1) come.1, ap (λ (e : State). e.values 6) come.1)
both_by s w entered k false false is is' at_0 at_1 = inl refl

-- in a function with these two blocks first
both_taken : (f : FunctionData) (w : World) → slice_get f.blocks 0 ≡ Some (block_of (2 ∷ 1 ∷ []) (copy_in 0 10 s16 ∷ extension 5 0 ∷ choice ∷ [])) → slice_get f.blocks 1 ≡ Some (block_of (2 ∷ []) (copy_in 1 11 s16 ∷ extension 6 1 ∷ on_to_2 ∷ []))
    → ((m : State) → steps_of (setting_of 32 names f) w (copy_in 0 10 s16 ∷ extension 5 0 ∷ []) m ≡ Some (On (put (put m (Virtual 0) (word_in m 10 % 2 ^ 16)) (Virtual 5) (word_in m 10 % 2 ^ 16))))
    → ((m : State) → steps_of (setting_of 32 names f) w (copy_in 1 11 s16 ∷ extension 6 1 ∷ []) m ≡ Some (On (put (put m (Virtual 1) (word_in m 11 % 2 ^ 16)) (Virtual 6) (word_in m 11 % 2 ^ 16))))
    → (n : ℕ) (from : Option ℕ) (entered : State) → Arrives (setting_of 32 names f) w f.blocks n from 2 entered
    → BothTaken (value_at entered (from_block from ((phi_of 2 0 1 s16).1.operands))) (value_at entered (from_block from ((phi_of 7 5 6 s32).1.operands)))
both_taken f w here_0 here_1 steps_0 steps_1 n None entered arrives = inl refl
both_taken f w here_0 here_1 steps_0 steps_1 n (Some k) entered arrives =
    let s : Setting = setting_of 32 names f in
    both_by s w entered k (0 == k) (1 == k) refl refl
    (λ is. arrives_from s w f.blocks 0 _ here_0 (copy_in 0 10 s16 ∷ extension 5 0 ∷ []) choice refl (λ m. put (put m (Virtual 0) (word_in m 10 % 2 ^ 16)) (Virtual 5) (word_in m 10 % 2 ^ 16)) steps_0 (λ state p step. choice_at s w state p step)
    n 2 entered (subst (λ j. Arrives s w f.blocks n (Some j) 2 entered) (sym is) arrives))
    (λ is. arrives_from s w f.blocks 1 _ here_1 (copy_in 1 11 s16 ∷ extension 6 1 ∷ []) on_to_2 refl (λ m. put (put m (Virtual 1) (word_in m 11 % 2 ^ 16)) (Virtual 6) (word_in m 11 % 2 ^ 16)) steps_1 (λ state p step. on_at s w state p step)
    n 2 entered (subst (λ j. Arrives s w f.blocks n (Some j) 2 entered) (sym is) arrives))

-- ══ The extensions ══

first_extension : (w : World) → IsWorld 32 w → PieceFollows 32 names narrow_phi with_extensions (λ b. (only_virtual extensions)) (λ r. r) w 0 (copy_in 0 10 s16 ∷ []) (only_virtual extensions) (only_virtual extensions) (Changed [] (extension 5 0 ∷ []))
first_extension w is_world =
    inserted_follows (setting_of 32 names narrow_phi) (setting_of 32 names with_extensions) w (WhereReached (setting_of 32 names narrow_phi) w narrow_phi.blocks 0 (copy_in 0 10 s16 ∷ []) (Agree (setting_of 32 names narrow_phi) (setting_of 32 names with_extensions) (only_virtual extensions))) extensions (AgreeAt (setting_of 32 names narrow_phi) (setting_of 32 names with_extensions) (λ b. (only_virtual extensions))) (extension 5 0) 5 refl
    (λ old new related.
    let has : (v : ℕ) × (old.values 0 ≡ Some v) = (word_in related.reached.middle 10 % 2 ^ 16, behind (setting_of 32 names narrow_phi) w (copy_in 0 10 s16 ∷ []) 0 related.reached.middle old (put related.reached.middle (Virtual 0) (word_in related.reached.middle 10 % 2 ^ 16)) related.reached.ran refl) in
    let has' : new.values 0 ≡ Some has.0 = held_too (setting_of 32 names narrow_phi) (setting_of 32 names with_extensions) extensions old new related.relates 0 has.0 16 refl refl refl has.1 in
    (has.0, ap (λ o. then_on (step_from (setting_of 32 names with_extensions) ((extension 5 0).1) new (joined_lists (Some []) (joined_lists (option_map (λ u. Value 16 u ∷ []) o) (Some [])))) (λ state. Some (On state))) has'))
    (λ old new related. related.relates)

second_extension : (w : World) → IsWorld 32 w → PieceFollows 32 names narrow_phi with_extensions (λ b. (only_virtual extensions)) (λ r. r) w 1 (copy_in 1 11 s16 ∷ []) (only_virtual extensions) (only_virtual extensions) (Changed [] (extension 6 1 ∷ []))
second_extension w is_world =
    inserted_follows (setting_of 32 names narrow_phi) (setting_of 32 names with_extensions) w (WhereReached (setting_of 32 names narrow_phi) w narrow_phi.blocks 1 (copy_in 1 11 s16 ∷ []) (Agree (setting_of 32 names narrow_phi) (setting_of 32 names with_extensions) (only_virtual extensions))) extensions (AgreeAt (setting_of 32 names narrow_phi) (setting_of 32 names with_extensions) (λ b. (only_virtual extensions))) (extension 6 1) 6 refl
    (λ old new related.
    let has : (v : ℕ) × (old.values 1 ≡ Some v) = (word_in related.reached.middle 11 % 2 ^ 16, behind (setting_of 32 names narrow_phi) w (copy_in 1 11 s16 ∷ []) 1 related.reached.middle old (put related.reached.middle (Virtual 1) (word_in related.reached.middle 11 % 2 ^ 16)) related.reached.ran refl) in
    let has' : new.values 1 ≡ Some has.0 = held_too (setting_of 32 names narrow_phi) (setting_of 32 names with_extensions) extensions old new related.relates 1 has.0 16 refl refl refl has.1 in
    (has.0, ap (λ o. then_on (step_from (setting_of 32 names with_extensions) ((extension 6 1).1) new (joined_lists (Some []) (joined_lists (option_map (λ u. Value 16 u ∷ []) o) (Some [])))) (λ state. Some (On state))) has'))
    (λ old new related. related.relates)

extended_places : (b : ℕ) → RewrittenAt 32 names narrow_phi with_extensions (λ b. (only_virtual extensions)) (λ r. r) b (slice_get narrow_phi.blocks b) (slice_get with_extensions.blocks b)
extended_places zero = record {
  middle = (only_virtual extensions);
  pieces = (Kept (copy_in 0 10 s16) (copy_in 0 10 s16), (only_virtual extensions)) ∷ (Changed [] (extension 5 0 ∷ []), (only_virtual extensions)) ∷ (Kept (choice) (choice), (only_virtual extensions)) ∷ [];
  successors = refl;
  splits = refl;
  new_splits = refl;
  phis = λ w is_world. record { by = λ n from state state' arrives agree. agree };
  body = λ w is_world. (record { kept = kept_reused (λ r. r) ((copy_in 0 10 s16).1) ((copy_in 0 10 s16).1) refl; seen = seen_by (setting_of 32 names narrow_phi) (setting_of 32 names with_extensions) extensions (λ r. r) ((copy_in 0 10 s16).1.operands) refl; holds = λ state reached. alone_holds (λ r. r) state ((copy_in 0 10 s16).1.operands) refl; hides = hides_so (only_virtual extensions) (written_places (meaning_of (copy_in 0 10 s16).1.flags (copy_in 0 10 s16).1.op) ((copy_in 0 10 s16).1.operands)); leaves = λ c h. covers_so (only_virtual extensions) }, (first_extension w is_world, (record { kept = kept_reused (λ r. r) ((choice).1) ((choice).1) refl; seen = seen_by (setting_of 32 names narrow_phi) (setting_of 32 names with_extensions) extensions (λ r. r) ((choice).1.operands) refl; holds = λ state reached. alone_holds (λ r. r) state ((choice).1.operands) refl; hides = hides_so (only_virtual extensions) (written_places (meaning_of (choice).1.flags (choice).1.op) ((choice).1.operands)); leaves = λ c h. covers_so (only_virtual extensions) }, tt)));
  falls = λ among. covers_so (only_virtual extensions);
}
extended_places (suc zero) = record {
  middle = (only_virtual extensions);
  pieces = (Kept (copy_in 1 11 s16) (copy_in 1 11 s16), (only_virtual extensions)) ∷ (Changed [] (extension 6 1 ∷ []), (only_virtual extensions)) ∷ (Kept (on_to_2) (on_to_2), (only_virtual extensions)) ∷ [];
  successors = refl;
  splits = refl;
  new_splits = refl;
  phis = λ w is_world. record { by = λ n from state state' arrives agree. agree };
  body = λ w is_world. (record { kept = kept_reused (λ r. r) ((copy_in 1 11 s16).1) ((copy_in 1 11 s16).1) refl; seen = seen_by (setting_of 32 names narrow_phi) (setting_of 32 names with_extensions) extensions (λ r. r) ((copy_in 1 11 s16).1.operands) refl; holds = λ state reached. alone_holds (λ r. r) state ((copy_in 1 11 s16).1.operands) refl; hides = hides_so (only_virtual extensions) (written_places (meaning_of (copy_in 1 11 s16).1.flags (copy_in 1 11 s16).1.op) ((copy_in 1 11 s16).1.operands)); leaves = λ c h. covers_so (only_virtual extensions) }, (second_extension w is_world, (record { kept = kept_reused (λ r. r) ((on_to_2).1) ((on_to_2).1) refl; seen = seen_by (setting_of 32 names narrow_phi) (setting_of 32 names with_extensions) extensions (λ r. r) ((on_to_2).1.operands) refl; holds = λ state reached. alone_holds (λ r. r) state ((on_to_2).1.operands) refl; hides = hides_so (only_virtual extensions) (written_places (meaning_of (on_to_2).1.flags (on_to_2).1.op) ((on_to_2).1.operands)); leaves = λ c h. covers_so (only_virtual extensions) }, tt)));
  falls = λ among. covers_so (only_virtual extensions);
}
extended_places (suc (suc zero)) = record {
  middle = (only_virtual extensions);
  pieces = (Kept (extension 3 2) (extension 3 2), (only_virtual extensions)) ∷ (Kept (copy_out 10 3) (copy_out 10 3), (only_virtual extensions)) ∷ (Kept (return_of 10) (return_of 10), (only_virtual extensions)) ∷ [];
  successors = refl;
  splits = refl;
  new_splits = refl;
  phis = λ w is_world. kept_phis_follow 32 names narrow_phi with_extensions w 2 (λ r. r) (only_virtual extensions) (only_virtual extensions) (phi_of 2 0 1 s16 ∷ []) (phi_of 2 0 1 s16 ∷ []) is_world (all_kept_reused (λ r. r) (phi_of 2 0 1 s16 ∷ [])) (all_seen_by (setting_of 32 names narrow_phi) (setting_of 32 names with_extensions) extensions (λ r. r) (phi_of 2 0 1 s16 ∷ []) refl) (phis_hold_alone 32 names narrow_phi 2 (phi_of 2 0 1 s16 ∷ [])) (phis_cover (only_virtual extensions) (phi_of 2 0 1 s16 ∷ []));
  body = λ w is_world. (record { kept = kept_reused (λ r. r) ((extension 3 2).1) ((extension 3 2).1) refl; seen = seen_by (setting_of 32 names narrow_phi) (setting_of 32 names with_extensions) extensions (λ r. r) ((extension 3 2).1.operands) refl; holds = λ state reached. alone_holds (λ r. r) state ((extension 3 2).1.operands) refl; hides = hides_so (only_virtual extensions) (written_places (meaning_of (extension 3 2).1.flags (extension 3 2).1.op) ((extension 3 2).1.operands)); leaves = λ c h. covers_so (only_virtual extensions) }, (record { kept = kept_reused (λ r. r) ((copy_out 10 3).1) ((copy_out 10 3).1) refl; seen = seen_by (setting_of 32 names narrow_phi) (setting_of 32 names with_extensions) extensions (λ r. r) ((copy_out 10 3).1.operands) refl; holds = λ state reached. alone_holds (λ r. r) state ((copy_out 10 3).1.operands) refl; hides = hides_so (only_virtual extensions) (written_places (meaning_of (copy_out 10 3).1.flags (copy_out 10 3).1.op) ((copy_out 10 3).1.operands)); leaves = λ c h. covers_so (only_virtual extensions) }, (record { kept = kept_reused (λ r. r) ((return_of 10).1) ((return_of 10).1) refl; seen = seen_by (setting_of 32 names narrow_phi) (setting_of 32 names with_extensions) extensions (λ r. r) ((return_of 10).1.operands) refl; holds = λ state reached. alone_holds (λ r. r) state ((return_of 10).1.operands) refl; hides = hides_so (only_virtual extensions) (written_places (meaning_of (return_of 10).1.flags (return_of 10).1.op) ((return_of 10).1.operands)); leaves = λ c h. covers_so (only_virtual extensions) }, tt)));
  falls = λ among. covers_so (only_virtual extensions);
}
extended_places (suc (suc (suc b))) = tt

extended : RefinesUnchecked 32 names narrow_phi with_extensions
extended = rewriting_refines 32 names narrow_phi with_extensions (record { entries = (λ b. (only_virtual extensions)); rename = (λ r. r); places = extended_places })

-- ══ The wide phi beside the narrow one ══

-- what a phi takes in the old state, it takes in the new one
value_same : (s t : Setting) (hidden : Place → Bool) (old new : State) → Agree s t hidden old new → (r : Option ℕ) → RegisterSeen s t hidden (λ q. q) r → HasSameValue (value_at old r) (value_at new r)
value_same s t hidden old new agree None seen = tt
value_same s t hidden old new agree (Some r) seen = taken_same s t hidden (λ q. q) old new agree (Some r) seen (has_same_value (old.values r))

-- a phi that is added in front of others gives a hidden register its value, where the others give states
phi_added : (s t : Setting) (hidden : ℕ → Bool) (q : ℕ) → hidden q ≡ true → (σ σ' : Option State) (v : Option ℕ) → PhisStand (Agree s t (only_virtual hidden)) σ σ' → ((old : State) → σ ≡ Some old → (u : ℕ) × (v ≡ Some u))
    → PhisStand (Agree s t (only_virtual hidden)) σ (put_value σ' (Virtual q ∷ []) v)
phi_added s t hidden q h None σ' v stand has = tt
phi_added s t hidden q h (Some old) None v stand has = absurd stand
phi_added s t hidden q h (Some old) (Some new) v stand has =
    subst (λ o. PhisStand (Agree s t (only_virtual hidden)) (Some old) (put_value (Some new) (Virtual q ∷ []) o)) (sym (has old refl).1) (hide_put s t hidden old new q (has old refl).0 h stand)

abbrev narrow_operands : List Operand
narrow_operands = (phi_of 2 0 1 s16).1.operands

abbrev wide_operands : List Operand
wide_operands = (phi_of 7 5 6 s32).1.operands

-- where the narrow phi takes a value, the wide one does
wide_has : (narrow wide : Option ℕ) → BothTaken narrow wide → (v : ℕ) → narrow ≡ Some v → (u : ℕ) × (wide ≡ Some u)
wide_has narrow wide (inl nothing) v has = absurd (none-some v (sym nothing ∙ has))
wide_has narrow wide (inr both) v has = (both.0 % 2 ^ 16, both.2)

phi_beside : (w : World) → IsWorld 32 w → PhisFollow 32 names with_extensions with_wide_phi w 2 (only_virtual (only 7)) (only_virtual (only 7)) (phi_of 2 0 1 s16 ∷ []) (phi_of 7 5 6 s32 ∷ phi_of 2 0 1 s16 ∷ [])
phi_beside w is_world = record {
  by = λ n from state state' arrives agree.
      let s : Setting = setting_of 32 names with_extensions in
      let t : Setting = setting_of 32 names with_wide_phi in
      let narrow : List (ℕ × InstrData) = phi_of 2 0 1 s16 ∷ [] in
      let same : HasSameValue (value_at state (from_block from wide_operands)) (value_at state' (from_block from wide_operands)) =
      value_same s t (only_virtual (only 7)) state state' agree (from_block from wide_operands)
      (from_seen s t (only_virtual (only 7)) (λ q. q) from wide_operands (seen_by s t (only 7) (λ q. q) wide_operands refl)) in
      phi_added s t (only 7) 7 refl (joined state from narrow) (joined state' from narrow) (value_at state' (from_block from wide_operands))
      (phis_stand s t (only_virtual (only 7)) (λ q. q) from state state' agree narrow narrow (all_kept_reused (λ q. q) narrow) (all_seen_by s t (only 7) (λ q. q) narrow refl)
      ((phis_hold_alone 32 names with_extensions 2 narrow).by w is_world n from state arrives))
      (λ old is.
      let taken : (u : ℕ) × (value_at state (from_block from narrow_operands) ≡ Some u) × (old.values 2 ≡ Some u) = put_has 2 (Some state) (value_at state (from_block from narrow_operands)) old is in
      let wide : (u : ℕ) × (value_at state (from_block from wide_operands) ≡ Some u) =
      wide_has (value_at state (from_block from narrow_operands)) (value_at state (from_block from wide_operands))
      (both_taken with_extensions w refl refl (λ m. refl) (λ m. refl) n from state arrives) taken.0 taken.1 in
      (wide.0, subst (λ o. HasSameValue o (value_at state' (from_block from wide_operands))) wide.1 same));
}

beside_places : (b : ℕ) → RewrittenAt 32 names with_extensions with_wide_phi (λ b. (only_virtual (only 7))) (λ r. r) b (slice_get with_extensions.blocks b) (slice_get with_wide_phi.blocks b)
beside_places zero = record {
  middle = (only_virtual (only 7));
  pieces = (Kept (copy_in 0 10 s16) (copy_in 0 10 s16), (only_virtual (only 7))) ∷ (Kept (extension 5 0) (extension 5 0), (only_virtual (only 7))) ∷ (Kept (choice) (choice), (only_virtual (only 7))) ∷ [];
  successors = refl;
  splits = refl;
  new_splits = refl;
  phis = λ w is_world. record { by = λ n from state state' arrives agree. agree };
  body = λ w is_world. (record { kept = kept_reused (λ r. r) ((copy_in 0 10 s16).1) ((copy_in 0 10 s16).1) refl; seen = seen_by (setting_of 32 names with_extensions) (setting_of 32 names with_wide_phi) (only 7) (λ r. r) ((copy_in 0 10 s16).1.operands) refl; holds = λ state reached. alone_holds (λ r. r) state ((copy_in 0 10 s16).1.operands) refl; hides = hides_so (only_virtual (only 7)) (written_places (meaning_of (copy_in 0 10 s16).1.flags (copy_in 0 10 s16).1.op) ((copy_in 0 10 s16).1.operands)); leaves = λ c h. covers_so (only_virtual (only 7)) }, (record { kept = kept_reused (λ r. r) ((extension 5 0).1) ((extension 5 0).1) refl; seen = seen_by (setting_of 32 names with_extensions) (setting_of 32 names with_wide_phi) (only 7) (λ r. r) ((extension 5 0).1.operands) refl; holds = λ state reached. alone_holds (λ r. r) state ((extension 5 0).1.operands) refl; hides = hides_so (only_virtual (only 7)) (written_places (meaning_of (extension 5 0).1.flags (extension 5 0).1.op) ((extension 5 0).1.operands)); leaves = λ c h. covers_so (only_virtual (only 7)) }, (record { kept = kept_reused (λ r. r) ((choice).1) ((choice).1) refl; seen = seen_by (setting_of 32 names with_extensions) (setting_of 32 names with_wide_phi) (only 7) (λ r. r) ((choice).1.operands) refl; holds = λ state reached. alone_holds (λ r. r) state ((choice).1.operands) refl; hides = hides_so (only_virtual (only 7)) (written_places (meaning_of (choice).1.flags (choice).1.op) ((choice).1.operands)); leaves = λ c h. covers_so (only_virtual (only 7)) }, tt)));
  falls = λ among. covers_so (only_virtual (only 7));
}
beside_places (suc zero) = record {
  middle = (only_virtual (only 7));
  pieces = (Kept (copy_in 1 11 s16) (copy_in 1 11 s16), (only_virtual (only 7))) ∷ (Kept (extension 6 1) (extension 6 1), (only_virtual (only 7))) ∷ (Kept (on_to_2) (on_to_2), (only_virtual (only 7))) ∷ [];
  successors = refl;
  splits = refl;
  new_splits = refl;
  phis = λ w is_world. record { by = λ n from state state' arrives agree. agree };
  body = λ w is_world. (record { kept = kept_reused (λ r. r) ((copy_in 1 11 s16).1) ((copy_in 1 11 s16).1) refl; seen = seen_by (setting_of 32 names with_extensions) (setting_of 32 names with_wide_phi) (only 7) (λ r. r) ((copy_in 1 11 s16).1.operands) refl; holds = λ state reached. alone_holds (λ r. r) state ((copy_in 1 11 s16).1.operands) refl; hides = hides_so (only_virtual (only 7)) (written_places (meaning_of (copy_in 1 11 s16).1.flags (copy_in 1 11 s16).1.op) ((copy_in 1 11 s16).1.operands)); leaves = λ c h. covers_so (only_virtual (only 7)) }, (record { kept = kept_reused (λ r. r) ((extension 6 1).1) ((extension 6 1).1) refl; seen = seen_by (setting_of 32 names with_extensions) (setting_of 32 names with_wide_phi) (only 7) (λ r. r) ((extension 6 1).1.operands) refl; holds = λ state reached. alone_holds (λ r. r) state ((extension 6 1).1.operands) refl; hides = hides_so (only_virtual (only 7)) (written_places (meaning_of (extension 6 1).1.flags (extension 6 1).1.op) ((extension 6 1).1.operands)); leaves = λ c h. covers_so (only_virtual (only 7)) }, (record { kept = kept_reused (λ r. r) ((on_to_2).1) ((on_to_2).1) refl; seen = seen_by (setting_of 32 names with_extensions) (setting_of 32 names with_wide_phi) (only 7) (λ r. r) ((on_to_2).1.operands) refl; holds = λ state reached. alone_holds (λ r. r) state ((on_to_2).1.operands) refl; hides = hides_so (only_virtual (only 7)) (written_places (meaning_of (on_to_2).1.flags (on_to_2).1.op) ((on_to_2).1.operands)); leaves = λ c h. covers_so (only_virtual (only 7)) }, tt)));
  falls = λ among. covers_so (only_virtual (only 7));
}
beside_places (suc (suc zero)) = record {
  middle = (only_virtual (only 7));
  pieces = (Kept (extension 3 2) (extension 3 2), (only_virtual (only 7))) ∷ (Kept (copy_out 10 3) (copy_out 10 3), (only_virtual (only 7))) ∷ (Kept (return_of 10) (return_of 10), (only_virtual (only 7))) ∷ [];
  successors = refl;
  splits = refl;
  new_splits = refl;
  phis = λ w is_world. phi_beside w is_world;
  body = λ w is_world. (record { kept = kept_reused (λ r. r) ((extension 3 2).1) ((extension 3 2).1) refl; seen = seen_by (setting_of 32 names with_extensions) (setting_of 32 names with_wide_phi) (only 7) (λ r. r) ((extension 3 2).1.operands) refl; holds = λ state reached. alone_holds (λ r. r) state ((extension 3 2).1.operands) refl; hides = hides_so (only_virtual (only 7)) (written_places (meaning_of (extension 3 2).1.flags (extension 3 2).1.op) ((extension 3 2).1.operands)); leaves = λ c h. covers_so (only_virtual (only 7)) }, (record { kept = kept_reused (λ r. r) ((copy_out 10 3).1) ((copy_out 10 3).1) refl; seen = seen_by (setting_of 32 names with_extensions) (setting_of 32 names with_wide_phi) (only 7) (λ r. r) ((copy_out 10 3).1.operands) refl; holds = λ state reached. alone_holds (λ r. r) state ((copy_out 10 3).1.operands) refl; hides = hides_so (only_virtual (only 7)) (written_places (meaning_of (copy_out 10 3).1.flags (copy_out 10 3).1.op) ((copy_out 10 3).1.operands)); leaves = λ c h. covers_so (only_virtual (only 7)) }, (record { kept = kept_reused (λ r. r) ((return_of 10).1) ((return_of 10).1) refl; seen = seen_by (setting_of 32 names with_extensions) (setting_of 32 names with_wide_phi) (only 7) (λ r. r) ((return_of 10).1.operands) refl; holds = λ state reached. alone_holds (λ r. r) state ((return_of 10).1.operands) refl; hides = hides_so (only_virtual (only 7)) (written_places (meaning_of (return_of 10).1.flags (return_of 10).1.op) ((return_of 10).1.operands)); leaves = λ c h. covers_so (only_virtual (only 7)) }, tt)));
  falls = λ among. covers_so (only_virtual (only 7));
}
beside_places (suc (suc (suc b))) = tt

beside : RefinesUnchecked 32 names with_extensions with_wide_phi
beside = rewriting_refines 32 names with_extensions with_wide_phi (record { entries = (λ b. (only_virtual (only 7))); rename = (λ r. r); places = beside_places })

-- ══ The truncation ══

wide_present : (w : World) (state : State) → IsReached (setting_of 32 names with_wide_phi) w with_wide_phi.blocks 2 [] state → (v : ℕ) × (state.values 7 ≡ Some v)
wide_present w state r =
    let same : r.block ≡ block_of [] (phi_of 7 5 6 s32 ∷ phi_of 2 0 1 s16 ∷ extension 3 2 ∷ copy_out 10 3 ∷ return_of 10 ∷ []) = some_is _ r.block r.enters.joins.here in
    let gave : joined r.enters.entered r.enters.from (phi_of 7 5 6 s32 ∷ phi_of 2 0 1 s16 ∷ []) ≡ Some r.middle =
    subst (λ (k : BlockData). joined r.enters.entered r.enters.from (phis_of k.instrs) ≡ Some r.middle) same r.enters.joins.phis in
    let has : (u : ℕ) × (value_at r.enters.entered (from_block r.enters.from wide_operands) ≡ Some u) × (r.middle.values 7 ≡ Some u) =
    put_has 7 (joined r.enters.entered r.enters.from (phi_of 2 0 1 s16 ∷ [])) (value_at r.enters.entered (from_block r.enters.from wide_operands)) r.middle gave in
    (has.0, ap (value_come 7) r.ran ∙ has.2)

truncation_comes : (w : World) → IsWorld 32 w → PieceFollows 32 names with_wide_phi with_truncation (λ b. (only_virtual (only 8))) (λ r. r) w 2 ([]) (only_virtual (only 8)) (only_virtual (only 8)) (Changed [] (truncation 8 7 ∷ []))
truncation_comes w is_world =
    inserted_follows (setting_of 32 names with_wide_phi) (setting_of 32 names with_truncation) w (WhereReached (setting_of 32 names with_wide_phi) w with_wide_phi.blocks 2 ([]) (Agree (setting_of 32 names with_wide_phi) (setting_of 32 names with_truncation) (only_virtual (only 8)))) (only 8) (AgreeAt (setting_of 32 names with_wide_phi) (setting_of 32 names with_truncation) (λ b. (only_virtual (only 8)))) (truncation 8 7) 8 refl
    (λ old new related.
    let has : (v : ℕ) × (old.values 7 ≡ Some v) = wide_present w old related.reached in
    let has' : new.values 7 ≡ Some has.0 = held_too (setting_of 32 names with_wide_phi) (setting_of 32 names with_truncation) (only 8) old new related.relates 7 has.0 32 refl refl refl has.1 in
    (has.0 % 2 ^ 16, ap (λ o. then_on (step_from (setting_of 32 names with_truncation) ((truncation 8 7).1) new (joined_lists (Some []) (joined_lists (option_map (λ u. Value 32 u ∷ []) o) (Some [])))) (λ state. Some (On state))) has'))
    (λ old new related. related.relates)

truncated_places : (b : ℕ) → RewrittenAt 32 names with_wide_phi with_truncation (λ b. (only_virtual (only 8))) (λ r. r) b (slice_get with_wide_phi.blocks b) (slice_get with_truncation.blocks b)
truncated_places zero = record {
  middle = (only_virtual (only 8));
  pieces = (Kept (copy_in 0 10 s16) (copy_in 0 10 s16), (only_virtual (only 8))) ∷ (Kept (extension 5 0) (extension 5 0), (only_virtual (only 8))) ∷ (Kept (choice) (choice), (only_virtual (only 8))) ∷ [];
  successors = refl;
  splits = refl;
  new_splits = refl;
  phis = λ w is_world. record { by = λ n from state state' arrives agree. agree };
  body = λ w is_world. (record { kept = kept_reused (λ r. r) ((copy_in 0 10 s16).1) ((copy_in 0 10 s16).1) refl; seen = seen_by (setting_of 32 names with_wide_phi) (setting_of 32 names with_truncation) (only 8) (λ r. r) ((copy_in 0 10 s16).1.operands) refl; holds = λ state reached. alone_holds (λ r. r) state ((copy_in 0 10 s16).1.operands) refl; hides = hides_so (only_virtual (only 8)) (written_places (meaning_of (copy_in 0 10 s16).1.flags (copy_in 0 10 s16).1.op) ((copy_in 0 10 s16).1.operands)); leaves = λ c h. covers_so (only_virtual (only 8)) }, (record { kept = kept_reused (λ r. r) ((extension 5 0).1) ((extension 5 0).1) refl; seen = seen_by (setting_of 32 names with_wide_phi) (setting_of 32 names with_truncation) (only 8) (λ r. r) ((extension 5 0).1.operands) refl; holds = λ state reached. alone_holds (λ r. r) state ((extension 5 0).1.operands) refl; hides = hides_so (only_virtual (only 8)) (written_places (meaning_of (extension 5 0).1.flags (extension 5 0).1.op) ((extension 5 0).1.operands)); leaves = λ c h. covers_so (only_virtual (only 8)) }, (record { kept = kept_reused (λ r. r) ((choice).1) ((choice).1) refl; seen = seen_by (setting_of 32 names with_wide_phi) (setting_of 32 names with_truncation) (only 8) (λ r. r) ((choice).1.operands) refl; holds = λ state reached. alone_holds (λ r. r) state ((choice).1.operands) refl; hides = hides_so (only_virtual (only 8)) (written_places (meaning_of (choice).1.flags (choice).1.op) ((choice).1.operands)); leaves = λ c h. covers_so (only_virtual (only 8)) }, tt)));
  falls = λ among. covers_so (only_virtual (only 8));
}
truncated_places (suc zero) = record {
  middle = (only_virtual (only 8));
  pieces = (Kept (copy_in 1 11 s16) (copy_in 1 11 s16), (only_virtual (only 8))) ∷ (Kept (extension 6 1) (extension 6 1), (only_virtual (only 8))) ∷ (Kept (on_to_2) (on_to_2), (only_virtual (only 8))) ∷ [];
  successors = refl;
  splits = refl;
  new_splits = refl;
  phis = λ w is_world. record { by = λ n from state state' arrives agree. agree };
  body = λ w is_world. (record { kept = kept_reused (λ r. r) ((copy_in 1 11 s16).1) ((copy_in 1 11 s16).1) refl; seen = seen_by (setting_of 32 names with_wide_phi) (setting_of 32 names with_truncation) (only 8) (λ r. r) ((copy_in 1 11 s16).1.operands) refl; holds = λ state reached. alone_holds (λ r. r) state ((copy_in 1 11 s16).1.operands) refl; hides = hides_so (only_virtual (only 8)) (written_places (meaning_of (copy_in 1 11 s16).1.flags (copy_in 1 11 s16).1.op) ((copy_in 1 11 s16).1.operands)); leaves = λ c h. covers_so (only_virtual (only 8)) }, (record { kept = kept_reused (λ r. r) ((extension 6 1).1) ((extension 6 1).1) refl; seen = seen_by (setting_of 32 names with_wide_phi) (setting_of 32 names with_truncation) (only 8) (λ r. r) ((extension 6 1).1.operands) refl; holds = λ state reached. alone_holds (λ r. r) state ((extension 6 1).1.operands) refl; hides = hides_so (only_virtual (only 8)) (written_places (meaning_of (extension 6 1).1.flags (extension 6 1).1.op) ((extension 6 1).1.operands)); leaves = λ c h. covers_so (only_virtual (only 8)) }, (record { kept = kept_reused (λ r. r) ((on_to_2).1) ((on_to_2).1) refl; seen = seen_by (setting_of 32 names with_wide_phi) (setting_of 32 names with_truncation) (only 8) (λ r. r) ((on_to_2).1.operands) refl; holds = λ state reached. alone_holds (λ r. r) state ((on_to_2).1.operands) refl; hides = hides_so (only_virtual (only 8)) (written_places (meaning_of (on_to_2).1.flags (on_to_2).1.op) ((on_to_2).1.operands)); leaves = λ c h. covers_so (only_virtual (only 8)) }, tt)));
  falls = λ among. covers_so (only_virtual (only 8));
}
truncated_places (suc (suc zero)) = record {
  middle = (only_virtual (only 8));
  pieces = (Changed [] (truncation 8 7 ∷ []), (only_virtual (only 8))) ∷ (Kept (extension 3 2) (extension 3 2), (only_virtual (only 8))) ∷ (Kept (copy_out 10 3) (copy_out 10 3), (only_virtual (only 8))) ∷ (Kept (return_of 10) (return_of 10), (only_virtual (only 8))) ∷ [];
  successors = refl;
  splits = refl;
  new_splits = refl;
  phis = λ w is_world. kept_phis_follow 32 names with_wide_phi with_truncation w 2 (λ r. r) (only_virtual (only 8)) (only_virtual (only 8)) (phi_of 7 5 6 s32 ∷ phi_of 2 0 1 s16 ∷ []) (phi_of 7 5 6 s32 ∷ phi_of 2 0 1 s16 ∷ []) is_world (all_kept_reused (λ r. r) (phi_of 7 5 6 s32 ∷ phi_of 2 0 1 s16 ∷ [])) (all_seen_by (setting_of 32 names with_wide_phi) (setting_of 32 names with_truncation) (only 8) (λ r. r) (phi_of 7 5 6 s32 ∷ phi_of 2 0 1 s16 ∷ []) refl) (phis_hold_alone 32 names with_wide_phi 2 (phi_of 7 5 6 s32 ∷ phi_of 2 0 1 s16 ∷ [])) (phis_cover (only_virtual (only 8)) (phi_of 7 5 6 s32 ∷ phi_of 2 0 1 s16 ∷ []));
  body = λ w is_world. (truncation_comes w is_world, (record { kept = kept_reused (λ r. r) ((extension 3 2).1) ((extension 3 2).1) refl; seen = seen_by (setting_of 32 names with_wide_phi) (setting_of 32 names with_truncation) (only 8) (λ r. r) ((extension 3 2).1.operands) refl; holds = λ state reached. alone_holds (λ r. r) state ((extension 3 2).1.operands) refl; hides = hides_so (only_virtual (only 8)) (written_places (meaning_of (extension 3 2).1.flags (extension 3 2).1.op) ((extension 3 2).1.operands)); leaves = λ c h. covers_so (only_virtual (only 8)) }, (record { kept = kept_reused (λ r. r) ((copy_out 10 3).1) ((copy_out 10 3).1) refl; seen = seen_by (setting_of 32 names with_wide_phi) (setting_of 32 names with_truncation) (only 8) (λ r. r) ((copy_out 10 3).1.operands) refl; holds = λ state reached. alone_holds (λ r. r) state ((copy_out 10 3).1.operands) refl; hides = hides_so (only_virtual (only 8)) (written_places (meaning_of (copy_out 10 3).1.flags (copy_out 10 3).1.op) ((copy_out 10 3).1.operands)); leaves = λ c h. covers_so (only_virtual (only 8)) }, (record { kept = kept_reused (λ r. r) ((return_of 10).1) ((return_of 10).1) refl; seen = seen_by (setting_of 32 names with_wide_phi) (setting_of 32 names with_truncation) (only 8) (λ r. r) ((return_of 10).1.operands) refl; holds = λ state reached. alone_holds (λ r. r) state ((return_of 10).1.operands) refl; hides = hides_so (only_virtual (only 8)) (written_places (meaning_of (return_of 10).1.flags (return_of 10).1.op) ((return_of 10).1.operands)); leaves = λ c h. covers_so (only_virtual (only 8)) }, tt))));
  falls = λ among. covers_so (only_virtual (only 8));
}
truncated_places (suc (suc (suc b))) = tt

truncated : RefinesUnchecked 32 names with_wide_phi with_truncation
truncated = rewriting_refines 32 names with_wide_phi with_truncation (record { entries = (λ b. (only_virtual (only 8))); rename = (λ r. r); places = truncated_places })

-- ══ The narrow phi goes ══

-- a phi that gives a hidden register its value may go
phi_gone : (s t : Setting) (hidden : ℕ → Bool) (q : ℕ) → hidden q ≡ true → (old new : State) (v : Option ℕ) → Agree s t (only_virtual hidden) old new → PhisStand (Agree s t (only_virtual hidden)) (put_value (Some old) (Virtual q ∷ []) v) (Some new)
phi_gone s t hidden q h old new None agree = tt
phi_gone s t hidden q h old new (Some v) agree = hide_put_old s t hidden old new q v h agree

narrow_gone : (w : World) → IsWorld 32 w → PhisFollow 32 names with_truncation wide_phi w 2 (only_virtual (only 2)) (only_virtual (only 2)) (phi_of 7 5 6 s32 ∷ phi_of 2 0 1 s16 ∷ []) (phi_of 7 5 6 s32 ∷ [])
narrow_gone w is_world = record {
  by = λ n from state state' arrives agree.
      let s : Setting = setting_of 32 names with_truncation in
      let t : Setting = setting_of 32 names wide_phi in
      let h : Place → Bool = only_virtual (only 2) in
      let σ : Option State = put_value (Some state) (Virtual 2 ∷ []) (value_at state (from_block from narrow_operands)) in
      phis_within (Agree s t (all_shown h (Virtual 7 ∷ []))) (Agree s t h) (put_value σ (Virtual 7 ∷ []) (value_at state (from_block from wide_operands)))
      (put_value (Some state') (Virtual 7 ∷ []) (value_at state' (from_block from wide_operands)))
      (λ old new shown. agree_but s t (all_shown h (Virtual 7 ∷ [])) h old new (all_shown_less h (Virtual 7 ∷ [])) shown)
      (put_values_stand s t h σ (Some state') (Virtual 7 ∷ []) (value_at state (from_block from wide_operands)) (value_at state' (from_block from wide_operands)) (refl, tt)
      (value_same s t h state state' agree (from_block from wide_operands) (from_seen s t h (λ q. q) from wide_operands (seen_by s t (only 2) (λ q. q) wide_operands refl)))
      (phi_gone s t (only 2) 2 refl state state' (value_at state (from_block from narrow_operands)) agree));
}

-- both phis gave a value
both_gave : (entered : State) (narrow wide : Option ℕ) (state : State) → put_value (put_value (Some entered) (Virtual 2 ∷ []) narrow) (Virtual 7 ∷ []) wide ≡ Some state
    → (a : ℕ) × (b : ℕ) × (narrow ≡ Some a) × (wide ≡ Some b) × (state ≡ put (put entered (Virtual 2) a) (Virtual 7) b)
both_gave entered None wide state h = absurd (none-some state h)
both_gave entered (Some a) None state h = absurd (none-some state h)
both_gave entered (Some a) (Some b) state h = (a, b, refl, refl, ap (λ o. unwrap_or o entered) (sym h))

-- then the low bits of the wide one are the narrow one
low_is : (narrow wide : Option ℕ) → BothTaken narrow wide → (a b : ℕ) → narrow ≡ Some a → wide ≡ Some b → b % 2 ^ 16 ≡ a
low_is narrow wide (inl nothing) a b is is' = absurd (none-some a (sym nothing ∙ is))
low_is narrow wide (inr both) a b is is' =
    let first : a ≡ both.0 % 2 ^ 16 = value_is a (both.0 % 2 ^ 16) (sym is ∙ both.1) in
    let second : b ≡ both.0 % 2 ^ 16 = value_is b (both.0 % 2 ^ 16) (sym is' ∙ both.2) in
    ap (λ k. k % 2 ^ 16) second ∙ (mod-mod both.0 (2 ^ 16) ∙ sym first)
  where
    value_is : (c d : ℕ) → Some c ≡ Some d → c ≡ d
    value_is c d e = ap (λ o. unwrap_or o c) e

truncation_is : (w : World) (state : State) → IsReached (setting_of 32 names with_truncation) w with_truncation.blocks 2 (truncation 8 7 ∷ []) state → HasSameValue (state.values 2) (state.values 8)
truncation_is w state r =
    let s : Setting = setting_of 32 names with_truncation in
    let entered : State = r.enters.entered in
    let narrow : Option ℕ = value_at entered (from_block r.enters.from narrow_operands) in
    let wide : Option ℕ = value_at entered (from_block r.enters.from wide_operands) in
    let same : r.block ≡ block_of [] (phi_of 7 5 6 s32 ∷ phi_of 2 0 1 s16 ∷ truncation 8 7 ∷ extension 3 2 ∷ copy_out 10 3 ∷ return_of 10 ∷ []) = some_is _ r.block r.enters.joins.here in
    let gave : (a : ℕ) × (b : ℕ) × (narrow ≡ Some a) × (wide ≡ Some b) × (r.middle ≡ put (put entered (Virtual 2) a) (Virtual 7) b) =
    both_gave entered narrow wide r.middle (subst (λ (k : BlockData). joined entered r.enters.from (phis_of k.instrs) ≡ Some r.middle) same r.enters.joins.phis) in
    let middle : State = put (put entered (Virtual 2) gave.0) (Virtual 7) gave.1 in
    let end : State = put middle (Virtual 8) (gave.1 % 2 ^ 16) in
    let run : Executes s w (truncation 8 7 ∷ []) middle (On state) = subst (λ m. Executes s w (truncation 8 7 ∷ []) m (On state)) gave.4 r.ran in
    let low : gave.1 % 2 ^ 16 ≡ gave.0 = low_is narrow wide (both_taken with_truncation w refl refl (λ m. refl) (λ m. refl) r.enters.entries r.enters.from entered r.enters.arrives) gave.0 gave.1 gave.2 gave.3 in
    subst (λ o. HasSameValue o (state.values 8)) (sym (behind s w (truncation 8 7 ∷ []) 2 middle state end run refl)) (behind s w (truncation 8 7 ∷ []) 8 middle state end run refl ∙ ap Some low)

narrow_away_places : (b : ℕ) → RewrittenAt 32 names with_truncation wide_phi (λ b. (only_virtual (only 2))) two_by_eight b (slice_get with_truncation.blocks b) (slice_get wide_phi.blocks b)
narrow_away_places zero = record {
  middle = (only_virtual (only 2));
  pieces = (Kept (copy_in 0 10 s16) (copy_in 0 10 s16), (only_virtual (only 2))) ∷ (Kept (extension 5 0) (extension 5 0), (only_virtual (only 2))) ∷ (Kept (choice) (choice), (only_virtual (only 2))) ∷ [];
  successors = refl;
  splits = refl;
  new_splits = refl;
  phis = λ w is_world. record { by = λ n from state state' arrives agree. agree };
  body = λ w is_world. (record { kept = kept_reused two_by_eight ((copy_in 0 10 s16).1) ((copy_in 0 10 s16).1) refl; seen = seen_by (setting_of 32 names with_truncation) (setting_of 32 names wide_phi) (only 2) two_by_eight ((copy_in 0 10 s16).1.operands) refl; holds = λ state reached. alone_holds two_by_eight state ((copy_in 0 10 s16).1.operands) refl; hides = hides_so (only_virtual (only 2)) (written_places (meaning_of (copy_in 0 10 s16).1.flags (copy_in 0 10 s16).1.op) ((copy_in 0 10 s16).1.operands)); leaves = λ c h. covers_so (only_virtual (only 2)) }, (record { kept = kept_reused two_by_eight ((extension 5 0).1) ((extension 5 0).1) refl; seen = seen_by (setting_of 32 names with_truncation) (setting_of 32 names wide_phi) (only 2) two_by_eight ((extension 5 0).1.operands) refl; holds = λ state reached. alone_holds two_by_eight state ((extension 5 0).1.operands) refl; hides = hides_so (only_virtual (only 2)) (written_places (meaning_of (extension 5 0).1.flags (extension 5 0).1.op) ((extension 5 0).1.operands)); leaves = λ c h. covers_so (only_virtual (only 2)) }, (record { kept = kept_reused two_by_eight ((choice).1) ((choice).1) refl; seen = seen_by (setting_of 32 names with_truncation) (setting_of 32 names wide_phi) (only 2) two_by_eight ((choice).1.operands) refl; holds = λ state reached. alone_holds two_by_eight state ((choice).1.operands) refl; hides = hides_so (only_virtual (only 2)) (written_places (meaning_of (choice).1.flags (choice).1.op) ((choice).1.operands)); leaves = λ c h. covers_so (only_virtual (only 2)) }, tt)));
  falls = λ among. covers_so (only_virtual (only 2));
}
narrow_away_places (suc zero) = record {
  middle = (only_virtual (only 2));
  pieces = (Kept (copy_in 1 11 s16) (copy_in 1 11 s16), (only_virtual (only 2))) ∷ (Kept (extension 6 1) (extension 6 1), (only_virtual (only 2))) ∷ (Kept (on_to_2) (on_to_2), (only_virtual (only 2))) ∷ [];
  successors = refl;
  splits = refl;
  new_splits = refl;
  phis = λ w is_world. record { by = λ n from state state' arrives agree. agree };
  body = λ w is_world. (record { kept = kept_reused two_by_eight ((copy_in 1 11 s16).1) ((copy_in 1 11 s16).1) refl; seen = seen_by (setting_of 32 names with_truncation) (setting_of 32 names wide_phi) (only 2) two_by_eight ((copy_in 1 11 s16).1.operands) refl; holds = λ state reached. alone_holds two_by_eight state ((copy_in 1 11 s16).1.operands) refl; hides = hides_so (only_virtual (only 2)) (written_places (meaning_of (copy_in 1 11 s16).1.flags (copy_in 1 11 s16).1.op) ((copy_in 1 11 s16).1.operands)); leaves = λ c h. covers_so (only_virtual (only 2)) }, (record { kept = kept_reused two_by_eight ((extension 6 1).1) ((extension 6 1).1) refl; seen = seen_by (setting_of 32 names with_truncation) (setting_of 32 names wide_phi) (only 2) two_by_eight ((extension 6 1).1.operands) refl; holds = λ state reached. alone_holds two_by_eight state ((extension 6 1).1.operands) refl; hides = hides_so (only_virtual (only 2)) (written_places (meaning_of (extension 6 1).1.flags (extension 6 1).1.op) ((extension 6 1).1.operands)); leaves = λ c h. covers_so (only_virtual (only 2)) }, (record { kept = kept_reused two_by_eight ((on_to_2).1) ((on_to_2).1) refl; seen = seen_by (setting_of 32 names with_truncation) (setting_of 32 names wide_phi) (only 2) two_by_eight ((on_to_2).1.operands) refl; holds = λ state reached. alone_holds two_by_eight state ((on_to_2).1.operands) refl; hides = hides_so (only_virtual (only 2)) (written_places (meaning_of (on_to_2).1.flags (on_to_2).1.op) ((on_to_2).1.operands)); leaves = λ c h. covers_so (only_virtual (only 2)) }, tt)));
  falls = λ among. covers_so (only_virtual (only 2));
}
narrow_away_places (suc (suc zero)) = record {
  middle = (only_virtual (only 2));
  pieces = (Kept (truncation 8 7) (truncation 8 7), (only_virtual (only 2))) ∷ (Kept (extension 3 2) (extension 3 8), (only_virtual (only 2))) ∷ (Kept (copy_out 10 3) (copy_out 10 3), (only_virtual (only 2))) ∷ (Kept (return_of 10) (return_of 10), (only_virtual (only 2))) ∷ [];
  successors = refl;
  splits = refl;
  new_splits = refl;
  phis = λ w is_world. narrow_gone w is_world;
  body = λ w is_world. (record { kept = kept_reused two_by_eight ((truncation 8 7).1) ((truncation 8 7).1) refl; seen = seen_by (setting_of 32 names with_truncation) (setting_of 32 names wide_phi) (only 2) two_by_eight ((truncation 8 7).1.operands) refl; holds = λ state reached. alone_holds two_by_eight state ((truncation 8 7).1.operands) refl; hides = hides_so (only_virtual (only 2)) (written_places (meaning_of (truncation 8 7).1.flags (truncation 8 7).1.op) ((truncation 8 7).1.operands)); leaves = λ c h. covers_so (only_virtual (only 2)) }, (record { kept = kept_reused two_by_eight ((extension 3 2).1) ((extension 3 8).1) refl; seen = seen_by (setting_of 32 names with_truncation) (setting_of 32 names wide_phi) (only 2) two_by_eight ((extension 3 2).1.operands) refl; holds = λ state reached. (truncation_is w state reached, tt); hides = hides_so (only_virtual (only 2)) (written_places (meaning_of (extension 3 2).1.flags (extension 3 2).1.op) ((extension 3 2).1.operands)); leaves = λ c h. covers_so (only_virtual (only 2)) }, (record { kept = kept_reused two_by_eight ((copy_out 10 3).1) ((copy_out 10 3).1) refl; seen = seen_by (setting_of 32 names with_truncation) (setting_of 32 names wide_phi) (only 2) two_by_eight ((copy_out 10 3).1.operands) refl; holds = λ state reached. alone_holds two_by_eight state ((copy_out 10 3).1.operands) refl; hides = hides_so (only_virtual (only 2)) (written_places (meaning_of (copy_out 10 3).1.flags (copy_out 10 3).1.op) ((copy_out 10 3).1.operands)); leaves = λ c h. covers_so (only_virtual (only 2)) }, (record { kept = kept_reused two_by_eight ((return_of 10).1) ((return_of 10).1) refl; seen = seen_by (setting_of 32 names with_truncation) (setting_of 32 names wide_phi) (only 2) two_by_eight ((return_of 10).1.operands) refl; holds = λ state reached. alone_holds two_by_eight state ((return_of 10).1.operands) refl; hides = hides_so (only_virtual (only 2)) (written_places (meaning_of (return_of 10).1.flags (return_of 10).1.op) ((return_of 10).1.operands)); leaves = λ c h. covers_so (only_virtual (only 2)) }, tt))));
  falls = λ among. covers_so (only_virtual (only 2));
}
narrow_away_places (suc (suc (suc b))) = tt

narrow_away : RefinesUnchecked 32 names with_truncation wide_phi
narrow_away = rewriting_refines 32 names with_truncation wide_phi (record { entries = (λ b. (only_virtual (only 2))); rename = two_by_eight; places = narrow_away_places })

-- ══ The rule ══

pub phi_widened : RefinesUnchecked 32 names narrow_phi wide_phi
phi_widened = refines_through 32 names narrow_phi with_extensions wide_phi extended
    (refines_through 32 names with_extensions with_wide_phi wide_phi beside (refines_through 32 names with_wide_phi with_truncation wide_phi truncated narrow_away))
