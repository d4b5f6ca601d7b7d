-- A replacement that follows from the states that are reached, and not from all that agree.
use Rattle.std.proofs.Common.{◌≡◌, ℕ, zero, suc, Bool, true, false, ◌==◌, if◌then◌else◌, List, [], ◌∷◌, Option, Some, None, slice_get, ⊎_elim, refl, sym, ap, subst, lit<}
use Rattle.std.proofs.lemmas.Bool.{false≢true, eqb-false}
use Rattle.std.proofs.lemmas.Option.{none-some}
use Rattle.gi_mir.specs.Data.{InstrData, BlockData}
use Rattle.gi_meaning.specs.State.{World, IsWorld, State, start, Undefined, Place, Virtual, word_in, put}
use Rattle.gi_meaning.specs.Runs.{Setting, setting_of, Progress, On, Left, Over}
use Rattle.gi_refine.specs.Agreement.{ValueStands, Agree, AgreeAt, all_shown}
use Rattle.gi_refine.specs.Examples.{block_of, copy_in, copy_out, return_of, names, s32}
use Rattle.gi_refine_cases.specs.Idle.{IsByReach, copied, copies_copy, copies_value, copy_replaced}
use Rattle.gi_refine.specs.Kept.{HasSameValue}
use Rattle.gi_refine.specs.OnePlace.{only_virtual, nothing}
use Rattle.gi_refine.specs.Reached.{IsReached, WhereReached}
use Rattle.gi_refine.specs.Replacing.{any_touches, IsReplaced}
use Rattle.gi_refine.specs.Simulation.{Stands, IsFollowed}
use Rattle.gi_refine.proofs.Doing.{DoesAll}
use Rattle.gi_refine.proofs.Evaluating.{steps_so}
use Rattle.gi_refine_cases.proofs.IdleCases.{world, is_world_of}
use Rattle.gi_refine_cases.proofs.StayingTested.{seen_by}
use Rattle.gi_refine.proofs.Keeping.{agree_but, all_shown_less, kept_followed}
use Rattle.gi_refine.proofs.Reaching.{followed_within}
use Rattle.gi_refine.proofs.Staying.{kept_reused, has_same_value}
use Rattle.gi_refine.proofs.Agreeing.{same_value_stands}

abbrev old_setting : Setting
old_setting = setting_of 32 names copies_copy

abbrev new_setting : Setting
new_setting = setting_of 32 names copies_value

abbrev before : List (ℕ × InstrData)
before = copy_in 0 10 s32 ∷ copied 1 0 ∷ []

-- 0 replaces 1
abbrev one_by_zero : ℕ → ℕ
one_by_zero r = if r == 1 then 0 else r

abbrev all_seen : Place → Bool
all_seen = only_virtual nothing

-- ══ From the states that are reached ══

-- behind a copy of register 0 to register 1 both hold one value
abbrev both_of : Progress → Type 0
both_of (On state) = HasSameValue (state.values 1) (state.values 0)
both_of _ = Unit {0}

both_reached : (w : World) (state : State) → IsReached old_setting w copies_copy.blocks 0 before state → HasSameValue (state.values 1) (state.values 0)
both_reached w state r =
    let word : ℕ = word_in r.middle 10 in
    let come : State = put (put r.middle (Virtual 0) word) (Virtual 1) word in
    subst both_of (sym ((steps_so old_setting w before r.middle (On come) refl).only (On state) r.ran)) refl

place_follows : (w : World) → IsWorld 32 w
    → IsFollowed old_setting new_setting w (WhereReached old_setting w copies_copy.blocks 0 before (Agree old_setting new_setting all_seen))
    (Agree old_setting new_setting all_seen) (AgreeAt old_setting new_setting (λ b. all_seen)) (copied 2 1 ∷ []) (copied 2 0 ∷ [])
place_follows w is_world =
    let at : State → State → Type 0 = WhereReached old_setting w copies_copy.blocks 0 before (Agree old_setting new_setting all_seen) in
    let out : ℕ → State → State → Type 0 = AgreeAt old_setting new_setting (λ b. all_seen) in
    followed_within old_setting new_setting w at at (Agree old_setting new_setting (all_shown all_seen (Virtual 2 ∷ []))) (Agree old_setting new_setting all_seen) out out (copied 2 1 ∷ []) (copied 2 0 ∷ [])
    (λ old new h. h)
    (λ old new h. agree_but old_setting new_setting (all_shown all_seen (Virtual 2 ∷ [])) all_seen old new (all_shown_less all_seen (Virtual 2 ∷ [])) h)
    (λ c old new h. h)
    (kept_followed 32 names old_setting.width new_setting.width w at all_seen out (record { by = λ c old new h. h }) one_by_zero (copied 2 1) (copied 2 0)
    (kept_reused one_by_zero (copied 2 1).1 (copied 2 0).1 refl) (seen_by old_setting new_setting nothing one_by_zero ((copied 2 1).1.operands) refl)
    (λ old new related. (related.relates, (both_reached w old related.reached, tt))))

none_else : (b : ℕ) → (b ≡ 0 → ⊥) → (other : BlockData) → slice_get copies_copy.blocks b ≡ Some other → any_touches nothing (λ q. q) other.instrs ≡ false
none_else zero apart other h = absurd (apart refl)
none_else (suc b) apart other h = cc

replaced : IsReplaced 32 names copies_copy copies_value copy_replaced
replaced = record {
  block = block_of [] (copy_in 0 10 s32 ∷ copied 1 0 ∷ copied 2 1 ∷ copy_out 10 2 ∷ return_of 10 ∷ []);
  here = refl;
  instrs = refl;
  blocks = refl;
  no_phi = refl;
  no_new_phi = refl;
  before_clear = refl;
  after_clear = refl;
  others_clear = none_else;
  widths = λ q seen. refl;
  follows = place_follows;
}

-- ══ Not from all states that agree ══

-- registers 0 and 1 hold 1 and 2
abbrev apart_state : State
apart_state = record (start (world 1 2)) { values = λ r. if r == 0 then Some 1 else if r == 1 then Some 2 else None }

agrees_itself : Agree old_setting new_setting all_seen apart_state apart_state
agrees_itself = record { values = itself; words = λ n seen. refl; memory = refl; taken = refl }
  where
    itself : (r : ℕ) → nothing r ≡ false → ValueStands 32 (old_setting.width r) (new_setting.width r) (apart_state.values r) (apart_state.values r)
    itself r seen = same_value_stands 32 (old_setting.width r) (apart_state.values r) (apart_state.values r) (has_same_value (apart_state.values r))

-- register 2 holds 2 in the old state and 1 in the new one
abbrev two_of : Progress → Option ℕ
two_of (On state) = state.values 2
two_of _ = None

stands_apart : (p p' : Progress) → two_of p ≡ Some 2 → two_of p' ≡ Some 1 → Stands (Agree old_setting new_setting all_seen) (AgreeAt old_setting new_setting (λ b. all_seen)) p p' → ⊥
stands_apart (On old) (On new) is is' stands =
    eqb-false 1 2 refl (subst (λ v. ValueStands 32 32 32 v (Some 1)) is (subst (λ u. ValueStands 32 32 32 (old.values 2) u) is' (stands.values 2 refl)))
stands_apart (On old) (Left c new) is is' stands = stands
stands_apart (On old) (Over o) is is' stands = stands
stands_apart (Left c old) p' is is' stands = none-some 2 is
stands_apart (Over o) p' is is' stands = none-some 2 is

abbrev is_over : Progress → Bool
is_over (Over o) = true
is_over _ = false

not_everywhere : IsFollowed old_setting new_setting (world 1 2) (Agree old_setting new_setting all_seen) (Agree old_setting new_setting all_seen) (AgreeAt old_setting new_setting (λ b. all_seen)) (copied 2 1 ∷ []) (copied 2 0 ∷ []) → ⊥
not_everywhere followed =
    let come : Progress = On (put apart_state (Virtual 2) 2) in
    let come' : Progress = On (put apart_state (Virtual 2) 1) in
    let old_does : DoesAll old_setting (world 1 2) (copied 2 1 ∷ []) apart_state come = steps_so old_setting (world 1 2) (copied 2 1 ∷ []) apart_state come refl in
    let new_does : DoesAll new_setting (world 1 2) (copied 2 0 ∷ []) apart_state come' = steps_so new_setting (world 1 2) (copied 2 0 ∷ []) apart_state come' refl in
    ⊎_elim
    (λ ran. stands_apart ran.0 come' (ap two_of (old_does.only ran.0 ran.1)) refl ran.2)
    (λ undefined. false≢true (sym (ap is_over (old_does.only (Over Undefined) undefined))))
    (followed.by apart_state apart_state agrees_itself come' new_does.can)

pub by_reach : IsByReach
by_reach = record { replaced = replaced; not_everywhere = not_everywhere; world = is_world_of 1 2 (lit< tt) (lit< tt) }
