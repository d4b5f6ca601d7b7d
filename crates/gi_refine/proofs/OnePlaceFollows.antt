-- A function with one place rewritten refines the old one.
use Rattle.std.proofs.Common.{◌≡◌, ℕ, Bool, List, [], ◌∷◌, ◌++◌, Option, Some, None, slice_get, ⊎_elim, refl, sym, ap, subst}
use Rattle.std.proofs.lemmas.List.{append_assoc, append-nil}
use Rattle.std.proofs.lemmas.Bool.Decides.{eqb_tells}
use Rattle.gi_mir.specs.Data.{InstrData, BlockData, FunctionData}
use Rattle.gi_meaning.specs.State.{World, IsWorld, State, Place}
use Rattle.gi_meaning.specs.Meaning.{meaning_of}
use Rattle.gi_meaning.specs.Runs.{Setting, setting_of, written_places, phis_of, after_phis}
use Rattle.gi_refine.specs.Agreement.{Agree, AgreeAt, AgreeEntering, all_shown}
use Rattle.gi_refine.specs.Kept.{AreKept, AllSeenAs, UsesHold}
use Rattle.gi_refine.specs.OnePlace.{OnePlace, only_virtual, BlockStays, StaysAt, RewritesOnePlace}
use Rattle.gi_refine.specs.Reached.{IsReached, WhereReached}
use Rattle.gi_refine.specs.Refinement.{RefinesUnchecked}
use Rattle.gi_refine.specs.Simulation.{IsFollowed}
use Rattle.gi_refine.proofs.Keeping.{agree_but, all_shown_less, kept_followed, phis_kept, bodies_kept, phis_seen, bodies_seen, phis_stand}
use Rattle.gi_refine.proofs.Reaching.{WhereLeft, left_before, followed_where, followed_within, nothing_followed, FollowsWhere, PlaceFollowsWhere, refined_where_reached}
use Rattle.gi_refine.proofs.Simulating.{followed_on}

-- ══ Instructions that stay ══

-- the next one stays
one_stays : (x : ℕ) (names : List (List ℕ)) (f g : FunctionData) (w : World) (b : ℕ) (hidden : Place → Bool) (rename : ℕ → ℕ) (done : List (ℕ × InstrData)) (i j : ℕ × InstrData)
    → AreKept rename (i ∷ []) (j ∷ []) → AllSeenAs (setting_of x names f) (setting_of x names g) hidden rename (i ∷ [])
    → ((state : State) → IsReached (setting_of x names f) w f.blocks b done state → UsesHold rename state i.1.operands)
    → IsFollowed (setting_of x names f) (setting_of x names g) w (WhereReached (setting_of x names f) w f.blocks b done (Agree (setting_of x names f) (setting_of x names g) hidden))
    (WhereReached (setting_of x names f) w f.blocks b (done ++ (i ∷ [])) (Agree (setting_of x names f) (setting_of x names g) hidden))
    (WhereLeft (setting_of x names f) w f.blocks b (done ++ (i ∷ [])) (AgreeAt (setting_of x names f) (setting_of x names g) (λ c. hidden))) (i ∷ []) (j ∷ [])
one_stays x names f g w b hidden rename done i j kept seen holds =
    let s : Setting = setting_of x names f in
    let t : Setting = setting_of x names g in
    let at : State → State → Type 0 = WhereReached s w f.blocks b done (Agree s t hidden) in
    let out : ℕ → State → State → Type 0 = AgreeAt s t (λ c. hidden) in
    followed_where s t w f.blocks b done (Agree s t hidden) (Agree s t hidden) out (i ∷ []) (j ∷ [])
    (followed_within s t w at at (Agree s t (all_shown hidden (written_places (meaning_of i.1.flags i.1.op) i.1.operands))) (Agree s t hidden) out out (i ∷ []) (j ∷ [])
    (λ old new h. h)
    (λ old new h. agree_but s t (all_shown hidden (written_places (meaning_of i.1.flags i.1.op) i.1.operands)) hidden old new
    (all_shown_less hidden (written_places (meaning_of i.1.flags i.1.op) i.1.operands)) h)
    (λ c old new h. h)
    (kept_followed x names s.width t.width w at hidden out (record { by = λ c old new agree. agree }) rename i j kept.0 seen.0
    (λ old new related. (related.relates, holds old related.reached))))

-- all of them stay
pub all_stay : (x : ℕ) (names : List (List ℕ)) (f g : FunctionData) (w : World) (b : ℕ) (hidden : Place → Bool) (rename : ℕ → ℕ) (done is js : List (ℕ × InstrData))
    → AreKept rename is js → AllSeenAs (setting_of x names f) (setting_of x names g) hidden rename is
    → ((front : List (ℕ × InstrData)) (i : ℕ × InstrData) (back : List (ℕ × InstrData)) → is ≡ front ++ (i ∷ back)
    → (state : State) → IsReached (setting_of x names f) w f.blocks b (done ++ front) state → UsesHold rename state i.1.operands)
    → IsFollowed (setting_of x names f) (setting_of x names g) w (WhereReached (setting_of x names f) w f.blocks b done (Agree (setting_of x names f) (setting_of x names g) hidden))
    (WhereReached (setting_of x names f) w f.blocks b (done ++ is) (Agree (setting_of x names f) (setting_of x names g) hidden))
    (WhereLeft (setting_of x names f) w f.blocks b (done ++ is) (AgreeAt (setting_of x names f) (setting_of x names g) (λ c. hidden))) is js
all_stay x names f g w b hidden rename done [] [] kept seen holds =
    let s : Setting = setting_of x names f in
    let t : Setting = setting_of x names g in
    subst (λ d. IsFollowed s t w (WhereReached s w f.blocks b done (Agree s t hidden)) (WhereReached s w f.blocks b d (Agree s t hidden)) (WhereLeft s w f.blocks b d (AgreeAt s t (λ c. hidden))) [] [])
    (sym (append-nil done)) (nothing_followed s t w (WhereReached s w f.blocks b done (Agree s t hidden)) (WhereLeft s w f.blocks b done (AgreeAt s t (λ c. hidden))))
all_stay x names f g w b hidden rename done [] (j ∷ js) kept seen holds = absurd kept
all_stay x names f g w b hidden rename done (i ∷ is) [] kept seen holds = absurd kept
all_stay x names f g w b hidden rename done (i ∷ is) (j ∷ js) kept seen holds =
    let s : Setting = setting_of x names f in
    let t : Setting = setting_of x names g in
    let out : ℕ → State → State → Type 0 = AgreeAt s t (λ c. hidden) in
    let e : (done ++ (i ∷ [])) ++ is ≡ done ++ (i ∷ is) = append_assoc done (i ∷ []) is in
    let at : List (ℕ × InstrData) → State → State → Type 0 = λ d. WhereReached s w f.blocks b d (Agree s t hidden) in
    subst (λ d. IsFollowed s t w (WhereReached s w f.blocks b done (Agree s t hidden)) (WhereReached s w f.blocks b d (Agree s t hidden)) (WhereLeft s w f.blocks b d out) (i ∷ is) (j ∷ js)) e
    (followed_on s t w (at done) (at (done ++ (i ∷ []))) (at ((done ++ (i ∷ [])) ++ is)) (WhereLeft s w f.blocks b ((done ++ (i ∷ [])) ++ is) out) (i ∷ []) (j ∷ []) is js
    (followed_within s t w (at done) (at done) (at (done ++ (i ∷ []))) (at (done ++ (i ∷ []))) (WhereLeft s w f.blocks b (done ++ (i ∷ [])) out)
    (WhereLeft s w f.blocks b ((done ++ (i ∷ [])) ++ is) out) (i ∷ []) (j ∷ [])
    (λ old new h. h) (λ old new h. h) (λ c old new h. left_before s w f.blocks b (done ++ (i ∷ [])) is out c old new h)
    (one_stays x names f g w b hidden rename done i j (kept.0, tt) (seen.0, tt)
    (λ state reached. holds [] i is refl state (subst (λ d. IsReached s w f.blocks b d state) (sym (append-nil done)) reached))))
    (all_stay x names f g w b hidden rename (done ++ (i ∷ [])) is js kept.1 seen.1
    (λ front k back split state reached.
    holds (i ∷ front) k back (ap (λ ks. i ∷ ks) split) state (subst (λ d. IsReached s w f.blocks b d state) (append_assoc done (i ∷ []) front) reached))))

-- ══ Blocks ══

-- a block outside the place
block_stays : (x : ℕ) (names : List (List ℕ)) (f g : FunctionData) (hidden : ℕ → Bool) (rename : ℕ → ℕ) (b : ℕ) (old new : BlockData) → BlockStays x names f g hidden rename b old new
    → (w : World) → IsWorld x w
    → FollowsWhere (setting_of x names f) (setting_of x names g) w f.blocks (AgreeEntering (setting_of x names f) (setting_of x names g) (λ c. only_virtual hidden))
    (Agree (setting_of x names f) (setting_of x names g) (only_virtual hidden)) (Agree (setting_of x names f) (setting_of x names g) (only_virtual hidden))
    (AgreeAt (setting_of x names f) (setting_of x names g) (λ c. only_virtual hidden)) b old new
block_stays x names f g hidden rename b old new stays w is_world = record {
  successors = stays.successors;
  phis = λ entries from state state' arrives agree.
      phis_stand (setting_of x names f) (setting_of x names g) (only_virtual hidden) rename from state state' agree (phis_of old.instrs) (phis_of new.instrs)
      (phis_kept rename old.instrs new.instrs stays.kept) (phis_seen (setting_of x names f) (setting_of x names g) (only_virtual hidden) rename old.instrs stays.seen)
      (stays.phis.by w is_world entries from state arrives);
  body = all_stay x names f g w b (only_virtual hidden) rename [] (after_phis old.instrs) (after_phis new.instrs) (bodies_kept rename old.instrs new.instrs stays.kept)
      (bodies_seen (setting_of x names f) (setting_of x names g) (only_virtual hidden) rename old.instrs stays.seen) (stays.body.by w is_world);
  falls = λ among state state' agree. agree;
  leaves = λ c state state' agree. agree;
}

pub option_stays : (x : ℕ) (names : List (List ℕ)) (f g : FunctionData) (hidden : ℕ → Bool) (rename : ℕ → ℕ) (b : ℕ) (old new : Option BlockData) → StaysAt x names f g hidden rename b old new
    → (w : World) → IsWorld x w
    → PlaceFollowsWhere (setting_of x names f) (setting_of x names g) w f.blocks (AgreeEntering (setting_of x names f) (setting_of x names g) (λ c. only_virtual hidden))
    (Agree (setting_of x names f) (setting_of x names g) (only_virtual hidden)) (Agree (setting_of x names f) (setting_of x names g) (only_virtual hidden))
    (AgreeAt (setting_of x names f) (setting_of x names g) (λ c. only_virtual hidden)) b old new
option_stays x names f g hidden rename b None new stays w is_world = tt
option_stays x names f g hidden rename b (Some old) None stays w is_world = absurd stays
option_stays x names f g hidden rename b (Some old) (Some new) stays w is_world = block_stays x names f g hidden rename b old new stays w is_world

-- what stands behind the phis of the block of the place
place_body : (x : ℕ) (names : List (List ℕ)) (f g : FunctionData) (p : OnePlace) → RewritesOnePlace x names f g p → (w : World) → IsWorld x w
    → IsFollowed (setting_of x names f) (setting_of x names g) w (WhereReached (setting_of x names f) w f.blocks p.block [] (Agree (setting_of x names f) (setting_of x names g) (only_virtual p.hidden)))
    (WhereReached (setting_of x names f) w f.blocks p.block (p.before ++ (p.old ++ p.after)) (Agree (setting_of x names f) (setting_of x names g) (only_virtual p.hidden)))
    (WhereLeft (setting_of x names f) w f.blocks p.block (p.before ++ (p.old ++ p.after)) (AgreeAt (setting_of x names f) (setting_of x names g) (λ c. only_virtual p.hidden)))
    (p.before ++ (p.old ++ p.after)) (p.new_before ++ (p.new ++ p.new_after))
place_body x names f g p rewrites w is_world =
    let s : Setting = setting_of x names f in
    let t : Setting = setting_of x names g in
    let all : List (ℕ × InstrData) = p.before ++ (p.old ++ p.after) in
    let hidden : Place → Bool = only_virtual p.hidden in
    let out : ℕ → State → State → Type 0 = AgreeAt s t (λ c. hidden) in
    let at : List (ℕ × InstrData) → State → State → Type 0 = λ d. WhereReached s w f.blocks p.block d (Agree s t hidden) in
    let left : List (ℕ × InstrData) → ℕ → State → State → Type 0 = λ d. WhereLeft s w f.blocks p.block d out in
    let e : (p.before ++ p.old) ++ p.after ≡ all = append_assoc p.before p.old p.after in
    followed_on s t w (at []) (at p.before) (at all) (left all) p.before p.new_before (p.old ++ p.after) (p.new ++ p.new_after)
    (followed_within s t w (at []) (at []) (at p.before) (at p.before) (left p.before) (left all) p.before p.new_before
    (λ old new h. h) (λ old new h. h) (λ c old new h. left_before s w f.blocks p.block p.before (p.old ++ p.after) out c old new h)
    (all_stay x names f g w p.block hidden p.rename [] p.before p.new_before rewrites.before_kept rewrites.before_seen (rewrites.before_holds.by w is_world)))
    (followed_on s t w (at p.before) (at (p.before ++ p.old)) (at all) (left all) p.old p.new p.after p.new_after
    (followed_within s t w (at p.before) (at p.before) (at (p.before ++ p.old)) (at (p.before ++ p.old)) (left (p.before ++ p.old)) (left all) p.old p.new
    (λ old new h. h) (λ old new h. h) (λ c old new h. subst (λ d. left d c old new) e (left_before s w f.blocks p.block (p.before ++ p.old) p.after out c old new h))
    (followed_where s t w f.blocks p.block p.before (Agree s t hidden) (Agree s t hidden) out p.old p.new (rewrites.follows w is_world)))
    (subst (λ d. IsFollowed s t w (at (p.before ++ p.old)) (at d) (left d) p.after p.new_after) e
    (all_stay x names f g w p.block hidden p.rename (p.before ++ p.old) p.after p.new_after rewrites.after_kept rewrites.after_seen (rewrites.after_holds.by w is_world))))

place_rewritten : (x : ℕ) (names : List (List ℕ)) (f g : FunctionData) (p : OnePlace) → (rewrites : RewritesOnePlace x names f g p) → (w : World) → IsWorld x w
    → FollowsWhere (setting_of x names f) (setting_of x names g) w f.blocks (AgreeEntering (setting_of x names f) (setting_of x names g) (λ c. only_virtual p.hidden))
    (Agree (setting_of x names f) (setting_of x names g) (only_virtual p.hidden)) (Agree (setting_of x names f) (setting_of x names g) (only_virtual p.hidden))
    (AgreeAt (setting_of x names f) (setting_of x names g) (λ c. only_virtual p.hidden)) p.block rewrites.block rewrites.new_block
place_rewritten x names f g p rewrites w is_world = record {
  successors = rewrites.successors;
  phis = λ entries from state state' arrives agree.
      phis_stand (setting_of x names f) (setting_of x names g) (only_virtual p.hidden) p.rename from state state' agree (phis_of rewrites.block.instrs) (phis_of rewrites.new_block.instrs)
      rewrites.phis_kept rewrites.phis_seen (rewrites.phis_hold.by w is_world entries from state arrives);
  body =
      let s : Setting = setting_of x names f in
      let t : Setting = setting_of x names g in
      let hidden : Place → Bool = only_virtual p.hidden in
      subst (λ ys. IsFollowed s t w (WhereReached s w f.blocks p.block [] (Agree s t hidden)) (WhereReached s w f.blocks p.block (after_phis rewrites.block.instrs) (Agree s t hidden))
      (WhereLeft s w f.blocks p.block (after_phis rewrites.block.instrs) (AgreeAt s t (λ c. hidden))) (after_phis rewrites.block.instrs) ys) (sym rewrites.new_splits)
      (subst (λ xs. IsFollowed s t w (WhereReached s w f.blocks p.block [] (Agree s t hidden)) (WhereReached s w f.blocks p.block xs (Agree s t hidden))
      (WhereLeft s w f.blocks p.block xs (AgreeAt s t (λ c. hidden))) xs (p.new_before ++ (p.new ++ p.new_after))) (sym rewrites.splits)
      (place_body x names f g p rewrites w is_world));
  falls = λ among state state' agree. agree;
  leaves = λ c state state' agree. agree;
}

-- ══ The whole function ══

pub one_place_refines : (x : ℕ) (names : List (List ℕ)) (f g : FunctionData) (p : OnePlace) → RewritesOnePlace x names f g p → RefinesUnchecked x names f g
one_place_refines x names f g p rewrites =
    let s : Setting = setting_of x names f in
    let t : Setting = setting_of x names g in
    let hidden : Place → Bool = only_virtual p.hidden in
    refined_where_reached x names f g (λ w. AgreeEntering s t (λ c. hidden)) (λ w b. Agree s t hidden) (λ w b. Agree s t hidden) (λ w b. AgreeAt s t (λ c. hidden))
    (λ w is_world. record { values = λ r seen. tt; words = λ n seen. refl; memory = refl; taken = refl })
    (λ w is_world b. ⊎_elim
    (λ same. subst (λ c. PlaceFollowsWhere s t w f.blocks (AgreeEntering s t (λ c. hidden)) (Agree s t hidden) (Agree s t hidden) (AgreeAt s t (λ c. hidden)) c (slice_get f.blocks c) (slice_get g.blocks c))
    (sym same.1)
    (subst (λ o. PlaceFollowsWhere s t w f.blocks (AgreeEntering s t (λ c. hidden)) (Agree s t hidden) (Agree s t hidden) (AgreeAt s t (λ c. hidden)) p.block o (slice_get g.blocks p.block)) (sym rewrites.here)
    (subst (λ o. PlaceFollowsWhere s t w f.blocks (AgreeEntering s t (λ c. hidden)) (Agree s t hidden) (Agree s t hidden) (AgreeAt s t (λ c. hidden)) p.block (Some rewrites.block) o) (sym rewrites.there)
    (place_rewritten x names f g p rewrites w is_world))))
    (λ other. option_stays x names f g p.hidden p.rename b (slice_get f.blocks b) (slice_get g.blocks b) (rewrites.others b other.1) w is_world)
    (eqb_tells b p.block))
    (λ w is_world from b old new agree. (agree.memory, agree.taken))
