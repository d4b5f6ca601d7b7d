-- A function that is rewritten piece by piece refines the old one.
use Rattle.std.proofs.Common.{◌≡◌, ℕ, ◌+◌, Bool, true, false, List, [], ◌∷◌, ◌++◌, Option, Some, None, slice_get, inl, inr, ⊎_elim, refl, sym, subst}
use Rattle.std.proofs.lemmas.List.{append_assoc, append-nil}
use Rattle.gi_mir.specs.Data.{InstrData, BlockData, FunctionData}
use Rattle.gi_meaning.specs.State.{World, IsWorld, State, Place}
use Rattle.gi_meaning.specs.Meaning.{meaning_of}
use Rattle.gi_meaning.specs.Runs.{Setting, setting_of, written_places, after_phis, joined, Progress, On, Left, Over}
use Rattle.gi_refine.specs.Agreement.{Agree, AgreeAt, AgreeEntering, all_shown}
use Rattle.gi_refine.specs.Kept.{AreKept, AllSeenAs, PhisHold}
use Rattle.gi_refine.specs.Reached.{WhereReached}
use Rattle.gi_refine.specs.Refinement.{RefinesUnchecked}
use Rattle.gi_refine.specs.Rewriting.{Piece, Kept, Changed, old_of, new_of, all_old, all_new, Covers, is_target, Stays, PieceFollows, PiecesFollow, hidden_after, PhisFollow, shown_by_phis, BlockRewritten, RewrittenAt, IsRewritten}
use Rattle.gi_refine.specs.Simulation.{Stands, IsFollowed}
use Rattle.gi_refine.proofs.Agreeing.{alone_is}
use Rattle.gi_refine.proofs.Keeping.{agree_but, kept_followed, phis_within, phis_show, all_shown_less}
use Rattle.gi_refine.proofs.Reaching.{WhereLeft, left_before, followed_where, followed_within, nothing_followed, FollowsWhere, PlaceFollowsWhere, refined_where_reached}
use Rattle.gi_refine.proofs.Simulating.{followed_on}
use Rattle.gi_refine.proofs.Targets.{ProgressIn, step_target}

-- ══ What is hidden after an instruction ══

-- what was hidden, and what is shown besides
pub hides_so : (now : Place → Bool) (ps : List Place) → Covers (all_shown now ps) now
hides_so now ps = record { by = λ p h. all_shown_less now ps p h }

pub covers_so : (now : Place → Bool) → Covers now now
covers_so now = record { by = λ p h. h }

-- ══ An instruction goes to its targets alone ══

-- to a block that has a property
abbrev pub ExitsIn : (P : ℕ → Type 0) → (exit : ℕ → State → State → Type 0) → ℕ → State → State → Type 0
ExitsIn P exit c old new = P c × exit c old new

exits_in : (P : ℕ → Type 0) (after : State → State → Type 0) (exit : ℕ → State → State → Type 0) (p p' : Progress) → ProgressIn P p → Stands after exit p p' → Stands after (ExitsIn P exit) p p'
exits_in P after exit (On old) (On new) h stands = stands
exits_in P after exit (On old) (Left c new) h stands = absurd stands
exits_in P after exit (On old) (Over o) h stands = absurd stands
exits_in P after exit (Left c old) (On new) h stands = absurd stands
exits_in P after exit (Left c old) (Left d new) h stands = (stands.0, (subst P stands.0 h, stands.1))
exits_in P after exit (Left c old) (Over o) h stands = absurd stands
exits_in P after exit (Over o) (On new) h stands = absurd stands
exits_in P after exit (Over o) (Left d new) h stands = absurd stands
exits_in P after exit (Over o) (Over q) h stands = stands

to_targets : (s t : Setting) (w : World) (before after : State → State → Type 0) (exit : ℕ → State → State → Type 0) (i j : ℕ × InstrData)
    → IsFollowed s t w before after exit (i ∷ []) (j ∷ []) → IsFollowed s t w before after (ExitsIn (λ c. is_target c i.1.operands ≡ true) exit) (i ∷ []) (j ∷ [])
to_targets s t w before after exit i j followed = record {
  by = λ old new related p' run. ⊎_elim
      (λ ran. inl (ran.0, ran.1, exits_in (λ c. is_target c i.1.operands ≡ true) after exit ran.0 p' (step_target s w i.1 old ran.0 (alone_is s w i old ran.0 ran.1)) ran.2))
      (λ undefined. inr undefined)
      (followed.by old new related p' run);
}

-- ══ Pieces ══

instruction_stays : (x : ℕ) (names : List (List ℕ)) (f g : FunctionData) (entries : ℕ → Place → Bool) (rename : ℕ → ℕ) (w : World) (b : ℕ) (before : List (ℕ × InstrData)) (now next : Place → Bool) (i j : ℕ × InstrData)
    → Stays x names f g entries rename w b before now next i.1 j.1
    → IsFollowed (setting_of x names f) (setting_of x names g) w
    (WhereReached (setting_of x names f) w f.blocks b before (Agree (setting_of x names f) (setting_of x names g) now))
    (Agree (setting_of x names f) (setting_of x names g) next) (AgreeAt (setting_of x names f) (setting_of x names g) entries) (i ∷ []) (j ∷ [])
instruction_stays x names f g entries rename w b before now next i j stays =
    let s : Setting = setting_of x names f in
    let t : Setting = setting_of x names g in
    let at : State → State → Type 0 = WhereReached s w f.blocks b before (Agree s t now) in
    let out : ℕ → State → State → Type 0 = λ c. Agree s t now in
    let shown : Place → Bool = all_shown now (written_places (meaning_of i.1.flags i.1.op) i.1.operands) in
    followed_within s t w at at (Agree s t shown) (Agree s t next) (ExitsIn (λ c. is_target c i.1.operands ≡ true) out) (AgreeAt s t entries) (i ∷ []) (j ∷ [])
    (λ old new h. h)
    (λ old new h. agree_but s t shown next old new stays.hides.by h)
    (λ c old new h. agree_but s t now (entries c) old new (stays.leaves c h.0).by h.1)
    (to_targets s t w at (Agree s t shown) out i j
    (kept_followed x names s.width t.width w at now out (record { by = λ c old new agree. agree }) rename i j stays.kept stays.seen
    (λ old new related. (related.relates, stays.holds old related.reached))))

piece_follows : (x : ℕ) (names : List (List ℕ)) (f g : FunctionData) (entries : ℕ → Place → Bool) (rename : ℕ → ℕ) (w : World) (b : ℕ) (before : List (ℕ × InstrData)) (now next : Place → Bool) (p : Piece)
    → PieceFollows x names f g entries rename w b before now next p
    → IsFollowed (setting_of x names f) (setting_of x names g) w
    (WhereReached (setting_of x names f) w f.blocks b before (Agree (setting_of x names f) (setting_of x names g) now))
    (Agree (setting_of x names f) (setting_of x names g) next) (AgreeAt (setting_of x names f) (setting_of x names g) entries) (old_of p) (new_of p)
piece_follows x names f g entries rename w b before now next (Kept i j) follows = instruction_stays x names f g entries rename w b before now next i j follows
piece_follows x names f g entries rename w b before now next (Changed is js) follows = follows

pieces_follow : (x : ℕ) (names : List (List ℕ)) (f g : FunctionData) (entries : ℕ → Place → Bool) (rename : ℕ → ℕ) (w : World) (b : ℕ) (before : List (ℕ × InstrData)) (now : Place → Bool)
    (ps : List (Piece × (Place → Bool))) → PiecesFollow x names f g entries rename w b before now ps
    → IsFollowed (setting_of x names f) (setting_of x names g) w
    (WhereReached (setting_of x names f) w f.blocks b before (Agree (setting_of x names f) (setting_of x names g) now))
    (WhereReached (setting_of x names f) w f.blocks b (before ++ all_old ps) (Agree (setting_of x names f) (setting_of x names g) (hidden_after now ps)))
    (WhereLeft (setting_of x names f) w f.blocks b (before ++ all_old ps) (AgreeAt (setting_of x names f) (setting_of x names g) entries)) (all_old ps) (all_new ps)
pieces_follow x names f g entries rename w b before now [] follow =
    let s : Setting = setting_of x names f in
    let t : Setting = setting_of x names g in
    subst (λ d. IsFollowed s t w (WhereReached s w f.blocks b before (Agree s t now)) (WhereReached s w f.blocks b d (Agree s t now)) (WhereLeft s w f.blocks b d (AgreeAt s t entries)) [] [])
    (sym (append-nil before)) (nothing_followed s t w (WhereReached s w f.blocks b before (Agree s t now)) (WhereLeft s w f.blocks b before (AgreeAt s t entries)))
pieces_follow x names f g entries rename w b before now (p ∷ ps) follow =
    let s : Setting = setting_of x names f in
    let t : Setting = setting_of x names g in
    let out : ℕ → State → State → Type 0 = AgreeAt s t entries in
    let first : List (ℕ × InstrData) = before ++ old_of p.0 in
    let at : List (ℕ × InstrData) → (Place → Bool) → State → State → Type 0 = λ d hidden. WhereReached s w f.blocks b d (Agree s t hidden) in
    let end : Place → Bool = hidden_after p.1 ps in
    subst (λ d. IsFollowed s t w (at before now) (at d end) (WhereLeft s w f.blocks b d out) (old_of p.0 ++ all_old ps) (new_of p.0 ++ all_new ps)) (append_assoc before (old_of p.0) (all_old ps))
    (followed_on s t w (at before now) (at first p.1) (at (first ++ all_old ps) end) (WhereLeft s w f.blocks b (first ++ all_old ps) out) (old_of p.0) (new_of p.0) (all_old ps) (all_new ps)
    (followed_within s t w (at before now) (at before now) (at first p.1) (at first p.1) (WhereLeft s w f.blocks b first out) (WhereLeft s w f.blocks b (first ++ all_old ps) out) (old_of p.0) (new_of p.0)
    (λ old new h. h) (λ old new h. h) (λ c old new h. left_before s w f.blocks b first (all_old ps) out c old new h)
    (followed_where s t w f.blocks b before (Agree s t now) (Agree s t p.1) out (old_of p.0) (new_of p.0) (piece_follows x names f g entries rename w b before now p.1 p.0 follow.0)))
    (pieces_follow x names f g entries rename w b first p.1 ps follow.1))

-- ══ Blocks ══

block_rewritten : (x : ℕ) (names : List (List ℕ)) (f g : FunctionData) (entries : ℕ → Place → Bool) (rename : ℕ → ℕ) (b : ℕ) (old new : BlockData)
    → (rewritten : BlockRewritten x names f g entries rename b old new) → (after : Place → Bool) → after ≡ hidden_after rewritten.middle rewritten.pieces → (w : World) → IsWorld x w
    → FollowsWhere (setting_of x names f) (setting_of x names g) w f.blocks (AgreeEntering (setting_of x names f) (setting_of x names g) entries)
    (Agree (setting_of x names f) (setting_of x names g) rewritten.middle) (Agree (setting_of x names f) (setting_of x names g) after)
    (AgreeAt (setting_of x names f) (setting_of x names g) entries) b old new
block_rewritten x names f g entries rename b old new rewritten after is_after w is_world =
    let s : Setting = setting_of x names f in
    let t : Setting = setting_of x names g in
    let out : ℕ → State → State → Type 0 = AgreeAt s t entries in
    record {
      successors = rewritten.successors;
      phis = λ n from state state' arrives agree. (rewritten.phis w is_world).by n from state state' arrives agree;
      body = subst (λ h. IsFollowed s t w (WhereReached s w f.blocks b [] (Agree s t rewritten.middle)) (WhereReached s w f.blocks b (after_phis old.instrs) (Agree s t h))
          (WhereLeft s w f.blocks b (after_phis old.instrs) out) (after_phis old.instrs) (after_phis new.instrs)) (sym is_after)
          (subst (λ ys. IsFollowed s t w (WhereReached s w f.blocks b [] (Agree s t rewritten.middle)) (WhereReached s w f.blocks b (after_phis old.instrs) (Agree s t (hidden_after rewritten.middle rewritten.pieces)))
          (WhereLeft s w f.blocks b (after_phis old.instrs) out) (after_phis old.instrs) ys) (sym rewritten.new_splits)
          (subst (λ xs. IsFollowed s t w (WhereReached s w f.blocks b [] (Agree s t rewritten.middle)) (WhereReached s w f.blocks b xs (Agree s t (hidden_after rewritten.middle rewritten.pieces)))
          (WhereLeft s w f.blocks b xs out) xs (all_new rewritten.pieces)) (sym rewritten.splits)
          (pieces_follow x names f g entries rename w b [] rewritten.middle rewritten.pieces (rewritten.body w is_world))));
      falls = λ among state state' agree.
          agree_but s t (hidden_after rewritten.middle rewritten.pieces) (entries (b + 1)) state state' (rewritten.falls among).by (subst (λ h. Agree s t h state state') is_after agree);
      leaves = λ c state state' agree. agree;
    }

-- what is hidden behind the phis and at the end of a block that is there
abbrev middle_of : (x : ℕ) (names : List (List ℕ)) (f g : FunctionData) (entries : ℕ → Place → Bool) (rename : ℕ → ℕ) (b : ℕ) (old new : Option BlockData) → RewrittenAt x names f g entries rename b old new → Place → Bool
middle_of x names f g entries rename b None new rewritten = λ p. false
middle_of x names f g entries rename b (Some old) None rewritten = λ p. false
middle_of x names f g entries rename b (Some old) (Some new) rewritten = rewritten.middle

abbrev after_of : (x : ℕ) (names : List (List ℕ)) (f g : FunctionData) (entries : ℕ → Place → Bool) (rename : ℕ → ℕ) (b : ℕ) (old new : Option BlockData) → RewrittenAt x names f g entries rename b old new → Place → Bool
after_of x names f g entries rename b None new rewritten = λ p. false
after_of x names f g entries rename b (Some old) None rewritten = λ p. false
after_of x names f g entries rename b (Some old) (Some new) rewritten = hidden_after rewritten.middle rewritten.pieces

option_rewritten : (x : ℕ) (names : List (List ℕ)) (f g : FunctionData) (entries : ℕ → Place → Bool) (rename : ℕ → ℕ) (b : ℕ) (old new : Option BlockData)
    → (rewritten : RewrittenAt x names f g entries rename b old new) → (w : World) → IsWorld x w
    → PlaceFollowsWhere (setting_of x names f) (setting_of x names g) w f.blocks (AgreeEntering (setting_of x names f) (setting_of x names g) entries)
    (Agree (setting_of x names f) (setting_of x names g) (middle_of x names f g entries rename b old new rewritten))
    (Agree (setting_of x names f) (setting_of x names g) (after_of x names f g entries rename b old new rewritten))
    (AgreeAt (setting_of x names f) (setting_of x names g) entries) b old new
option_rewritten x names f g entries rename b None new rewritten w is_world = tt
option_rewritten x names f g entries rename b (Some old) None rewritten w is_world = absurd rewritten
option_rewritten x names f g entries rename b (Some old) (Some new) rewritten w is_world =
    block_rewritten x names f g entries rename b old new rewritten (hidden_after rewritten.middle rewritten.pieces) refl w is_world

-- phis that stay
pub kept_phis_follow : (x : ℕ) (names : List (List ℕ)) (f g : FunctionData) (w : World) (b : ℕ) (rename : ℕ → ℕ) (entry middle : Place → Bool) (old new : List (ℕ × InstrData)) → IsWorld x w → AreKept rename old new
    → AllSeenAs (setting_of x names f) (setting_of x names g) entry rename old → PhisHold x names f b rename old → Covers (shown_by_phis entry old) middle → PhisFollow x names f g w b entry middle old new
kept_phis_follow x names f g w b rename entry middle old new is_world kept seen holds covers = record {
  by = λ n from state state' arrives agree.
      let s : Setting = setting_of x names f in
      let t : Setting = setting_of x names g in
      phis_within (Agree s t (shown_by_phis entry old)) (Agree s t middle) (joined state from old) (joined state' from new)
      (λ σ σ' h. agree_but s t (shown_by_phis entry old) middle σ σ' covers.by h)
      (phis_show s t entry rename from state state' agree old new kept seen (holds.by w is_world n from state arrives));
}

-- ══ The whole function ══

pub rewriting_refines : (x : ℕ) (names : List (List ℕ)) (f g : FunctionData) → IsRewritten x names f g → RefinesUnchecked x names f g
rewriting_refines x names f g rewritten =
    let s : Setting = setting_of x names f in
    let t : Setting = setting_of x names g in
    refined_where_reached x names f g (λ w. AgreeEntering s t rewritten.entries)
    (λ w b. Agree s t (middle_of x names f g rewritten.entries rewritten.rename b (slice_get f.blocks b) (slice_get g.blocks b) (rewritten.places b)))
    (λ w b. Agree s t (after_of x names f g rewritten.entries rewritten.rename b (slice_get f.blocks b) (slice_get g.blocks b) (rewritten.places b)))
    (λ w b. AgreeAt s t rewritten.entries)
    (λ w is_world. record { values = λ r seen. tt; words = λ n seen. refl; memory = refl; taken = refl })
    (λ w is_world b. option_rewritten x names f g rewritten.entries rewritten.rename b (slice_get f.blocks b) (slice_get g.blocks b) (rewritten.places b) w is_world)
    (λ w is_world from b old new agree. (agree.memory, agree.taken))
