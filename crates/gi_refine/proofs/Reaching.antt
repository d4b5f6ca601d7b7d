-- What follows from the states that runs reach follows as a whole.
use Rattle.std.proofs.Common.{◌≡◌, ℕ, suc, ◌+◌, true, List, [], ◌++◌, Option, Some, None, slice_get, inl, inr, ⊎_elim, refl, sym, ◌∙◌, subst}
use Rattle.gi_mir.specs.Data.{InstrData, BlockData, FunctionData}
use Rattle.gi_meaning.specs.State.{World, IsWorld, State, start}
use Rattle.gi_meaning.specs.Runs.{Setting, setting_of, Progress, On, Left, Over, Executes, phis_of, after_phis, joined, is_among}
use Rattle.gi_refine.specs.Reached.{GoesTo, Arrives, Reaches, WhereReached}
use Rattle.gi_refine.specs.Refinement.{RefinesUnchecked}
use Rattle.gi_refine.specs.Simulation.{Stands, IsFollowed, PhisStand, IsBlockFollowed, PlaceFollowed}
use Rattle.gi_refine.proofs.Basics.{some_is}
use Rattle.gi_refine.proofs.Simulating.{join, refined_by_following}

-- ══ Inside a block ══

-- the old run has left the block for that one behind these instructions, and the new state is related to it
pub record WhereLeft (s : Setting) (w : World) (blocks : List BlockData) (b : ℕ) (before : List (ℕ × InstrData)) (exit : ℕ → State → State → Type 0) (c : ℕ) (old new : State) : Type 0 where
  pub left : Reaches s w blocks b before (Left c old)
  pub relates : exit c old new

pub reaches_on : (s : Setting) (w : World) (blocks : List BlockData) (b : ℕ) (done xs : List (ℕ × InstrData)) (state : State) (p : Progress)
    → Reaches s w blocks b done (On state) → Executes s w xs state p → Reaches s w blocks b (done ++ xs) p
reaches_on s w blocks b done xs state p r run = record { block = r.block; middle = r.middle; enters = r.enters; ran = join s w done xs r.middle (On state) p r.ran run }

reaches_left : (s : Setting) (w : World) (blocks : List BlockData) (b : ℕ) (done xs : List (ℕ × InstrData)) (c : ℕ) (state : State)
    → Reaches s w blocks b done (Left c state) → Reaches s w blocks b (done ++ xs) (Left c state)
reaches_left s w blocks b done xs c state r = record { block = r.block; middle = r.middle; enters = r.enters; ran = join s w done xs r.middle (Left c state) (Left c state) r.ran refl }

-- what has been left behind some instructions has been left behind more
pub left_before : (s : Setting) (w : World) (blocks : List BlockData) (b : ℕ) (done xs : List (ℕ × InstrData)) (exit : ℕ → State → State → Type 0) (c : ℕ) (old new : State)
    → WhereLeft s w blocks b done exit c old new → WhereLeft s w blocks b (done ++ xs) exit c old new
left_before s w blocks b done xs exit c old new h = record { left = reaches_left s w blocks b done xs c old h.left; relates = h.relates }

stands_where : (s : Setting) (w : World) (blocks : List BlockData) (b : ℕ) (done : List (ℕ × InstrData)) (after : State → State → Type 0) (exit : ℕ → State → State → Type 0) (p p' : Progress)
    → Reaches s w blocks b done p → Stands after exit p p' → Stands (WhereReached s w blocks b done after) (WhereLeft s w blocks b done exit) p p'
stands_where s w blocks b done after exit (On old) (On new) r h = record { reached = r; relates = h }
stands_where s w blocks b done after exit (On old) (Left c new) r h = absurd h
stands_where s w blocks b done after exit (On old) (Over o) r h = absurd h
stands_where s w blocks b done after exit (Left c old) (On new) r h = absurd h
stands_where s w blocks b done after exit (Left c old) (Left d new) r h =
    (h.0, record { left = subst (λ e. Reaches s w blocks b done (Left e old)) h.0 r; relates = h.1 })
stands_where s w blocks b done after exit (Left c old) (Over o) r h = absurd h
stands_where s w blocks b done after exit (Over o) (On new) r h = absurd h
stands_where s w blocks b done after exit (Over o) (Left d new) r h = absurd h
stands_where s w blocks b done after exit (Over o) (Over q) r h = h

-- a piece that follows from where the old function is behind other instructions leads to where it is behind the piece
pub followed_where : (s t : Setting) (w : World) (blocks : List BlockData) (b : ℕ) (done : List (ℕ × InstrData)) (before after : State → State → Type 0) (exit : ℕ → State → State → Type 0)
    (xs ys : List (ℕ × InstrData)) → IsFollowed s t w (WhereReached s w blocks b done before) after exit xs ys
    → IsFollowed s t w (WhereReached s w blocks b done before) (WhereReached s w blocks b (done ++ xs) after) (WhereLeft s w blocks b (done ++ xs) exit) xs ys
followed_where s t w blocks b done before after exit xs ys followed = record {
  by = λ old new related p' run. ⊎_elim
      (λ ran. inl (ran.0, ran.1, stands_where s w blocks b (done ++ xs) after exit ran.0 p' (reaches_on s w blocks b done xs old ran.0 related.reached ran.1) ran.2))
      (λ undefined. inr undefined)
      (followed.by old new related p' run);
}

stands_within : (after after' : State → State → Type 0) (exit exit' : ℕ → State → State → Type 0) (p p' : Progress)
    → ((old new : State) → after old new → after' old new) → ((c : ℕ) (old new : State) → exit c old new → exit' c old new) → Stands after exit p p' → Stands after' exit' p p'
stands_within after after' exit exit' (On old) (On new) f g h = f old new h
stands_within after after' exit exit' (On old) (Left c new) f g h = absurd h
stands_within after after' exit exit' (On old) (Over o) f g h = absurd h
stands_within after after' exit exit' (Left c old) (On new) f g h = absurd h
stands_within after after' exit exit' (Left c old) (Left d new) f g h = (h.0, g d old new h.1)
stands_within after after' exit exit' (Left c old) (Over o) f g h = absurd h
stands_within after after' exit exit' (Over o) (On new) f g h = absurd h
stands_within after after' exit exit' (Over o) (Left d new) f g h = absurd h
stands_within after after' exit exit' (Over o) (Over q) f g h = h

-- from fewer states to more
pub followed_within : (s t : Setting) (w : World) (before before' after after' : State → State → Type 0) (exit exit' : ℕ → State → State → Type 0) (xs ys : List (ℕ × InstrData))
    → ((old new : State) → before' old new → before old new) → ((old new : State) → after old new → after' old new) → ((c : ℕ) (old new : State) → exit c old new → exit' c old new)
    → IsFollowed s t w before after exit xs ys → IsFollowed s t w before' after' exit' xs ys
followed_within s t w before before' after after' exit exit' xs ys first then leaves followed = record {
  by = λ old new related p' run. ⊎_elim
      (λ ran. inl (ran.0, ran.1, stands_within after after' exit exit' ran.0 p' then leaves ran.2))
      (λ undefined. inr undefined)
      (followed.by old new (first old new related) p' run);
}

-- nothing to do
pub nothing_followed : (s t : Setting) (w : World) (related : State → State → Type 0) (exit : ℕ → State → State → Type 0) → IsFollowed s t w related related exit [] []
nothing_followed s t w related exit = record {
  by = λ old new h p' run. inl (On old, refl, subst (λ p. Stands related exit (On old) p) (sym run) h);
}

-- ══ Blocks ══

-- the old run enters this block from that one, and the new state is related to it
pub record WhereEntered (s : Setting) (w : World) (blocks : List BlockData) (entry : Option ℕ → ℕ → State → State → Type 0) (from : Option ℕ) (b : ℕ) (old new : State) : Type 0 where
  pub entries : ℕ
  pub arrives : Arrives s w blocks entries from b old
  pub relates : entry from b old new

-- A block follows another where runs reach it.
pub record FollowsWhere (s t : Setting) (w : World) (blocks : List BlockData) (entry : Option ℕ → ℕ → State → State → Type 0) (middle after : State → State → Type 0) (exit : ℕ → State → State → Type 0) (b : ℕ) (old new : BlockData) : Type 0 where
  pub successors : new.successors ≡ old.successors
  pub phis : (entries : ℕ) (from : Option ℕ) (state state' : State) → Arrives s w blocks entries from b state → entry from b state state'
      → PhisStand middle (joined state from (phis_of old.instrs)) (joined state' from (phis_of new.instrs))
  pub body : IsFollowed s t w (WhereReached s w blocks b [] middle) (WhereReached s w blocks b (after_phis old.instrs) after)
      (WhereLeft s w blocks b (after_phis old.instrs) exit) (after_phis old.instrs) (after_phis new.instrs)
  pub falls : is_among (b + 1) old.successors ≡ true → (state state' : State) → after state state' → entry (Some b) (b + 1) state state'
  pub leaves : (c : ℕ) (state state' : State) → exit c state state' → entry (Some b) c state state'

-- the run that is behind a block's instructions passes on to the next block
passes_on : (s : Setting) (w : World) (blocks : List BlockData) (b : ℕ) (old : BlockData) → slice_get blocks b ≡ Some old → (p : Progress) (c : ℕ) (state : State)
    → (r : Reaches s w blocks b (after_phis old.instrs) p) → GoesTo b old.successors p c state → Arrives s w blocks (suc r.enters.entries) (Some b) c state
passes_on s w blocks b old here p c state r goes =
    let e : r.block ≡ old = some_is old r.block (sym here ∙ r.enters.joins.here) in (
      r.enters.from,
      b,
      r.enters.entered,
      r.enters.arrives,
      record {
        block = old;
        middle = r.middle;
        joins = record { here = here; phis = subst (λ k. joined r.enters.entered r.enters.from (phis_of k.instrs) ≡ Some r.middle) e r.enters.joins.phis };
        progress = p;
        body = r.ran;
        goes = goes;
      },
      refl,
    )

phis_where : (s : Setting) (w : World) (blocks : List BlockData) (b : ℕ) (old : BlockData) → slice_get blocks b ≡ Some old → (entries : ℕ) (from : Option ℕ) (state : State)
    → Arrives s w blocks entries from b state → (middle : State → State → Type 0) (σ σ' : Option State) → joined state from (phis_of old.instrs) ≡ σ
    → PhisStand middle σ σ' → PhisStand (WhereReached s w blocks b [] middle) σ σ'
phis_where s w blocks b old here entries from state arrives middle None σ' joins stand = tt
phis_where s w blocks b old here entries from state arrives middle (Some m) None joins stand = absurd stand
phis_where s w blocks b old here entries from state arrives middle (Some m) (Some m') joins stand = record {
  reached = record {
    block = old;
    middle = m;
    enters = record { entries = entries; from = from; entered = state; arrives = arrives; joins = record { here = here; phis = joins } };
    ran = refl;
  };
  relates = stand;
}

block_where : (s t : Setting) (w : World) (blocks : List BlockData) (entry : Option ℕ → ℕ → State → State → Type 0) (middle after : State → State → Type 0) (exit : ℕ → State → State → Type 0)
    (b : ℕ) (old new : BlockData) → slice_get blocks b ≡ Some old → FollowsWhere s t w blocks entry middle after exit b old new
    → IsBlockFollowed s t w (WhereEntered s w blocks entry) (WhereReached s w blocks b [] middle) (WhereReached s w blocks b (after_phis old.instrs) after)
    (WhereLeft s w blocks b (after_phis old.instrs) exit) b old new
block_where s t w blocks entry middle after exit b old new here follows = record {
  successors = follows.successors;
  phis = λ from state state' entered.
      phis_where s w blocks b old here entered.entries from state entered.arrives middle (joined state from (phis_of old.instrs)) (joined state' from (phis_of new.instrs)) refl
      (follows.phis entered.entries from state state' entered.arrives entered.relates);
  body = follows.body;
  falls = λ among state state' h. record {
    entries = suc h.reached.enters.entries;
    arrives = passes_on s w blocks b old here (On state) (b + 1) state h.reached (among, refl, refl);
    relates = follows.falls among state state' h.relates;
  };
  leaves = λ c state state' h. record {
    entries = suc h.left.enters.entries;
    arrives = passes_on s w blocks b old here (Left c state) c state h.left (refl, refl);
    relates = follows.leaves c state state' h.relates;
  };
}

-- the instructions behind the phis, where there is a block
abbrev pub body_of : Option BlockData → List (ℕ × InstrData)
body_of None = []
body_of (Some block) = after_phis block.instrs

-- where the old function has a block, the new one has a block that follows where runs reach it
abbrev pub PlaceFollowsWhere : (s t : Setting) (w : World) (blocks : List BlockData) (entry : Option ℕ → ℕ → State → State → Type 0) (middle after : State → State → Type 0)
    (exit : ℕ → State → State → Type 0) (b : ℕ) → (old new : Option BlockData) → Type 0
PlaceFollowsWhere s t w blocks entry middle after exit b None new = Unit {0}
PlaceFollowsWhere s t w blocks entry middle after exit b (Some old) None = ⊥
PlaceFollowsWhere s t w blocks entry middle after exit b (Some old) (Some new) = FollowsWhere s t w blocks entry middle after exit b old new

place_where : (s t : Setting) (w : World) (blocks : List BlockData) (entry : Option ℕ → ℕ → State → State → Type 0) (middle after : State → State → Type 0) (exit : ℕ → State → State → Type 0)
    (b : ℕ) (old new : Option BlockData) → slice_get blocks b ≡ old → PlaceFollowsWhere s t w blocks entry middle after exit b old new
    → PlaceFollowed s t w (WhereEntered s w blocks entry) (WhereReached s w blocks b [] middle) (WhereReached s w blocks b (body_of old) after)
    (WhereLeft s w blocks b (body_of old) exit) b old new
place_where s t w blocks entry middle after exit b None new here follows = tt
place_where s t w blocks entry middle after exit b (Some old) None here follows = absurd follows
place_where s t w blocks entry middle after exit b (Some old) (Some new) here follows = block_where s t w blocks entry middle after exit b old new here follows

-- ══ Whole runs ══

-- where each block follows where runs reach it, from related states at the start, the new function refines the old one
pub refined_where_reached : (x : ℕ) (names : List (List ℕ)) (f g : FunctionData) (entry : World → Option ℕ → ℕ → State → State → Type 0)
    (middle after : World → ℕ → State → State → Type 0) (exit : World → ℕ → ℕ → State → State → Type 0)
    → ((w : World) → IsWorld x w → entry w None 0 (start w) (start w))
    → ((w : World) → IsWorld x w → (b : ℕ) → PlaceFollowsWhere (setting_of x names f) (setting_of x names g) w f.blocks (entry w) (middle w b) (after w b) (exit w b) b (slice_get f.blocks b) (slice_get g.blocks b))
    → ((w : World) → IsWorld x w → (from : Option ℕ) (b : ℕ) (old new : State) → entry w from b old new → (new.memory ≡ old.memory) × (new.taken ≡ old.taken))
    → RefinesUnchecked x names f g
refined_where_reached x names f g entry middle after exit starts places outside =
    refined_by_following x names f g (λ w. WhereEntered (setting_of x names f) w f.blocks (entry w)) (λ w b. WhereReached (setting_of x names f) w f.blocks b [] (middle w b))
    (λ w b. WhereReached (setting_of x names f) w f.blocks b (body_of (slice_get f.blocks b)) (after w b))
    (λ w b. WhereLeft (setting_of x names f) w f.blocks b (body_of (slice_get f.blocks b)) (exit w b))
    (λ w is_world. record { entries = 0; arrives = (refl, refl, refl); relates = starts w is_world })
    (λ w is_world. record {
      places = λ b.
          place_where (setting_of x names f) (setting_of x names g) w f.blocks (entry w) (middle w b) (after w b) (exit w b) b (slice_get f.blocks b) (slice_get g.blocks b) refl (places w is_world b);
      memory = λ from b old new h. (outside w is_world from b old new h.relates).0;
      taken = λ from b old new h. (outside w is_world from b old new h.relates).1;
    })
