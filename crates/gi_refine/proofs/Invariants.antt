-- An invariant holds in every state that runs reach.
use Rattle.std.proofs.Common.{◌≡◌, ℕ, zero, suc, List, [], ◌∷◌, ◌++◌, Option, Some, slice_get, sym, ap, ◌∙◌, subst}
use Rattle.gi_mir.specs.Data.{InstrData, BlockData}
use Rattle.gi_meaning.specs.State.{World, State}
use Rattle.gi_meaning.specs.Runs.{Setting, Progress, On, Left, Over, After, Executes, after_phis}
use Rattle.gi_refine.specs.Invariant.{GoesOnWith, AllKeep, BlockKeeps, IsInvariant}
use Rattle.gi_refine.specs.Reached.{GoesTo, Passes, Arrives, IsReached}

kept_after : (s : Setting) (w : World) (claim : State → Type 0) (is : List (ℕ × InstrData)) (next p : Progress) → GoesOnWith claim next
    → ((state : State) → claim state → Executes s w is state p → GoesOnWith claim p) → After next (Executes s w is) p → GoesOnWith claim p
kept_after s w claim is (On state) p here rest run = rest state here run
kept_after s w claim is (Left block state) p here rest run = subst (GoesOnWith claim) (sym run) here
kept_after s w claim is (Over outcome) p here rest run = subst (GoesOnWith claim) (sym run) tt

pub kept_through : (s : Setting) (w : World) (claim : State → Type 0) (is : List (ℕ × InstrData)) → AllKeep s w claim is → (state : State) → claim state → (p : Progress) → Executes s w is state p → GoesOnWith claim p
kept_through s w claim [] keep state here p run = subst (GoesOnWith claim) (sym run) here
kept_through s w claim (i ∷ is) keep state here p run =
    kept_after s w claim is run.0 p (keep.0 state here run.0 run.1) (λ state' here' run'. kept_through s w claim is keep.1 state' here' p run') run.2

front_keeps : (s : Setting) (w : World) (claim : State → Type 0) (front back : List (ℕ × InstrData)) → AllKeep s w claim (front ++ back) → AllKeep s w claim front
front_keeps s w claim [] back keep = tt
front_keeps s w claim (i ∷ front) back keep = (keep.0, front_keeps s w claim front back keep.1)

kept_going : (claim : State → Type 0) (b : ℕ) (successors : List ℕ) (p : Progress) (next : ℕ) (state : State) → GoesOnWith claim p → GoesTo b successors p next state → claim state
kept_going claim b successors (On state') next state here goes = subst claim (sym goes.2) here
kept_going claim b successors (Left block state') next state here goes = subst claim (sym goes.1) here
kept_going claim b successors (Over outcome) next state here goes = absurd goes

kept_passing : (s : Setting) (w : World) (blocks : List BlockData) (claim : State → Type 0) → IsInvariant s w blocks claim → (from : Option ℕ) (b : ℕ) (entered : State) → claim entered → (next : ℕ) (state : State)
    → Passes s w blocks from b entered next state → claim state
kept_passing s w blocks claim invariant from b entered here next state passes =
    let keeps : BlockKeeps s w claim passes.block = invariant.keeps b passes.block passes.joins.here in
    kept_going claim b passes.block.successors passes.progress next state
    (kept_through s w claim (after_phis passes.block.instrs) keeps.body passes.middle (keeps.phis from entered passes.middle here passes.joins.phis) passes.progress passes.body) passes.goes

pub kept_arriving : (s : Setting) (w : World) (blocks : List BlockData) (claim : State → Type 0) → IsInvariant s w blocks claim → (entries : ℕ) (from : Option ℕ) (b : ℕ) (state : State) → Arrives s w blocks entries from b state → claim state
kept_arriving s w blocks claim invariant zero from b state arrives = subst claim (sym arrives.2) invariant.starts
kept_arriving s w blocks claim invariant (suc n) from b state arrives =
    kept_passing s w blocks claim invariant arrives.0 arrives.1 arrives.2 (kept_arriving s w blocks claim invariant n arrives.0 arrives.1 arrives.2 arrives.3) b state arrives.4

one_block : (a b : BlockData) (o : Option BlockData) → o ≡ Some a → o ≡ Some b → a ≡ b
one_block a b o h g = cc

-- behind instructions at the front of a block
pub invariant_holds : (s : Setting) (w : World) (blocks : List BlockData) (claim : State → Type 0) → IsInvariant s w blocks claim → (b : ℕ) (block : BlockData) (before back : List (ℕ × InstrData))
    → slice_get blocks b ≡ Some block → after_phis block.instrs ≡ before ++ back → (state : State) → IsReached s w blocks b before state → claim state
invariant_holds s w blocks claim invariant b block before back here splits state reached =
    let keeps : BlockKeeps s w claim reached.block = invariant.keeps b reached.block reached.enters.joins.here in
    let same : block ≡ reached.block = one_block block reached.block (slice_get blocks b) here reached.enters.joins.here in
    let front : AllKeep s w claim before =
    front_keeps s w claim before back (subst (AllKeep s w claim) (ap (λ (k : BlockData). after_phis k.instrs) (sym same) ∙ splits) keeps.body) in
    kept_through s w claim before front reached.middle
    (keeps.phis reached.enters.from reached.enters.entered reached.middle
    (kept_arriving s w blocks claim invariant reached.enters.entries reached.enters.from b reached.enters.entered reached.enters.arrives) reached.enters.joins.phis)
    (On state) reached.ran
