-- What follows piece by piece follows as a whole.
use Rattle.std.proofs.Common.{◌≡◌, ℕ, zero, suc, ◌+◌, Bool, true, false, cond, List, [], ◌∷◌, ◌++◌, Option, Some, None, slice_get, ◌⊎◌, inl, inr, ⊎_elim, refl, sym, ap₂, ◌∙◌, subst}
use Rattle.gi_mir.specs.Data.{InstrData, BlockData, FunctionData}
use Rattle.gi_meaning.specs.State.{World, IsWorld, State, start, Outcome, Going, Undefined}
use Rattle.gi_meaning.specs.Runs.{Setting, setting_of, Steps, Progress, On, Left, Over, After, Executes, phis_of, joined, is_among, Follows, RunsAfterPhis, RunsBlock, Enters}
use Rattle.gi_refine.specs.Refinement.{RefinesUnchecked}
use Rattle.gi_refine.specs.Simulation.{Stands, IsFollowed, PhisStand, IsBlockFollowed, RunsFrom, RunsThrough, PlaceFollowed, AreFollowed}

-- ══ Lists of instructions one after the other ══

-- how far a first list came, and what the second does from there
pub record Split (s : Setting) (w : World) (xs ys : List (ℕ × InstrData)) (state : State) (p : Progress) : Type 0 where
  pub between : Progress
  pub first : Executes s w xs state between
  pub second : After between (Executes s w ys) p

split_after : (s : Setting) (w : World) (x : ℕ × InstrData) (xs ys : List (ℕ × InstrData)) (state : State) (next p : Progress) → Steps s w x.1 state next
    → ((state' : State) → Executes s w (xs ++ ys) state' p → Split s w xs ys state' p) → After next (Executes s w (xs ++ ys)) p → Split s w (x ∷ xs) ys state p
split_after s w x xs ys state (On state') p step goes run =
    let more : Split s w xs ys state' p = goes state' run in record { between = more.between; first = (On state', step, more.first); second = more.second }
split_after s w x xs ys state (Left b state') p step goes run = record { between = Left b state'; first = (Left b state', step, refl); second = run }
split_after s w x xs ys state (Over o) p step goes run = record { between = Over o; first = (Over o, step, refl); second = run }

pub split : (s : Setting) (w : World) (xs ys : List (ℕ × InstrData)) (state : State) (p : Progress) → Executes s w (xs ++ ys) state p → Split s w xs ys state p
split s w [] ys state p run = record { between = On state; first = refl; second = run }
split s w (x ∷ xs) ys state p run = split_after s w x xs ys state run.0 p run.1 (λ state' more. split s w xs ys state' p more) run.2

join_after : (s : Setting) (w : World) (xs ys : List (ℕ × InstrData)) (next between p : Progress)
    → ((state : State) → Executes s w xs state between → After between (Executes s w ys) p → Executes s w (xs ++ ys) state p)
    → After next (Executes s w xs) between → After between (Executes s w ys) p → After next (Executes s w (xs ++ ys)) p
join_after s w xs ys (On state) between p goes first second = goes state first second
join_after s w xs ys (Left b state) between p goes first second = subst (λ q. After q (Executes s w ys) p) first second
join_after s w xs ys (Over o) between p goes first second = subst (λ q. After q (Executes s w ys) p) first second

pub join : (s : Setting) (w : World) (xs ys : List (ℕ × InstrData)) (state : State) (between p : Progress)
    → Executes s w xs state between → After between (Executes s w ys) p → Executes s w (xs ++ ys) state p
join s w [] ys state between p first second = subst (λ q. After q (Executes s w ys) p) first second
join s w (x ∷ xs) ys state between p first second =
    (first.0, first.1, join_after s w xs ys first.0 between p (λ state' more rest. join s w xs ys state' between p more rest) first.2 second)

-- how the second list goes on where the first one stands
second_follows : (s s' : Setting) (w : World) (middle after : State → State → Type 0) (exit : ℕ → State → State → Type 0) (xs ys ys' : List (ℕ × InstrData)) (state : State)
    → IsFollowed s s' w middle after exit ys ys' → (q q' p' : Progress) → Executes s w xs state q → Stands middle exit q q' → After q' (Executes s' w ys') p'
    → ((p : Progress) × Executes s w (xs ++ ys) state p × Stands after exit p p') ⊎ Executes s w (xs ++ ys) state (Over Undefined)
second_follows s s' w middle after exit xs ys ys' state follows (On old) (On new) p' ran stands rest = ⊎_elim
    (λ more. inl (more.0, join s w xs ys state (On old) more.0 ran more.1, more.2))
    (λ undefined. inr (join s w xs ys state (On old) (Over Undefined) ran undefined))
    (follows.by old new stands p' rest)
second_follows s s' w middle after exit xs ys ys' state follows (On old) (Left c new) p' ran stands rest = absurd stands
second_follows s s' w middle after exit xs ys ys' state follows (On old) (Over o) p' ran stands rest = absurd stands
second_follows s s' w middle after exit xs ys ys' state follows (Left b old) (On new) p' ran stands rest = absurd stands
second_follows s s' w middle after exit xs ys ys' state follows (Left b old) (Left c new) p' ran stands rest =
    inl (Left b old, join s w xs ys state (Left b old) (Left b old) ran refl, subst (λ p. Stands after exit (Left b old) p) (sym rest) stands)
second_follows s s' w middle after exit xs ys ys' state follows (Left b old) (Over o) p' ran stands rest = absurd stands
second_follows s s' w middle after exit xs ys ys' state follows (Over o) (On new) p' ran stands rest = absurd stands
second_follows s s' w middle after exit xs ys ys' state follows (Over o) (Left c new) p' ran stands rest = absurd stands
second_follows s s' w middle after exit xs ys ys' state follows (Over o) (Over o') p' ran stands rest =
    inl (Over o, join s w xs ys state (Over o) (Over o) ran refl, subst (λ p. Stands after exit (Over o) p) (sym rest) stands)

-- two pieces follow one after the other; what may differ between them is a relation of its own
pub followed_on : (s s' : Setting) (w : World) (before middle after : State → State → Type 0) (exit : ℕ → State → State → Type 0) (xs xs' ys ys' : List (ℕ × InstrData))
    → IsFollowed s s' w before middle exit xs xs' → IsFollowed s s' w middle after exit ys ys' → IsFollowed s s' w before after exit (xs ++ ys) (xs' ++ ys')
followed_on s s' w before middle after exit xs xs' ys ys' first second = record {
  by = λ state state' related p' run.
      let parts : Split s' w xs' ys' state' p' = split s' w xs' ys' state' p' run in
      ⊎_elim
      (λ ran. second_follows s s' w middle after exit xs ys ys' state second ran.0 parts.between p' ran.1 ran.2 parts.second)
      (λ undefined. inr (join s w xs ys state (Over Undefined) (Over Undefined) undefined refl))
      (first.by state state' related parts.between parts.first);
}

-- ══ Blocks ══

-- entering the new block from related states is entering the old one, or the old one is undefined
record Entered (entry : Option ℕ → ℕ → State → State → Type 0) (enters enters' : Option ℕ → ℕ → State → Outcome → Type 0) : Type 0 where
  by : (from : Option ℕ) (b : ℕ) (state state' : State) (o : Outcome) → entry from b state state' → enters' from b state' o → enters from b state o ⊎ enters from b state Undefined

falls_on : (entry : Option ℕ → ℕ → State → State → Type 0) (enters enters' : Option ℕ → ℕ → State → Outcome → Type 0) → Entered entry enters enters'
    → (test : Bool) (from : Option ℕ) (b : ℕ) (state state' : State) (o : Outcome) → (test ≡ true → entry from b state state') → cond test (enters' from b state' o) (o ≡ Undefined)
    → cond test (enters from b state o) (o ≡ Undefined) ⊎ cond test (enters from b state Undefined) (Undefined ≡ Undefined)
falls_on entry enters enters' on true from b state state' o related run = on.by from b state state' o (related refl) run
falls_on entry enters enters' on false from b state state' o related run = inl run

ends : (s s' : Setting) (w : World) (entry : Option ℕ → ℕ → State → State → Type 0) (middle after : State → State → Type 0) (exit : ℕ → State → State → Type 0) (b : ℕ) (old new : BlockData)
    → IsBlockFollowed s s' w entry middle after exit b old new → (enters enters' : Option ℕ → ℕ → State → Outcome → Type 0) → Entered entry enters enters'
    → (p p' : Progress) (o : Outcome) → Stands after exit p p' → Follows b old.successors enters' p' o → Follows b old.successors enters p o ⊎ Follows b old.successors enters p Undefined
ends s s' w entry middle after exit b old new followed enters enters' on (On σ) (On σ') o stands run =
    falls_on entry enters enters' on (is_among (b + 1) old.successors) (Some b) (b + 1) σ σ' o (λ among. followed.falls among σ σ' stands) run
ends s s' w entry middle after exit b old new followed enters enters' on (On σ) (Left c σ') o stands run = absurd stands
ends s s' w entry middle after exit b old new followed enters enters' on (On σ) (Over q) o stands run = absurd stands
ends s s' w entry middle after exit b old new followed enters enters' on (Left c σ) (On σ') o stands run = absurd stands
ends s s' w entry middle after exit b old new followed enters enters' on (Left c σ) (Left d σ') o stands run =
    on.by (Some b) c σ σ' o (subst (λ e. entry (Some b) e σ σ') (sym stands.0) (followed.leaves d σ σ' stands.1)) (subst (λ e. enters' (Some b) e σ' o) (sym stands.0) run)
ends s s' w entry middle after exit b old new followed enters enters' on (Left c σ) (Over q) o stands run = absurd stands
ends s s' w entry middle after exit b old new followed enters enters' on (Over q) (On σ') o stands run = absurd stands
ends s s' w entry middle after exit b old new followed enters enters' on (Over q) (Left d σ') o stands run = absurd stands
ends s s' w entry middle after exit b old new followed enters enters' on (Over q) (Over r) o stands run = inl (run ∙ sym stands)

-- what a block does from related states at its entry
runs_on : (s s' : Setting) (w : World) (entry : Option ℕ → ℕ → State → State → Type 0) (middle after : State → State → Type 0) (exit : ℕ → State → State → Type 0) (b : ℕ) (old new : BlockData)
    → IsBlockFollowed s s' w entry middle after exit b old new → (σ σ' : Option State) (p' : Progress) → PhisStand middle σ σ' → RunsFrom s' w new σ' p'
    → ((p : Progress) × RunsFrom s w old σ p × Stands after exit p p') ⊎ RunsFrom s w old σ (Over Undefined)
runs_on s s' w entry middle after exit b old new followed None σ' p' stands run = inr refl
runs_on s s' w entry middle after exit b old new followed (Some σ) None p' stands run = absurd stands
runs_on s s' w entry middle after exit b old new followed (Some σ) (Some σ') p' stands run = followed.body.by σ σ' stands p' run

pub block_on : (s s' : Setting) (w : World) (entry : Option ℕ → ℕ → State → State → Type 0) (middle after : State → State → Type 0) (exit : ℕ → State → State → Type 0) (b : ℕ) (old new : BlockData)
    → IsBlockFollowed s s' w entry middle after exit b old new → (from : Option ℕ) (state state' : State) → entry from b state state' → (p' : Progress) → RunsThrough s' w new from state' p'
    → ((p : Progress) × RunsThrough s w old from state p × Stands after exit p p') ⊎ RunsThrough s w old from state (Over Undefined)
block_on s s' w entry middle after exit b old new followed from state state' related p' run =
    runs_on s s' w entry middle after exit b old new followed (joined state from (phis_of old.instrs)) (joined state' from (phis_of new.instrs)) p' (followed.phis from state state' related) run

-- the body of a block, from related states after the phis
body_on : (s s' : Setting) (w : World) (entry : Option ℕ → ℕ → State → State → Type 0) (middle after : State → State → Type 0) (exit : ℕ → State → State → Type 0) (b : ℕ) (old new : BlockData)
    → IsBlockFollowed s s' w entry middle after exit b old new → (enters enters' : Option ℕ → ℕ → State → Outcome → Type 0) → Entered entry enters enters'
    → (σ σ' : Option State) (o : Outcome) → PhisStand middle σ σ' → RunsAfterPhis s' w b new enters' σ' o
    → RunsAfterPhis s w b old enters σ o ⊎ RunsAfterPhis s w b old enters σ Undefined
body_on s s' w entry middle after exit b old new followed enters enters' on None σ' o stands run = inr refl
body_on s s' w entry middle after exit b old new followed enters enters' on (Some σ) None o stands run = absurd stands
body_on s s' w entry middle after exit b old new followed enters enters' on (Some σ) (Some σ') o stands run =
    let tail : Follows b old.successors enters' run.0 o = subst (λ t. Follows b t enters' run.0 o) followed.successors run.2 in
    ⊎_elim
    (λ ran. ⊎_elim (λ more. inl (ran.0, ran.1, more)) (λ undefined. inr (ran.0, ran.1, undefined))
    (ends s s' w entry middle after exit b old new followed enters enters' on ran.0 run.0 o ran.2 tail))
    (λ undefined. inr (Over Undefined, undefined, refl))
    (followed.body.by σ σ' stands run.0 run.1)

place_on : (s s' : Setting) (w : World) (entry : Option ℕ → ℕ → State → State → Type 0) (middle after : State → State → Type 0) (exit : ℕ → State → State → Type 0) (b : ℕ) (old new : Option BlockData)
    → PlaceFollowed s s' w entry middle after exit b old new → (enters enters' : Option ℕ → ℕ → State → Outcome → Type 0) → Entered entry enters enters'
    → (from : Option ℕ) (state state' : State) (o : Outcome) → entry from b state state' → RunsBlock s' w new enters' from b state' o
    → RunsBlock s w old enters from b state o ⊎ RunsBlock s w old enters from b state Undefined
place_on s s' w entry middle after exit b None new followed enters enters' on from state state' o related run = inr refl
place_on s s' w entry middle after exit b (Some old) None followed enters enters' on from state state' o related run = absurd followed
place_on s s' w entry middle after exit b (Some old) (Some new) followed enters enters' on from state state' o related run =
    body_on s s' w entry middle after exit b old new followed enters enters' on (joined state from (phis_of old.instrs)) (joined state' from (phis_of new.instrs)) o
    (followed.phis from state state' related) run

-- ══ Whole runs ══

enters_on : (s s' : Setting) (w : World) (entry : Option ℕ → ℕ → State → State → Type 0) (middle after : ℕ → State → State → Type 0) (exit : ℕ → ℕ → State → State → Type 0) (old new : List BlockData)
    → AreFollowed s s' w entry middle after exit old new → (n : ℕ) → Entered entry (Enters s w old n) (Enters s' w new n)
enters_on s s' w entry middle after exit old new followed zero = record {
  by = λ from b state state' o related run.
      inl (run ∙ ap₂ Going (followed.memory from b state state' related) (followed.taken from b state state' related));
}
enters_on s s' w entry middle after exit old new followed (suc n) = record {
  by = λ from b state state' o related run.
      place_on s s' w entry (middle b) (after b) (exit b) b (slice_get old b) (slice_get new b) (followed.places b) (Enters s w old n) (Enters s' w new n)
      (enters_on s s' w entry middle after exit old new followed n) from state state' o related run;
}

-- where the blocks follow in each world, from related states at the start, the new function refines the old one
pub refined_by_following : (x : ℕ) (names : List (List ℕ)) (old new : FunctionData) (entry : World → Option ℕ → ℕ → State → State → Type 0)
    (middle after : World → ℕ → State → State → Type 0) (exit : World → ℕ → ℕ → State → State → Type 0)
    → ((w : World) → IsWorld x w → entry w None 0 (start w) (start w))
    → ((w : World) → IsWorld x w → AreFollowed (setting_of x names old) (setting_of x names new) w (entry w) (middle w) (after w) (exit w) old.blocks new.blocks)
    → RefinesUnchecked x names old new
refined_by_following x names old new entry middle after exit starts followed = record {
  runs = λ w is_world n o run.
      (enters_on (setting_of x names old) (setting_of x names new) w (entry w) (middle w) (after w) (exit w) old.blocks new.blocks (followed w is_world) n).by
      None 0 (start w) (start w) o (starts w is_world) run;
}
