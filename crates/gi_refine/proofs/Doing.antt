-- Runs that have one way to go, put together from steps that have.
use Rattle.std.proofs.Common.{◌≡◌, ℕ, suc, List, [], ◌∷◌, map, Option, Some, slice_get, refl, sym, ap, ◌∙◌, subst}
use Rattle.gi_mir.specs.Data.{InstrData, BlockData}
use Rattle.gi_mir.specs.declared.operand.MemOp.{MemOp}
use Rattle.gi_meaning.specs.Argument.{Argument}
use Rattle.gi_meaning.specs.Given.{one}
use Rattle.gi_meaning.specs.State.{World, State, Outside, outside_of, Outcome}
use Rattle.gi_meaning.specs.Meaning.{Meaning, meaning_of}
use Rattle.gi_meaning.specs.Act.{Answer, Results, Answers, Act}
use Rattle.gi_meaning.specs.Runs.{Setting, arguments_of, written_places, width_of_place, progress_of, Progress, On, Left, Over, StepsFrom, Steps, After, Executes, phis_of, after_phis, joined, Follows, RunsAfterPhis, RunsBlock, Enters}

-- an instruction answers so, and not otherwise
pub record ActsSo (x : ℕ) (w : World) (m : Meaning) (mem : Option MemOp) (widths : List ℕ) (arguments : List Argument) (outside : Outside) (answer : Answer) : Type 0 where
  pub can : Act x w m mem widths arguments outside answer
  pub only : (other : Answer) → Act x w m mem widths arguments outside other → other ≡ answer

-- one exact result
pub gives_one : (v : ℕ) (outside : Outside) (other : Answer) → Answers (one v) outside other → other ≡ Results (v ∷ []) outside
gives_one v outside other h = h.2 ∙ ap (λ rs. Results rs outside) h.1

pub record Does (s : Setting) (w : World) (i : ℕ × InstrData) (state : State) (next : Progress) : Type 0 where
  pub can : Steps s w i.1 state next
  pub only : (other : Progress) → Steps s w i.1 state other → other ≡ next

pub does_from : (s : Setting) (w : World) (i : ℕ × InstrData) (state : State) (arguments : List Argument) (answer : Answer) (next : Progress)
    → arguments_of s w state i.1.operands ≡ Some arguments
    → ActsSo s.x w (meaning_of i.1.flags i.1.op) i.1.mem (map (width_of_place s) (written_places (meaning_of i.1.flags i.1.op) i.1.operands)) arguments (outside_of state) answer
    → next ≡ progress_of state (written_places (meaning_of i.1.flags i.1.op) i.1.operands) answer
    → Does s w i state next
does_from s w i state arguments answer next read acts made = record {
  can = subst (λ a. StepsFrom s w i.1 state a next) (sym read) (answer, acts.can, made);
  only = λ other step.
      let stepped : StepsFrom s w i.1 state (Some arguments) other = subst (λ a. StepsFrom s w i.1 state a other) read step in
      stepped.2 ∙ ap (progress_of state (written_places (meaning_of i.1.flags i.1.op) i.1.operands)) (acts.only stepped.0 stepped.1) ∙ sym made;
}

pub record DoesAll (s : Setting) (w : World) (is : List (ℕ × InstrData)) (state : State) (p : Progress) : Type 0 where
  pub can : Executes s w is state p
  pub only : (other : Progress) → Executes s w is state other → other ≡ p

pub does_none : (s : Setting) (w : World) (state : State) → DoesAll s w [] state (On state)
does_none s w state = record { can = refl; only = λ other run. run }

pub does_next : (s : Setting) (w : World) (i : ℕ × InstrData) (is : List (ℕ × InstrData)) (state between : State) (p : Progress)
    → Does s w i state (On between) → DoesAll s w is between p → DoesAll s w (i ∷ is) state p
does_next s w i is state between p here rest = record {
  can = (On between, here.can, rest.can);
  only = λ other run. rest.only other (subst (λ q. After q (Executes s w is) other) (here.only run.0 run.1) run.2);
}

pub does_leave : (s : Setting) (w : World) (i : ℕ × InstrData) (is : List (ℕ × InstrData)) (state : State) (b : ℕ) (between : State) → Does s w i state (Left b between) → DoesAll s w (i ∷ is) state (Left b between)
does_leave s w i is state b between here = record {
  can = (Left b between, here.can, refl);
  only = λ other run. subst (λ q. After q (Executes s w is) other) (here.only run.0 run.1) run.2;
}

pub does_end : (s : Setting) (w : World) (i : ℕ × InstrData) (is : List (ℕ × InstrData)) (state : State) (o : Outcome) → Does s w i state (Over o) → DoesAll s w (i ∷ is) state (Over o)
does_end s w i is state o here = record {
  can = (Over o, here.can, refl);
  only = λ other run. subst (λ q. After q (Executes s w is) other) (here.only run.0 run.1) run.2;
}

pub record EntersSo (s : Setting) (w : World) (blocks : List BlockData) (n : ℕ) (from : Option ℕ) (b : ℕ) (state : State) (o : Outcome) : Type 0 where
  pub can : Enters s w blocks n from b state o
  pub only : (other : Outcome) → Enters s w blocks n from b state other → other ≡ o

-- a block whose body is over
pub enters_over : (s : Setting) (w : World) (blocks : List BlockData) (n : ℕ) (from : Option ℕ) (b : ℕ) (state middle : State) (block : BlockData) (o : Outcome)
    → slice_get blocks b ≡ Some block → joined state from (phis_of block.instrs) ≡ Some middle → DoesAll s w (after_phis block.instrs) middle (Over o) → EntersSo s w blocks (suc n) from b state o
enters_over s w blocks n from b state middle block o here phis body = record {
  can = subst (λ k. RunsBlock s w k (Enters s w blocks n) from b state o) (sym here)
      (subst (λ st. RunsAfterPhis s w b block (Enters s w blocks n) st o) (sym phis) (Over o, body.can, refl));
  only = λ other run.
      let ran : RunsAfterPhis s w b block (Enters s w blocks n) (Some middle) other =
      subst (λ st. RunsAfterPhis s w b block (Enters s w blocks n) st other) phis (subst (λ k. RunsBlock s w k (Enters s w blocks n) from b state other) here run) in
      subst (λ p. Follows b block.successors (Enters s w blocks n) p other) (body.only ran.0 ran.1) ran.2;
}
