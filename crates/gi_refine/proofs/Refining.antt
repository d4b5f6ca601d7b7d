-- Refinement is reflexive and transitive.
use Rattle.std.proofs.Common.{ℕ, List, inl, inr, ⊎_elim}
use Rattle.gi_mir.specs.Data.{FunctionData}
use Rattle.gi_meaning.specs.State.{Undefined}
use Rattle.gi_refine.specs.Refinement.{RefinesUnchecked}

pub refines_itself : (x : ℕ) (names : List (List ℕ)) (f : FunctionData) → RefinesUnchecked x names f f
refines_itself x names f = record { runs = λ w is_world n o run. inl run }

pub refines_through : (x : ℕ) (names : List (List ℕ)) (f g h : FunctionData) → RefinesUnchecked x names f g → RefinesUnchecked x names g h → RefinesUnchecked x names f h
refines_through x names f g h first second = record {
  runs = λ w is_world n o run. ⊎_elim
      (λ ran. first.runs w is_world n o ran)
      (λ undefined. ⊎_elim (λ old. inr old) (λ old. inr old) (first.runs w is_world n Undefined undefined))
      (second.runs w is_world n o run);
}
