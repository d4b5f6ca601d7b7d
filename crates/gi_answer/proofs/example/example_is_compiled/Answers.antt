use Rattle.std.proofs.Common.{◌≡◌, suc, ◌+◌, ◌∷◌, [], refl, ap, ap₂, ◌∙◌, subst}
use Rattle.gi_llt.specs.Bits.{wrapped}
use Rattle.gi_meaning.specs.State.{World, Returned}
use Rattle.gi_meaning.specs.Runs.{Runs}
use Rattle.gi_answer.specs.AddRuns.{names, before, after, sum_in}
use Rattle.gi_answer.proofs.AddRuns.{returns, returns_only, returns_after, returns_only_after}
use Rattle.gi_answer.proofs.example.example_is_compiled.Goals as goal

-- 4294967295 and 2 add up to 1
adds_up : (w : World) → w.words 10 ≡ 4294967295 → w.words 11 ≡ 2 → sum_in w ≡ 1
adds_up w a b = ap₂ (λ x y. wrapped 32 (x + y)) a b

pub returns-clause-before : goal.returns-clause-before
returns-clause-before c = record {
  returns = λ w n a b. subst (λ v. Runs 32 names before w (suc n) (Returned (v ∷ []) w.memory 0)) (adds_up w a b) (returns w n);
  only = λ w n o a b run. returns_only w n o run ∙ ap (λ v. Returned (v ∷ []) w.memory 0) (adds_up w a b);
  goes_on = λ w. refl;
  goes_on_only = λ w o run. run;
}

pub returns-clause-after : goal.returns-clause-after
returns-clause-after c = record {
  returns = λ w n a b. subst (λ v. Runs 32 names after w (suc n) (Returned (v ∷ []) w.memory 0)) (adds_up w a b) (returns_after w n);
  only = λ w n o a b run. returns_only_after w n o run ∙ ap (λ v. Returned (v ∷ []) w.memory 0) (adds_up w a b);
  goes_on = λ w. refl;
  goes_on_only = λ w o run. run;
}
