use Rattle.std.proofs.Common.{sym, subst}
use Rattle.gi_answer.proofs.SameRuns.{same_runs}
use Rattle.gi_answer.proofs.same.same_functions_run_alike.Goals as goal

pub returns : goal.returns
returns c = record {
  there = λ x names others f g is world n outcome run. subst (λ T. T) (sym (same_runs x names others f g is world n outcome)) run;
  back = λ x names others f g is world n outcome run. subst (λ T. T) (same_runs x names others f g is world n outcome) run;
}
