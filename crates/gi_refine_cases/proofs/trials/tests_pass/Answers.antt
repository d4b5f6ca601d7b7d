use Rattle.std.proofs.Common.{refl}
use Rattle.gi_refine_cases.proofs.trials.tests_pass.Goals as goal

pub returns : goal.returns
returns c = record { sums_fit = refl; branches_fit = refl; constant = refl }
