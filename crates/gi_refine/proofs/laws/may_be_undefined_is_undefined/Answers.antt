use Rattle.gi_refine.proofs.UndefinedRuns.{undefined_from_may, may_from_undefined}
use Rattle.gi_refine.proofs.laws.may_be_undefined_is_undefined.Goals as goal

pub returns : goal.returns
returns c = λ x names f world n. (undefined_from_may x names f world n, may_from_undefined x names f world n)
