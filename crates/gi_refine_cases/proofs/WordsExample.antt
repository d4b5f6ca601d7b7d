-- A function of words on RV64.
use Rattle.std.proofs.Common.{refl, lit≤}
use Rattle.gi_refine.specs.Examples.{names}
use Rattle.gi_refine.specs.Refinement.{RefinesUnchecked}
use Rattle.gi_refine_cases.specs.Trials.{sums_low}
use Rattle.gi_refine.specs.Worded.{classed}
use Rattle.gi_refine.proofs.Classed.{classed_refines}

pub sum_classed : RefinesUnchecked 64 names sums_low (classed sums_low)
sum_classed = classed_refines 64 (lit≤ tt) names sums_low
    (record { narrow = ((lit≤ tt, tt), ((lit≤ tt, tt), (tt, (tt, tt)))); phis = tt; body = (refl, (refl, (refl, (refl, tt)))) }, tt)
