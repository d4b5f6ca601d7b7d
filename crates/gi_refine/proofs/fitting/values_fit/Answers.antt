use Rattle.gi_meaning.specs.Runs.{setting_of}
use Rattle.gi_refine.specs.Fitting.{IsFit}
use Rattle.gi_refine.proofs.Fitted.{fit_where_reached, fit_sized}
use Rattle.gi_refine.proofs.fitting.values_fit.Goals as goal

pub returns : goal.returns
returns c =
    λ x names f w is_world h b block before back here splits state reached.
    let fit : IsFit (setting_of x names f) state = fit_where_reached x names f w is_world h b block before back here splits state reached in
    (fit, fit_sized (setting_of x names f) state fit)
