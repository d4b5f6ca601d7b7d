use Rattle.std.proofs.Common.{◌∙◌, ap₂}
use Rattle.std.specs.Option.{option_or}
use Rattle.gi_verify.proofs.site.fault_in.Goals as goal

pub returns : goal.returns
returns c = λ extents greatest. c.first.ensures ∙ ap₂ option_or (c.in_ok-missing.ensures extents greatest) c.in_ok-others.ensures
