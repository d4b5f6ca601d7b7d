use Rattle.gi_text.proofs.StepLemmas.{quoted_some, quoted_none}
use Rattle.gi_text.proofs.step.quoted_step.Goals as goal

pub returns-in-Some : goal.returns-in-Some
returns-in-Some c = quoted_some c.args.first c.args.rest.now c.in-Some.place c.in-Some.ensures

pub returns-in-None : goal.returns-in-None
returns-in-None c = quoted_none c.args.first c.args.rest.now c.in-None.ensures
