use Rattle.std.proofs.Common.{subst}
use Rattle.gi_options.specs.Options.{OptionsData}
use Rattle.gi_top.specs.Stop.{IsCause}
use Rattle.gi_top.proofs.top.text_for.Goals as goal

pub returns-in-Err-clause-cause : goal.returns-in-Err-clause-cause
returns-in-Err-clause-cause g c = λ tells.
    subst (λ (o : OptionsData). IsCause c.args.options.now (g.I.Input.stored c.args.input.now o.input) c.in-Err.why) c.options.view_is (c.in-Err.ensures.cause c.args.options.now tells)
