use Rattle.std.proofs.Common.{◌≡◌, ◌∙◌, subst}
use Rattle.gi_mir.specs.Numbering.{number_in}
use Rattle.gi_mir_print.specs.Shown.{kind_at}
use Rattle.gi_mir_print.proofs.NoteLemmas.{kind_at-number_in}
use Rattle.gi_mir_print.proofs.registers.Registers.kind.Goals as goal

pub returns : goal.returns
returns c =
    subst (λ d. c.kind_or_class.result ≡ kind_at d (number_in d.order c.args.reg.0)) c.self.view_is
    (c.kind_or_class.ensures ∙ kind_at-number_in (record { order = c.self.inside.order; kinds = c.self.inside.kinds }) c.args.reg.0)
