use Rattle.std.proofs.Common.{◌∙◌, sym}
use Rattle.gi_rule_use.proofs.Accepted.{accepted_is}
use Rattle.gi_rule_use.proofs.staging.is_accepted.Goals as goal

pub returns : goal.returns
returns c before last = c.accepts_all.ensures ∙ sym (accepted_is c.args.target.xlen c.args.types.now before c.args.operation.now last)
