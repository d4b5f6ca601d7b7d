use Rattle.std.proofs.Common.{subst}
use Rattle.gi_verify.specs.Settled.{IsFree}
use Rattle.gi_verify.proofs.settled.is_free_at.Goals as goal

pub returns : goal.returns
returns c = λ h. subst (λ l. IsFree c.args.function.now l c.args.b c.args.id.0) c.of-limit.ensures (c.is_free.ensures h)
