use Rattle.std.proofs.Common.{⊎_elim}
use Rattle.gi_verify.proofs.Sooner.{answer_within}
use Rattle.gi_verify.proofs.uses.is_within.Goals as goal

pub returns : goal.returns
returns c = λ h.
    ⊎_elim
    (λ once. answer_within c.args.function.now c.args.order.now.once c.args.r c.args.b c.requires.within once)
    (λ first. answer_within c.args.function.now c.args.order.now.first c.args.r c.args.b c.requires.within first) (c.comes_within.ensures h)
