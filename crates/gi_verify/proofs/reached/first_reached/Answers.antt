use Rattle.std.proofs.Common.{◌∙◌}
use Rattle.gi_verify.proofs.reached.first_reached.Goals as goal

pub loop-a-preserved : goal.loop-a-preserved
loop-a-preserved c = (c.mark_at.ensures.count ∙ c.loop-a.invariant.0, λ h. c.mark_at.ensures.kept 0 (c.loop-a.invariant.1 h), c.mark_at.ensures.sound c.loop-a.invariant.2)
