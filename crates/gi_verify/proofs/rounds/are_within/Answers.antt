use Rattle.std.proofs.Common.{◌<◌, length, ap, arith, ◌∙◌}
use Rattle.gi_verify.specs.Rounds.{has}
use Rattle.gi_verify.proofs.Gathering.{within_on}
use Rattle.gi_verify.proofs.rounds.are_within.Goals as goal

pub loop-b-preserved : goal.loop-b-preserved
loop-b-preserved c =
    let within : c.loop-b.b-index < length c.args.blocks.now = omega arith in
    within_on c.args.starts.now c.args.blocks.now c.loop-b.b-index c.args.end within c.loop-b.invariant
    (λ n h there. c.is_within.ensures c.if-not-is_within.false n h (ap (λ w. has w n) c.word_at.ensures ∙ there))
