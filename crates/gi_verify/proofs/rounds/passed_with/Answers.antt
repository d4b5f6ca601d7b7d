use Rattle.std.proofs.Common.{refl}
use Rattle.gi_verify.proofs.Gathering.{over_one}
use Rattle.gi_verify.proofs.rounds.passed_with.Goals as goal

pub returns : goal.returns
returns c = over_one c.args.round.now c.args.numbered.now c.args.passed _ c.is_computed_with-is_computed.result c.change_with.ensures refl (λ h. (c.is_computed_with-is_computed.ensures.before h, c.is_computed_with-is_computed.ensures.here h))
