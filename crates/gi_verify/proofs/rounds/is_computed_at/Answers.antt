use Rattle.gi_verify.proofs.Using.{computed_at}
use Rattle.gi_verify.proofs.rounds.is_computed_at.Goals as goal

pub returns-then-is_apart : goal.returns-then-is_apart
returns-then-is_apart c = λ h. computed_at c.args.round.now c.args.numbered.now c.args.seen c.either.result c.requires c.either.ensures (c.is_apart.ensures h)
