use Rattle.std.proofs.Common.{rules}
use Rattle.gi_verify.proofs.Using.{sure_use}
use Rattle.gi_verify.proofs.sure.is_sure.Goals as goal

pub returns-else-is_phi : goal.returns-else-is_phi
returns-else-is_phi c = λ h.
    sure_use c.args.function.now c.args.round.now c.args.starts.now c.requires.closed c.args.b c.requires.within c.args.numbered.now c.args.seen c.requires.seen (search rules) c.args.change c.there_with.result (search rules) (c.is_within.ensures h)
