use Rattle.std.proofs.Common.{refl, arith}
use Rattle.gi_verify.proofs.Using.{sure_end}
use Rattle.gi_verify.proofs.sure.is_sure_end.Goals as goal

pub returns-then-a-block_count : goal.returns-then-a-block_count
returns-then-a-block_count c = λ h.
    sure_end c.args.function.now c.args.round.now c.args.changes.now c.args.starts.now c.requires.changes c.requires.closed c.args.r c.args.a (omega arith) _ _ refl c.role.result.named c.word_at.result c.there_with-end.result c.word_at.ensures
    c.there_with-end.ensures c.role.ensures.named (c.is_within.ensures h)
