use Rattle.std.proofs.Common.{arith}
use Rattle.gi_meaning.proofs.Numbers.{negative_bits, negative_zero, positive_bits}
use Rattle.gi_meaning.proofs.bits.bits_of.Goals as goal
use Rattle.gi_meaning.proofs.bits.bits_of.Goals.{else-negative-via-then-negative+else-low-ne0, else-negative-via-else-negative}

pub returns-then-low-ne0 : goal.returns-then-low-ne0
returns-then-low-ne0 c =
    negative_bits c.args.n c.args.size _ _ c.args.negative c.if-negative.true c.wrap-low.ensures (omega arith) c.greatest.ensures

pub returns-else-negative : goal.returns-else-negative
returns-else-negative c = elim c.else-negative.branch [
  | else-negative-via-then-negative+else-low-ne0 w ↦ negative_zero c.args.n c.args.size _ c.args.negative w.if-negative.true c.wrap-low.ensures (omega arith)
  | else-negative-via-else-negative w ↦ positive_bits c.args.n c.args.size _ c.args.negative w.if-negative.false c.wrap-low.ensures
]
