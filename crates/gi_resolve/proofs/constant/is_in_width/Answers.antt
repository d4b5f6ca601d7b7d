use Rattle.std.proofs.Common.{◌-◌, ap, sym, ◌∙◌, arith}
use Rattle.std.specs.Prelude.{nat_le}
use Rattle.gi_resolve.proofs.ConstantLemmas.{width-below, width-above}
use Rattle.gi_resolve.proofs.constant.is_in_width.Goals as goal

pub returns-then-bits-gt0 : goal.returns-then-bits-gt0
returns-then-bits-gt0 c =
    ap (nat_le (c.args.number.size - 1)) c.greatest.ensures
    ∙ width-below c.args.bits c.args.number (sym c.is_below_zero.ensures ∙ c.if-is_below_zero.true) (omega arith) (omega arith)

pub returns-else-is_below_zero : goal.returns-else-is_below_zero
returns-else-is_below_zero c =
    ap (nat_le c.args.number.size) c.greatest-else-is_below_zero.ensures
    ∙ width-above c.args.bits c.args.number (sym c.is_below_zero.ensures ∙ c.if-is_below_zero.false) (omega arith)
