use Rattle.std.proofs.Common.{◌-◌, ap, sym, ◌∙◌, arith}
use Rattle.gi_resolve.proofs.ConstantLemmas.{value-below}
use Rattle.gi_resolve.proofs.constant.constant_value.Goals as goal

pub returns-then-is_below_zero : goal.returns-then-is_below_zero
returns-then-is_below_zero c =
    ap (λ n. n - (c.args.number.size - 1)) c.greatest.ensures
    ∙ value-below c.args.bits c.args.number (sym c.is_below_zero.ensures ∙ c.if-is_below_zero.true) c.requires (omega arith)
