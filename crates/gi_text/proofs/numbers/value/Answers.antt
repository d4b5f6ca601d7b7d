use Rattle.std.proofs.Common.{sym, ◌∙◌}
use Rattle.gi_text.proofs.NumberLemmas.{none_at, held_at_end}
use Rattle.gi_text.proofs.numbers.value.Goals as goal

pub returns-in_err-size : goal.returns-in_err-size
returns-in_err-size c =
    c.from_residual.ensures ∙ none_at c.args.base c.loop-digit.size c.args.digits.now c.loop-digit.digit-index _ c.requires c.loop-digit-test.true
    (sym c.in_err-size.was ∙ c.extended.ensures) c.loop-digit.invariant.value

pub returns : goal.returns
returns c = held_at_end c.args.base c.loop-digit.size c.args.digits.now c.loop-digit.digit-index _ c.loop-digit-test.false c.loop-digit.invariant.held c.loop-digit.invariant.value
