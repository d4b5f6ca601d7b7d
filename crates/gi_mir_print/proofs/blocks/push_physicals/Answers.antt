use Rattle.std.proofs.Common.{◌++◌, drop, sym, ap, ◌∙◌, arith}
use Rattle.gi_spelling.specs.Printed.{physical_pieces}
use Rattle.gi_mir_print.proofs.ListSteps.{drop_end, text_end}
use Rattle.gi_mir_print.proofs.PieceLemmas.{led, sources_led}
use Rattle.gi_mir_print.proofs.blocks.push_physicals.Goals as goal

pub returns : goal.returns
returns c =
    text_end c.loop-number.out.items (led c.loop-number.lead.now (physical_pieces (drop c.loop-number.number-index c.args.numbers.now))) _
    (ap (λ ys. led c.loop-number.lead.now (physical_pieces ys)) (drop_end c.args.numbers.now c.loop-number.number-index (omega arith)))
    c.loop-number.invariant
    ∙ ap (λ bs. c.args.out.now.items ++ bs) (sym (sources_led (physical_pieces c.args.numbers.now)))
