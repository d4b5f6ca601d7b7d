use Rattle.std.proofs.Common.{◌++◌, drop, sym, ap, ◌∙◌, arith}
use Rattle.gi_spelling.specs.Printed.{block_pieces}
use Rattle.gi_mir_print.proofs.ListSteps.{drop_end, text_end}
use Rattle.gi_mir_print.proofs.PieceLemmas.{led, sources_led}
use Rattle.gi_mir_print.proofs.blocks.push_places.Goals as goal

pub returns : goal.returns
returns c =
    text_end c.loop-place.out.items (led c.loop-place.lead.now (block_pieces (drop c.loop-place.place-index c.args.places.now))) _
    (ap (λ ys. led c.loop-place.lead.now (block_pieces ys)) (drop_end c.args.places.now c.loop-place.place-index (omega arith)))
    c.loop-place.invariant
    ∙ ap (λ bs. c.args.out.now.items ++ bs) (sym (sources_led (block_pieces c.args.places.now)))
