use Rattle.std.proofs.Common.{◌++◌, length, drop, ap, ◌∙◌, arith}
use Rattle.gi_mir_print.specs.Shown.{kind_at, shown_blocks}
use Rattle.gi_mir_print.proofs.FunctionLemmas.{blocks_led, blocks_led_text}
use Rattle.gi_mir_print.proofs.ListSteps.{drop_end, text_end}
use Rattle.gi_mir_print.proofs.functions.push_blocks.Goals as goal

pub returns : goal.returns
returns c =
    let blocks = c.args.function.now.blocks in
    let kinds = kind_at c.args.registers.now in
    text_end c.loop-place.out.items (blocks_led c.loop-place.lead.now kinds c.args.names.now c.loop-place.place (length blocks) (shown_blocks c.args.registers.now (drop c.loop-place.place blocks))) _
    (ap (λ bs. blocks_led c.loop-place.lead.now kinds c.args.names.now c.loop-place.place (length blocks) (shown_blocks c.args.registers.now bs))
    (drop_end blocks c.loop-place.place (omega arith)))
    c.loop-place.invariant
    ∙ ap (λ bs. c.args.out.now.items ++ bs) (blocks_led_text kinds c.args.names.now 0 (length blocks) (shown_blocks c.args.registers.now blocks))
