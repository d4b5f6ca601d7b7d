use Rattle.std.proofs.Common.{◌<◌, ◌∙◌, ap, length, arith}
use Rattle.gi_valid.specs.Faults.{last_line}
use Rattle.gi_verify.proofs.Told.{one_list_told}
use Rattle.gi_verify.proofs.site.tell_successors.Goals as goal

pub loop-b-preserved : goal.loop-b-preserved
loop-b-preserved c =
    let within : c.loop-b.b < length c.args.function.now.blocks = omega arith in
    one_list_told c.args.function.now c.loop-b.b within c.loop-b.line c.last_line-line.result (c.last_line-line.ensures ∙ ap (last_line c.loop-b.line) c.instrs.ensures) c.unknown_successor-what.result
    c.unknown_successor-what.ensures c.loop-b.lowest c.told_with-lowest.result c.told_with-lowest.ensures
    ∙ c.loop-b.invariant
