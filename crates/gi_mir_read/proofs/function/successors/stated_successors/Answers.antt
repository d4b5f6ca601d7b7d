use Rattle.std.proofs.Common.{arith}
use Rattle.gi_spelling.specs.Resolved.{block_place}
use Rattle.gi_mir_read.proofs.Functions.ToldLemmas.{map-push}
use Rattle.gi_mir_read.proofs.function.successors.stated_successors.Goals as goal

pub loop-number-preserved : goal.loop-number-preserved
loop-number-preserved c =
    map-push (block_place c.args.tables.now.blocks) c.args.numbers.now c.loop-number.number-index _ c.loop-number.places.items c.push.new.list.items c.place.result (omega arith)
    c.loop-number.invariant c.place.ensures c.in_ok-push.ensures
