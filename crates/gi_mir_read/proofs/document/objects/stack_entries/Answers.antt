use Rattle.std.proofs.Common.{◌+◌, ◌*◌, ◌^◌, arith}
use Rattle.gi_mir_read.proofs.Documents.StackLemmas.{deeper, entries-more, same-at}
use Rattle.gi_mir_read.proofs.document.objects.stack_entries.Goals as goal

pub loop-place-preserved : goal.loop-place-preserved
loop-place-preserved c = record {
  depth = c.next-entry.ensures.depth ((c.loop-place.place + 1) * 2 ^ 64)
      (deeper c.in_ok-found.found _ _ (omega (arith, c.loop-place.invariant.depth)) c.in_ok-found.ensures.depth);
  entries = entries-more c.args.text.now c.args.lines.now c.loop-place.place c.loop-place.entry c.next-entry.result c.loop-place.entries.items _ _ _ c.in_ok-found.found c.ended.result
      c.loop-place-test.true (same-at _ _ _ _ c.loop-place-test.true) c.in_ok-found.ensures.value c.ended.ensures c.next-entry.ensures.value c.in_ok-append.ensures c.loop-place.invariant.entries;
}
