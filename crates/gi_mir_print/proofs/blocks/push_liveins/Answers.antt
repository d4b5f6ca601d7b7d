use Rattle.std.proofs.Common.{sym}
use Rattle.gi_mir_print.proofs.LineLemmas.{liveins_bytes}
use Rattle.gi_mir_print.proofs.ListSteps.{on_ok_joined, on_ok_same}
use Rattle.gi_mir_print.proofs.blocks.push_liveins.Goals as goal

pub returns-in_ok-push_physicals : goal.returns-in_ok-push_physicals
returns-in_ok-push_physicals c =
    on_ok_same _ c.args.out.now.items _ _ _ (liveins_bytes c.args.liveins.now (sym c.if-is_empty.ensures))
    (on_ok_joined _ c.args.out.now.items _ _ c.push.new.out.items _ c.in_ok-push.ensures
    (on_ok_joined _ c.push.new.out.items _ _ c.push_physicals.new.out.items _ c.in_ok-push_physicals.ensures c.push-else-is_empty.ensures))
