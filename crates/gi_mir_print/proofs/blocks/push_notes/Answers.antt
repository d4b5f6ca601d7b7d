use Rattle.gi_spelling.specs.Printed.{liveins_lines}
use Rattle.gi_mir_print.specs.Shown.{successors_stated}
use Rattle.gi_mir_print.proofs.LineLemmas.{noted_bytes}
use Rattle.gi_mir_print.proofs.ListSteps.{on_ok_joined, on_ok_same}
use Rattle.gi_mir_print.proofs.blocks.push_notes.Goals as goal

pub returns : goal.returns
returns c =
    on_ok_same _ c.args.out.now.items _ _ _ (noted_bytes (successors_stated c.args.is_stated c.args.successors.now) (liveins_lines c.args.liveins.now))
    (on_ok_joined _ c.args.out.now.items _ _ c.push_successors.new.out.items _ c.in_ok-push_successors.ensures
    (on_ok_joined _ c.push_successors.new.out.items _ _ c.push_liveins.new.out.items _ c.in_ok-push_liveins.ensures c.push_gap.ensures))
