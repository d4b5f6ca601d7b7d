use Rattle.gi_mir_print.proofs.ListSteps.{on_ok_joined, on_ok_same}
use Rattle.gi_mir_print.proofs.PieceLemmas.{access_bytes}
use Rattle.gi_mir_print.proofs.pieces.push_access.Goals as goal

pub returns : goal.returns
returns c =
    on_ok_same _ _ _ _ _ (access_bytes c.args.memory)
    (on_ok_joined _ c.args.out.now.items _ _ c.push_access_word.new.out.items _ c.in_ok-push_access_word.ensures c.push_access_rest.ensures)
