use Rattle.std.proofs.Common.{◌∷◌, [], codes, decimal}
use Rattle.gi_mir_print.proofs.FunctionLemmas.{eight}
use Rattle.gi_mir_print.proofs.ListSteps.{on_ok_joined, on_ok_same}
use Rattle.gi_mir_print.proofs.functions.push_object.Goals as goal

pub returns : goal.returns
returns c =
    on_ok_same _ c.args.out.now.items _ _ _
    (eight (codes "  - { id: ") (decimal c.args.place) (codes ", size: ") (decimal c.args.object.size) (codes ", alignment: ") (decimal c.args.object.align) (codes " }") (10 ∷ []))
    (on_ok_joined _ c.args.out.now.items _ _ c.push.new.out.items _ c.in_ok-push.ensures
    (on_ok_joined _ c.push.new.out.items _ _ c.push_number.new.out.items _ c.in_ok-push_number.ensures
    (on_ok_joined _ c.push_number.new.out.items _ _ c.push-2.new.out.items _ c.in_ok-push-2.ensures
    (on_ok_joined _ c.push-2.new.out.items _ _ c.push_number-2.new.out.items _ c.in_ok-push_number-2.ensures
    (on_ok_joined _ c.push_number-2.new.out.items _ _ c.push-3.new.out.items _ c.in_ok-push-3.ensures
    (on_ok_joined _ c.push-3.new.out.items _ _ c.push_number-3.new.out.items _ c.in_ok-push_number-3.ensures c.push-4.ensures))))))
